use Rattle.sctp_sender.proofs.Names.{◌≡◌, ◌+◌, ◌≤◌, length, map, take, slice_index_or, vec_capacity, ChunkPayloadData, answered_of_placed}
use Rattle.sctp_sender.proofs.sender.flight.kept.answered_back_counted.Given as goal

abbrev pub invariant-loop-back : goal.invariant-loop-back
invariant-loop-back l = record {
  answered : (d : ChunkPayloadData) → l.answered.items
      ≡ map (λ b. answered_of_placed b (slice_index_or l.queue.inflight.chunks b.place d)) (take l.back-index l.backs);
  count : length l.answered.items ≡ l.back-index;
  top : l.back-index ≤ length l.backs;
  turns : l.turns ≡ l.initial.turns + l.back-index;
  room : length l.backs ≤ vec_capacity l.answered;
  places : l.places.items ≡ map (λ b. b.place) (take l.back-index l.backs);
  places_count : length l.places.items ≡ l.back-index;
  places_room : length l.backs ≤ vec_capacity l.places;
}
