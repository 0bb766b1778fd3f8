use Rattle.sctp_sender.proofs.Names.{◌≡◌, ℕ, ◌+◌, ◌*◌, ◌-◌, ◌<◌, ◌≤◌, Bool, get_or, length, map, take, filter, ChunkPayloadData, GapAckBlock, unknown_from}
use Rattle.sctp_sender.proofs.Names.{released_of, PicksOpen, no_message}
use Rattle.sctp_sender.proofs.KnownPlaces.{any_block}
use Rattle.sctp_sender.proofs.sender.flight.answers.tell_between.Given as goal

abbrev pub invariant-loop-place : goal.invariant-loop-place
invariant-loop-place l = record {
  from : l.places.0 ≤ l.place;
  within : l.place ≤ l.places.1;
  onward : l.initial.next ≤ l.next;
  inside : l.initial.next ≤ length l.known → l.next ≤ length l.known;
  not_back : l.initial.turns ≤ l.turns;
  cost : l.turns + l.initial.next + 2 * l.places.0 ≤ l.initial.turns + l.next + 2 * l.place;
  passed : (i : ℕ) (b : GapAckBlock) → i < l.next → (get_or l.known i b).end ≤ l.place;
  unknown : l.turns + 2 * l.initial.next ≤ l.initial.turns + 2 * l.next + 2 * unknown_from l.known l.places.0 (l.place - l.places.0) + 1;
  settled : l.place < l.places.1 → (l.next < length l.known → l.place < (get_or l.known l.next any_block).end)
      → l.turns + 2 * l.initial.next ≤ l.initial.turns + 2 * l.next + 2 * unknown_from l.known l.places.0 (l.place - l.places.0);
  answered : (p : ChunkPayloadData → Bool) → PicksOpen p l.places.0 l.places.1 l.queue.inflight.chunks
      → l.initial.released.items ≡ map (released_of no_message) (filter p (take l.places.0 l.queue.inflight.chunks))
      → l.released.items ≡ map (released_of no_message) (filter p (take l.place l.queue.inflight.chunks));
}

abbrev pub decreases-loop-place : goal.decreases-loop-place
decreases-loop-place l = (l.places.1 - l.place) + (length l.known - l.next)
