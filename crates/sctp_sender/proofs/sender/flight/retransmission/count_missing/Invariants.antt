use Rattle.sctp_sender.proofs.Names.{◌≡◌, ℕ, ◌+◌, ◌-◌, ◌<◌, ◌≤◌, ◌++◌, false, length, take, drop, slice_index_or, filter, change_where, ChunkPayloadData}
use Rattle.sctp_sender.proofs.Names.{with_inflight, can_miss, is_third, missed}
use Rattle.sctp_sender.proofs.sender.flight.retransmission.count_missing.Given as goal

abbrev pub invariant-loop-place : goal.invariant-loop-place
invariant-loop-place l = record {
  missed : l.queue ≡ with_inflight l.initial.queue
      (change_where can_miss missed (take l.place l.initial.queue.inflight.chunks) ++ drop l.place l.initial.queue.inflight.chunks);
  thirds : l.thirds ≡ length (filter is_third (take l.place l.initial.queue.inflight.chunks));
  few : l.thirds ≤ l.place;
  passed : l.next ≤ l.place;
  not_back : l.initial.turns ≤ l.turns;
  turns : l.turns ≤ l.initial.turns + l.place + l.next;
  within : l.place ≤ l.count;
  before : (k : ℕ) (d : ChunkPayloadData) → k < l.place → k < l.first_third → k < length l.initial.queue.inflight.chunks
      → is_third (slice_index_or l.initial.queue.inflight.chunks k d) ≡ false;
  least : l.first_third ≤ l.count;
}

abbrev pub decreases-loop-place : goal.decreases-loop-place
decreases-loop-place l = (l.count - l.place) + (length l.known - l.next)
