use Rattle.sctp_sender.proofs.Names.{◌≡◌, ℕ, ◌-◌, ◌<◌, ◌≤◌, true, get_or, take, filter, ChunkPayloadData, ends, IsMore, is_named}
use Rattle.sctp_sender.proofs.sender.flight.skips.pairs_to_end.Given as goal

abbrev pub invariant-loop-count : goal.invariant-loop-count
invariant-loop-count l = record {
  within : l.left ≤ l.most;
  beyond : (k : ℕ) (d : ChunkPayloadData) → l.left < k → k ≤ l.most → ends (get_or l.queue.inflight.chunks (k - 1) d) ≡ true
      → IsMore l.room (filter is_named (take k l.queue.inflight.chunks));
}

abbrev pub decreases-loop-count : goal.decreases-loop-count
decreases-loop-count l = l.left
