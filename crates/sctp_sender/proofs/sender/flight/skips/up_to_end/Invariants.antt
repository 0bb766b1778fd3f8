use Rattle.sctp_sender.proofs.Names.{◌≡◌, ℕ, ◌-◌, ◌<◌, ◌≤◌, false, get_or, ChunkPayloadData, ends}
use Rattle.sctp_sender.proofs.sender.flight.skips.up_to_end.Given as goal

abbrev pub invariant-loop-end : goal.invariant-loop-end
invariant-loop-end l = record {
  within : l.end ≤ l.count;
  last : (k : ℕ) (d : ChunkPayloadData) → l.end < k → k ≤ l.count → ends (get_or l.queue.inflight.chunks (k - 1) d) ≡ false;
}

abbrev pub decreases-loop-end : goal.decreases-loop-end
decreases-loop-end l = l.end
