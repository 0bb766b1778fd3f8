use Rattle.sctp_link.proofs.Names.{◌≡◌, ◌≤◌, ℕ, Bool, length, max, LinkRecord, IsMarking, and_run}
use Rattle.sctp_link.proofs.link.sack_in.acknowledge_run.Given as goal

abbrev pub invariant-loop-place : goal.invariant-loop-place
invariant-loop-place l = record {
  acked : (w : LinkRecord) (acked : ℕ → Bool) → IsMarking w acked l.initial.slots → IsMarking w (and_run acked l.from l.place) l.slots;
  count : length l.slots ≡ length l.initial.slots;
  reach : l.place ≤ max l.from l.to;
}
