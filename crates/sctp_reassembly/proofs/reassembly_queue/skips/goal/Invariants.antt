use Rattle.std.proofs.Common.{◌≡◌, drop, None}
use Rattle.sctp_reassembly.specs.reassembly_queue.Skips.{earliest_unaffected}
use Rattle.sctp_reassembly.proofs.reassembly_queue.skips.goal.Given as goal

abbrev pub invariant-loop-place : goal.invariant-loop-place
invariant-loop-place l = earliest_unaffected l.goal l.last_ssn l.tsn (drop l.place l.sets.items) ≡ earliest_unaffected None l.last_ssn l.tsn l.sets.items
