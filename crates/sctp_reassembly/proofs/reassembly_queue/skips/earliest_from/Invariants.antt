use Rattle.std.proofs.Common.{◌≡◌, drop, None}
use Rattle.sctp_reassembly.specs.reassembly_queue.Skips.{earliest_from}
use Rattle.sctp_reassembly.proofs.reassembly_queue.skips.earliest_from.Given as goal

abbrev pub invariant-loop-place : goal.invariant-loop-place
invariant-loop-place l = earliest_from l.first l.last_ssn (drop l.place l.sets.items) ≡ earliest_from None l.last_ssn l.sets.items
