use Rattle.std.proofs.Common.{◌≡◌, drop}
use Rattle.std.specs.List.{list_any}
use Rattle.sctp_reassembly.specs.reassembly_queue.Skips.{settles}
use Rattle.sctp_reassembly.proofs.reassembly_queue.skips.has_settled.Given as goal

abbrev pub invariant-loop-place : goal.invariant-loop-place
invariant-loop-place l =
    list_any (settles l.next_ssn l.last_ssn l.tsn) (drop l.place l.sets.items) ≡ list_any (settles l.next_ssn l.last_ssn l.tsn) l.sets.items
