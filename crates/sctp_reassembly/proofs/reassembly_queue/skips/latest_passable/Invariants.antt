use Rattle.std.proofs.Common.{◌≡◌, drop, None}
use Rattle.sctp_reassembly.specs.reassembly_queue.Skips.{latest_passable}
use Rattle.sctp_reassembly.proofs.reassembly_queue.skips.latest_passable.Given as goal

abbrev pub invariant-loop-place : goal.invariant-loop-place
invariant-loop-place l = latest_passable l.found l.next_ssn l.last_ssn l.tsn l.peer_last_tsn (drop l.place l.sets.items)
    ≡ latest_passable None l.next_ssn l.last_ssn l.tsn l.peer_last_tsn l.sets.items
