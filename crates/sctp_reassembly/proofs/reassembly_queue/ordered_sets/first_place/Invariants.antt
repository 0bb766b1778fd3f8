use Rattle.std.proofs.Common.{◌≡◌, ◌+◌, drop}
use Rattle.std.specs.List.{position_or_len}
use Rattle.sctp_reassembly.specs.reassembly_queue.Fragments.{has_ssn}
use Rattle.sctp_reassembly.proofs.reassembly_queue.ordered_sets.first_place.Given as goal

abbrev pub invariant-loop-place : goal.invariant-loop-place
invariant-loop-place l = record {
  place : position_or_len (has_ssn l.ssn) l.sets.items ≡ l.place + position_or_len (has_ssn l.ssn) (drop l.place l.sets.items);
  turns : l.turns ≡ l.initial.turns + l.place;
}
