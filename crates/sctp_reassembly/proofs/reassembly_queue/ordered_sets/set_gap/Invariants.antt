use Rattle.std.proofs.Common.{◌≡◌, ◌+◌, drop}
use Rattle.std.specs.List.{position_or_len}
use Rattle.sctp_util.specs.Serial.{comes_before16}
use Rattle.sctp_reassembly.proofs.reassembly_queue.ordered_sets.set_gap.Given as goal

abbrev pub invariant-loop-place : goal.invariant-loop-place
invariant-loop-place l = record {
  place : position_or_len (λ s. comes_before16 l.ssn s.ssn) l.sets.items ≡ l.place + position_or_len (λ s. comes_before16 l.ssn s.ssn)
      (drop l.place l.sets.items);
  turns : l.turns ≡ l.initial.turns + l.place;
}
