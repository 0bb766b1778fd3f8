use Rattle.std.proofs.Common.{◌≡◌, ◌+◌, not, drop}
use Rattle.std.specs.List.{position_or_len}
use Rattle.sctp_util.specs.Serial.{at_or_before}
use Rattle.sctp_reassembly.proofs.reassembly_queue.unassembled_places.front_upto.Given as goal

abbrev pub invariant-loop-place : goal.invariant-loop-place
invariant-loop-place l = record {
  place : position_or_len (λ c. not (at_or_before c.tsn l.tsn)) l.unassembled.chunks ≡ l.place + position_or_len (λ c. not (at_or_before c.tsn l.tsn))
      (drop l.place l.unassembled.chunks);
  cost : l.turns ≡ l.initial.turns + l.place;
}
