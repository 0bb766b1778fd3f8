use Rattle.std.proofs.Common.{◌≡◌, ◌+◌, drop}
use Rattle.std.specs.List.{position_or_len}
use Rattle.sctp_util.specs.Serial.{comes_before}
use Rattle.sctp_reassembly.proofs.reassembly_queue.unassembled_places.first_after.Given as goal

abbrev pub invariant-loop-place : goal.invariant-loop-place
invariant-loop-place l = record {
  place : position_or_len (λ e. comes_before l.tsn e.tsn) l.unassembled.chunks ≡ l.place + position_or_len (λ e. comes_before l.tsn e.tsn)
      (drop l.place l.unassembled.chunks);
  turns : l.turns ≡ l.initial.turns + l.place;
}
