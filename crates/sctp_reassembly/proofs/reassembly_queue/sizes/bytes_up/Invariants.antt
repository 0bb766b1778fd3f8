use Rattle.std.proofs.Common.{◌≡◌, ◌+◌, ◌-◌, ◌^◌, ◌≤◌, length, drop, min}
use Rattle.sctp_reassembly.proofs.lemmas.reassembly_queue.Stretches.{RisesTo}
use Rattle.sctp_reassembly.specs.reassembly_queue.Sizes.{bytes_up}
use Rattle.sctp_reassembly.proofs.reassembly_queue.sizes.bytes_up.Given as goal

abbrev pub invariant-loop-place : goal.invariant-loop-place
invariant-loop-place l = record {
  small : l.total ≤ 2 ^ 64 - 1;
  counted : min (l.total + bytes_up l.last (drop l.place l.unassembled.chunks)) (2 ^ 64 - 1) ≡ min (bytes_up l.tsn (drop l.from l.unassembled.chunks))
      (2 ^ 64 - 1);
  at_or_after : l.from ≤ l.place;
  in_range : l.place ≤ length l.unassembled.chunks;
  turns : l.turns + l.from ≡ l.initial.turns + l.place;
  rises : RisesTo l.unassembled.chunks l.from l.tsn l.place l.last;
}

abbrev pub decreases-loop-place : goal.decreases-loop-place
decreases-loop-place l = length l.unassembled.chunks - l.place
