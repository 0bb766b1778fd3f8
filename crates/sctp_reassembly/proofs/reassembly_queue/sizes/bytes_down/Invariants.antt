use Rattle.std.proofs.Common.{◌≡◌, ◌+◌, ◌-◌, ◌^◌, ◌≤◌, length, take, min, reverse}
use Rattle.sctp_reassembly.proofs.lemmas.reassembly_queue.Stretches.{RisesFrom}
use Rattle.sctp_reassembly.specs.reassembly_queue.Sizes.{bytes_down}
use Rattle.sctp_reassembly.proofs.reassembly_queue.sizes.bytes_down.Given as goal

abbrev pub invariant-loop-end : goal.invariant-loop-end
invariant-loop-end l = record {
  in_range : l.end ≤ length l.unassembled.chunks;
  small : l.total ≤ 2 ^ 64 - 1;
  counted : min (l.total + bytes_down l.next (reverse (take l.end l.unassembled.chunks)))
      (2 ^ 64 - 1) ≡ min (bytes_down l.tsn (reverse (take l.initial.end l.unassembled.chunks))) (2 ^ 64 - 1);
  turns : l.turns + l.end ≡ l.initial.turns + l.initial.end;
  rises : RisesFrom l.unassembled.chunks l.initial.end l.tsn l.end l.next;
  upto : l.end ≤ l.initial.end;
}

abbrev pub decreases-loop-end : goal.decreases-loop-end
decreases-loop-end l = l.end
