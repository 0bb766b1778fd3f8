use Rattle.std.proofs.Common.{◌≡◌, ◌≤◌, ◌+◌, false, length, drop}
use Rattle.std.specs.List.{list_any}
use Rattle.sctp_serial.specs.DataChunks.{has_tsn}
use Rattle.sctp_reassembly.proofs.reassembly_queue.unassembled_places.last_among.Given as goal

abbrev pub invariant-loop-end : goal.invariant-loop-end
invariant-loop-end l = record {
  in_range : l.end ≤ length l.unassembled.chunks;
  turns : l.turns + l.end ≡ l.initial.turns + length l.unassembled.chunks;
  absent : list_any (has_tsn l.tsn) (drop l.end l.unassembled.chunks) ≡ false;
}

abbrev pub decreases-loop-end : goal.decreases-loop-end
decreases-loop-end l = l.end
