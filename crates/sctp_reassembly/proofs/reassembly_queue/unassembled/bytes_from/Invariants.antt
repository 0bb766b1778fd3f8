use Rattle.std.proofs.Common.{◌≡◌, ◌+◌, ◌-◌, ◌^◌, take, drop, min}
use Rattle.sctp_serial.specs.DataChunks.{bytes_of}
use Rattle.sctp_reassembly.proofs.reassembly_queue.unassembled.bytes_from.Given as goal

abbrev pub invariant-loop-step : goal.invariant-loop-step
invariant-loop-step l = record {
  bytes : l.bytes ≡ min (bytes_of (take l.step (drop l.first l.chunks.items))) (2 ^ 64 - 1);
  turns : l.turns ≡ l.initial.turns + l.step;
}
