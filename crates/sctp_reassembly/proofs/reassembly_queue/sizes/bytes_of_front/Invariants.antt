use Rattle.std.proofs.Common.{◌≡◌, ◌+◌, ◌-◌, ◌^◌, take, min}
use Rattle.sctp_serial.specs.DataChunks.{bytes_of}
use Rattle.sctp_reassembly.proofs.reassembly_queue.sizes.bytes_of_front.Given as goal

abbrev pub invariant-loop-place : goal.invariant-loop-place
invariant-loop-place l = record {
  bytes : l.len ≡ min (bytes_of (take l.place l.unassembled.chunks)) (2 ^ 64 - 1);
  turns : l.turns ≡ l.initial.turns + l.place;
}
