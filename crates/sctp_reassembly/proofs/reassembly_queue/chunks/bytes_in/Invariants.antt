use Rattle.std.proofs.Common.{◌≡◌, ◌+◌, ◌-◌, ◌^◌, take, min}
use Rattle.sctp_serial.specs.DataChunks.{bytes_of}
use Rattle.sctp_reassembly.proofs.reassembly_queue.chunks.bytes_in.Given as goal

abbrev pub invariant-loop-chunk : goal.invariant-loop-chunk
invariant-loop-chunk l = record {
  bytes : l.len ≡ min (bytes_of (take l.chunk-index l.chunks)) (2 ^ 64 - 1);
  turns : l.turns ≡ l.initial.turns + l.chunk-index;
}
