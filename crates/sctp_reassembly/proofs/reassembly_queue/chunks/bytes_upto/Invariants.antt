use Rattle.std.proofs.Common.{◌≡◌, ◌-◌, ◌^◌, take, min}
use Rattle.sctp_serial.specs.DataChunks.{bytes_of}
use Rattle.sctp_reassembly.specs.reassembly_queue.Resets.{chunks_upto}
use Rattle.sctp_reassembly.proofs.reassembly_queue.chunks.bytes_upto.Given as goal

abbrev pub invariant-loop-chunk : goal.invariant-loop-chunk
invariant-loop-chunk l = l.len ≡ min (bytes_of (chunks_upto l.tsn (take l.chunk-index l.chunks))) (2 ^ 64 - 1)
