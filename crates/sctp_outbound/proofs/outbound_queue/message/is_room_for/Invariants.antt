use Rattle.std.proofs.Common.{◌≡◌, ◌+◌, ◌^◌, ◌<◌, take}
use Rattle.sctp_serial.specs.DataChunks.{bytes_of}
use Rattle.sctp_outbound.proofs.outbound_queue.message.is_room_for.Given as goal

abbrev pub invariant-loop-chunk : goal.invariant-loop-chunk
invariant-loop-chunk l = record {
  sum : l.all ≡ l.n_bytes + bytes_of (take l.chunk-index l.chunks);
  fits : l.all < 2 ^ 64;
}
