use Rattle.std.proofs.Common.{◌≡◌, ◌+◌, ◌≤◌, ◌++◌, length, take}
use Rattle.std.specs.Prelude.{map}
use Rattle.std.specs.List.{AllByRecursion}
use Rattle.sctp_chunks.specs.Kind.{wire_of}
use Rattle.sctp_chunks.specs.Wire.{HasEncoding}
use Rattle.sctp_chunks.specs.Fits.{Fits}
use Rattle.sctp_packets.specs.Packet.{body_of}
use Rattle.sctp_packets.proofs.packet.put_chunks.Given as goal

abbrev pub invariant-loop-chunk : goal.invariant-loop-chunk
invariant-loop-chunk l = record {
  items : l.buf.items ≡ l.fn.buf.items ++ body_of (map wire_of (take l.chunk-index l.chunks));
  spare : l.fn.buf.spare ≤ l.buf.spare + length (body_of (map wire_of (take l.chunk-index l.chunks)));
  fits : AllByRecursion Fits (map wire_of (take l.chunk-index l.chunks));
  fit : AllByRecursion HasEncoding (map wire_of (take l.chunk-index l.chunks));
}
