use Rattle.std.proofs.Common.{◌≡◌, ◌+◌, ◌-◌, ◌^◌, length, take}
use Rattle.std.specs.Prelude.{map, min}
use Rattle.sctp_chunks.specs.Kind.{wire_of}
use Rattle.sctp_packets.specs.Packet.{body_of}
use Rattle.sctp_packets.proofs.packet.length_with.Given as goal

abbrev pub invariant-loop-chunk : goal.invariant-loop-chunk
invariant-loop-chunk l = record {
  total : l.total ≡ min (12 + length (body_of (map wire_of (take l.chunk-index l.chunks)))) (2 ^ 64 - 1);
}
