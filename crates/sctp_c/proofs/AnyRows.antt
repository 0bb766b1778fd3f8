-- Rows of chunks of any types, for a caller in C.
use Rattle.std.proofs.Common.{◌≡◌, ℕ, List, length, map, sym, ◌∙◌}
use Rattle.std.proofs.lemmas.List.{length-map}
use Rattle.sctp_packets.specs.Packet.{IsHeaded}
use Rattle.sctp_datagram.proofs.Walk.{mapped}
use Rattle.sctp_datagram.specs.Places as places
use Rattle.sctp_datagram.specs.declared.datagram.ChunkPlace.{ChunkPlace}
use Rattle.sctp_c.specs.AnyChunks.{IsAnyPacket, any_row}
use Rattle.sctp_c.specs.Head.{HeadsPacket}
use Rattle.sctp_c.specs.Out.{filled}
use Rattle.sctp_c.specs.declared.packet.SctpHead.{SctpHead}
use Rattle.sctp_c.specs.declared.packet.any.SctpAnyChunk.{SctpAnyChunk}

-- so told, the bytes are a packet
pub is_any_packet : (sum : List ℕ → ℕ) (bytes : List ℕ) (h : SctpHead) (n : ℕ) (all : List ChunkPlace) (old new : List SctpAnyChunk) → IsHeaded sum bytes
    → places.TellsAll places.place_at bytes all → n ≡ length all → HeadsPacket bytes h → new ≡ filled (map any_row all) old
    → IsAnyPacket sum bytes h n old new
is_any_packet sum bytes h n all old new headed told many head rows = record {
  headed = headed;
  head = head;
  all = map any_row all;
  answered = mapped places.place_at any_row bytes all told;
  chunks = many ∙ sym (length-map all any_row);
  rows = rows;
}
