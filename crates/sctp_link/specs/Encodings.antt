-- The bytes of a datagram: a packet between ports 5000, under tag 1.
use Rattle.std.specs.Prelude.{◌≡◌, ℕ, List, [], ◌∷◌, map}
use Rattle.sctp_data.specs.declared.chunk.chunk_selective_ack.GapAckBlock.{GapAckBlock}
use Rattle.sctp_data.specs.declared.chunk.chunk_forward_tsn.ChunkForwardTsnStream.{ChunkForwardTsnStream}
use Rattle.sctp_data.specs.declared.chunk.chunk_payload_data.ChunkPayloadData.{ChunkPayloadData}
use Rattle.sctp_data.specs.PayloadData.{data_of}
use Rattle.sctp_chunks.specs.Wire.{Wire, data_chunk, sack_chunk, forward_tsn_chunk}
use Rattle.sctp_packets.specs.Packet.{Parts, ReadsPacket, packet_encoding}
use Rattle.sctp_model.specs.Contents.{Contents, DataContents, ForwardContents, SackContents}

abbrev pub packet_with : List Wire → Parts
packet_with chunks =
    record { source_port = 5000; destination_port = 5000; verification_tag = 1; chunks = chunks }

abbrev pub wire_data : ChunkPayloadData → Wire
wire_data c = data_chunk (data_of c)

abbrev pub block_of : ℕ × ℕ → GapAckBlock
block_of b = record { start = b.0; end = b.1 }

abbrev pub named_stream : ℕ × ℕ → ChunkForwardTsnStream
named_stream n = record { identifier = n.0; sequence = n.1 }

-- what a datagram says, as chunks
abbrev pub chunks_of : Contents → List Wire
chunks_of (DataContents chunks) = map wire_data chunks
chunks_of (ForwardContents cumulative names) =
    forward_tsn_chunk (record { new_cumulative_tsn = cumulative; streams = map named_stream names })
    ∷ []
chunks_of (SackContents cumulative credit blocks duplicates) =
    sack_chunk (record {
      cumulative_tsn_ack = cumulative;
      advertised_receiver_window_credit = credit;
      gap_ack_blocks = map block_of blocks;
      duplicate_tsn = duplicates;
    }) ∷ []

abbrev pub packet_of : Contents → Parts
packet_of c = packet_with (chunks_of c)

-- the bytes of a datagram, under a checksum
abbrev pub datagram_encoding : (List ℕ → ℕ) → Contents → List ℕ
datagram_encoding sum c = packet_encoding sum (packet_of c)

-- the bytes are that datagram, and read back
pub record IsDatagram (sum : List ℕ → ℕ) (c : Contents) (bytes : List ℕ) : Type 0 where
  pub encoding : bytes ≡ datagram_encoding sum c
  pub reads : ReadsPacket sum bytes (packet_of c)
