-- FORWARD-TSN: TSNs up to a new cumulative one will not be sent again (RFC 3758 3.2).
use Rattle.std.specs.Prelude.{◌≡◌, ℕ, ◌+◌, ◌-◌, ◌*◌, ◌/◌, ◌%◌, ◌^◌, ◌<◌, ◌≤◌, List, ◌++◌, length}
use Rattle.std.specs.List.{flat_map}
use Rattle.sctp_util.specs.Each.{each}
use Rattle.sctp_util.specs.Field.{be16, be32, u16_at, u32_at}
use Rattle.sctp_data.specs.declared.chunk.chunk_forward_tsn.ChunkForwardTsnStream.{ChunkForwardTsnStream}
use Rattle.sctp_data.specs.declared.chunk.chunk_forward_tsn.ChunkForwardTsn.{ChunkForwardTsn}

-- the wire part of a FORWARD-TSN
pub record ForwardTsn : Type 0 where
  pub new_cumulative_tsn : ℕ
  pub streams : List ChunkForwardTsnStream

abbrev pub forward_tsn_of : ChunkForwardTsn → ForwardTsn
forward_tsn_of c = record { new_cumulative_tsn = c.new_cumulative_tsn; streams = c.streams.items }

abbrev pub stream_at : List ℕ → ℕ → ChunkForwardTsnStream
stream_at bytes at = record { identifier = u16_at bytes at; sequence = u16_at bytes (at + 2) }

-- numbers that fit the widths that they are written in
pub record FitsStream (s : ChunkForwardTsnStream) : Type 0 where
  pub identifier : s.identifier < 2 ^ 16
  pub sequence : s.sequence < 2 ^ 16

-- what a value says: after the TSN a pair every four bytes
abbrev pub forward_tsn_in : List ℕ → ForwardTsn
forward_tsn_in value = record {
  new_cumulative_tsn = u32_at value 0;
  streams = each ((length value - 4) / 4) (λ i. stream_at value (4 + 4 * i));
}

-- no rest of one to three bytes
pub record ReadsForwardTsn (value : List ℕ) (f : ForwardTsn) : Type 0 where
  pub long : 4 ≤ length value
  pub whole : (length value - 4) % 4 ≡ 0
  pub fields : f ≡ forward_tsn_in value

abbrev pub stream_encoding : ChunkForwardTsnStream → List ℕ
stream_encoding s = be16 s.identifier ++ be16 s.sequence

unfoldable pub forward_tsn_value : ForwardTsn → List ℕ
forward_tsn_value f = be32 f.new_cumulative_tsn ++ flat_map stream_encoding f.streams
