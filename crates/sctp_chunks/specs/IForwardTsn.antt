-- I-FORWARD-TSN: the same with message identifiers (RFC 8260 2.3.1, but for the place of the unordered bit).
use Rattle.std.specs.Prelude.{◌≡◌, ℕ, ◌+◌, ◌-◌, ◌*◌, ◌/◌, ◌≤◌, List, [], ◌∷◌, ◌++◌, length, slice_index}
use Rattle.std.specs.List.{flat_map}
use Rattle.sctp_util.specs.Each.{each}
use Rattle.sctp_util.specs.Field.{be16, be32, u16_at, u32_at}
use Rattle.sctp_data.specs.PayloadData.{has_flag, weight}
use Rattle.sctp_chunks.specs.declared.chunk.chunk_i_forward_tsn.ChunkIForwardTsnStream.{ChunkIForwardTsnStream}
use Rattle.sctp_chunks.specs.declared.chunk.chunk_i_forward_tsn.ChunkIForwardTsn.{ChunkIForwardTsn}

-- the wire part of an I-FORWARD-TSN
pub record IForwardTsn : Type 0 where
  pub new_cumulative_tsn : ℕ
  pub streams : List ChunkIForwardTsnStream

abbrev pub i_forward_tsn_of : ChunkIForwardTsn → IForwardTsn
i_forward_tsn_of c = record { new_cumulative_tsn = c.new_cumulative_tsn; streams = c.streams.items }

-- stream, flags of which the lowest says unordered, a reserved byte, message identifier
abbrev pub entry_at : List ℕ → ℕ → ChunkIForwardTsnStream
entry_at bytes at =
    record {
      identifier = u16_at bytes at;
      unordered = has_flag (slice_index bytes (at + 2)) 1;
      mid = u32_at bytes (at + 4);
    }

-- what a value says: after the TSN an entry every eight bytes
abbrev pub i_forward_tsn_in : List ℕ → IForwardTsn
i_forward_tsn_in value = record {
  new_cumulative_tsn = u32_at value 0;
  streams = each ((length value - 4) / 8) (λ i. entry_at value (4 + 8 * i));
}

-- a rest under eight bytes is ignored
pub record ReadsIForwardTsn (value : List ℕ) (f : IForwardTsn) : Type 0 where
  pub long : 4 ≤ length value
  pub fields : f ≡ i_forward_tsn_in value

abbrev pub entry_encoding : ChunkIForwardTsnStream → List ℕ
entry_encoding s = be16 s.identifier ++ (weight s.unordered 1 ∷ 0 ∷ []) ++ be32 s.mid

unfoldable pub i_forward_tsn_value : IForwardTsn → List ℕ
i_forward_tsn_value f = be32 f.new_cumulative_tsn ++ flat_map entry_encoding f.streams
