-- What the bytes of a DATA chunk and of a SACK say, by their type alone.
use Rattle.std.proofs.Common.{◌≡◌, ℕ, ◌+◌, ◌<◌, ◌≤◌, List, [], ◌∷◌, length, refl, sym, subst, ap, ◌∙◌, arith}
use Rattle.std.specs.Prelude.{◌*◌, map}
use Rattle.std.specs.List.{AllByRecursion}
use Rattle.sctp_util.specs.Walk.{Walks}
use Rattle.sctp_util.proofs.EachAt.{length_each}
use Rattle.sctp_util.specs.Each.{each}
use Rattle.sctp_util.specs.Field.{u32_at}
use Rattle.sctp_chunks.specs.Framing.{value_at}
use Rattle.sctp_chunks.specs.Wire.{Wire}
use Rattle.sctp_data.specs.SelectiveAck.{block_at, sack_in, blocks_in, duplicates_in}
use Rattle.sctp_data.specs.declared.chunk.chunk_selective_ack.GapAckBlock.{GapAckBlock}
use Rattle.sctp_datagram.proofs.InPlace.{sack_reads}
use Rattle.sctp_datagram.specs.Framing.{HasChunk}
use Rattle.sctp_datagram.specs.InPlace.{IsInPlace}
use Rattle.sctp_c.specs.Answered.{IsSack, gap_answered}
use Rattle.sctp_c.specs.Out.{filled}
use Rattle.sctp_packets.specs.Packet.{Steps, after}
use Rattle.sctp_c.specs.declared.reading.SctpGap.{SctpGap}
use Rattle.sctp_c.specs.declared.reading.SctpSack.{SctpSack}

-- of a SACK with so many blocks and duplicates, as many as there is room for
pub is_sack : (bytes value : List ℕ) (t : SctpSack) (old_blocks blocks : List SctpGap) (old_duplicates duplicates : List ℕ) → HasChunk 3 bytes
    → value ≡ value_at bytes → 12 ≤ length value → 12 + 4 * blocks_in value + 4 * duplicates_in value ≤ length value → t.blocks ≡ blocks_in value
    → t.duplicates ≡ duplicates_in value → t.cumulative_tsn ≡ u32_at value 0 → t.credit ≡ u32_at value 4
    → blocks ≡ filled (map gap_answered (each t.blocks (λ i. block_at value (12 + 4 * i)))) old_blocks
    → duplicates ≡ filled (each t.duplicates (λ i. u32_at value (12 + 4 * t.blocks + 4 * i))) old_duplicates
    → IsSack bytes t old_blocks blocks old_duplicates duplicates
is_sack bytes value t old_blocks blocks old_duplicates duplicates chunk is headed long many repeats tsn credit gaps numbers =
    let f : ℕ → GapAckBlock = λ i. block_at value (12 + 4 * i) in
    let g : ℕ → ℕ = λ i. u32_at value (12 + 4 * blocks_in value + 4 * i) in
    let own : t ≡ record { blocks = t.blocks; duplicates = t.duplicates; cumulative_tsn = t.cumulative_tsn; credit = t.credit } = refl in
    let first : t.blocks ≡ length (each (blocks_in value) f) = many ∙ sym (length_each (blocks_in value) f) in
    let second : t.duplicates ≡ length (each (duplicates_in value) g) = repeats ∙ sym (length_each (duplicates_in value) g) in
    record {
      sack = sack_in value;
      reads = sack_reads bytes value chunk is headed long;
      answered = own ∙ rw (first, second, tsn, credit) refl;
      gaps = rw many at gaps;
      repeats = rw (many, repeats) at numbers;
    }

-- ## Chunks that are read in place

-- whoever walks over all of the bytes, and over such chunks alone, takes one wherever another walk stands before the end
pub in_place_on : (bytes : List ℕ) (ws vs : List Wire) (rest : List ℕ) → Walks Steps after bytes ws rest → Walks Steps after bytes vs []
    → AllByRecursion IsInPlace vs → 0 < length rest → (w : Wire) × IsInPlace w × Steps rest w
unfolding Walks
in_place_on bytes [] [] rest so_far whole all some = absurd (omega (arith, ap (λ (l : List ℕ). length l) so_far, ap (λ (l : List ℕ). length l) whole, some))
in_place_on bytes [] (v ∷ vs) rest so_far whole all some = (v, all.0, subst (λ (b : List ℕ). Steps b v) so_far whole.0)
in_place_on bytes (w ∷ ws) [] rest so_far whole all some =
    absurd (omega (arith, ap (λ (l : List ℕ). length l) whole, so_far.0.chunk.is_framed.headed))
in_place_on bytes (w ∷ ws) (v ∷ vs) rest so_far whole all some = in_place_on (after bytes) ws vs rest so_far.1 whole.1 all.1 some
