-- A SACK within a buffer's room can be written.
use Rattle.std.proofs.Common.{◌≡◌, ℕ, ◌+◌, ◌*◌, ◌<◌, ◌≤◌, List, [], ◌++◌, length, inl, inr, ap, ◌∙◌, arith, length-append}
use Rattle.std.specs.Prelude.{◌⊎◌, max}
use Rattle.sctp_util.proofs.Fields.{length_be16}
use Rattle.sctp_util.specs.Field.{be16}
use Rattle.sctp_util.specs.declared.error.Error.{Error}
use Rattle.sctp_util.specs.declared.error.Error.TheVariants.{ErrOutOfMemory}
use Rattle.sctp_chunks.proofs.Lengths.{length_sack_value}
use Rattle.sctp_chunks.specs.Check.{EncodingFault}
use Rattle.sctp_chunks.specs.Wire.{HasEncoding, encoding_of, sack_chunk}
use Rattle.sctp_data.specs.SelectiveAck.{Sack, sack_value}

pub sack-size : (s : Sack) → length (encoding_of (sack_chunk s)) ≡ 16 + 4 * (length s.gap_ack_blocks + length s.duplicate_tsn)
sack-size s =
    let v = sack_value s in
    omega (arith, length_sack_value s, length-append (be16 (4 + length v)) v, length_be16 (4 + length v))

pub within : (n room : ℕ) → 16 ≤ room → n ≤ max 16 room → n ≤ room
within n room ge le = grind (arith, ge, le)

-- it has an encoding, and there is room for it
pub not-refused : (s : Sack) (e : Error) (spare room : ℕ) → 16 + 4 * (length s.gap_ack_blocks + length s.duplicate_tsn) ≤ max 16 room → 16 ≤ room → room ≤ 65532
    → room ≤ spare → EncodingFault e (sack_chunk s) ⊎ ((e ≡ ErrOutOfMemory) × HasEncoding (sack_chunk s) × (spare < 4 + length (sack_value s))) → ⊥
not-refused s e spare room fits ge le free (inl (inl f)) = f
not-refused s e spare room fits ge le free (inl (inr h)) =
    let most = within (16 + 4 * (length s.gap_ack_blocks + length s.duplicate_tsn)) room ge fits in
    h.2 (omega (arith, most, le, length_sack_value s))
not-refused s e spare room fits ge le free (inr h) =
    let most = within (16 + 4 * (length s.gap_ack_blocks + length s.duplicate_tsn)) room ge fits in
    absurd (omega (arith, most, free, h.2, length_sack_value s))

-- it fits the buffer
pub fits-out : (s : Sack) (old bytes view : List ℕ) (room n : ℕ) → 16 + 4 * (length s.gap_ack_blocks + length s.duplicate_tsn) ≤ max 16 room → 16 ≤ room
    → room ≤ n → old ≡ [] → bytes ≡ old ++ encoding_of (sack_chunk s) → view ≡ bytes → length view ≤ n
fits-out s old bytes view room n fits ge le none e same =
    let most = within (16 + 4 * (length s.gap_ack_blocks + length s.duplicate_tsn)) room ge fits in
    let size : length bytes ≡ length old + length (encoding_of (sack_chunk s)) = ap (λ (l : List ℕ). length l) e
    ∙ length-append old (encoding_of (sack_chunk s)) in
    omega (arith, most, le, size, ap (λ (l : List ℕ). length l) none, ap (λ (l : List ℕ). length l) same, sack-size s)
