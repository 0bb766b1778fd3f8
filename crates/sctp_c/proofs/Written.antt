-- Chunks that are written.
use Rattle.std.proofs.Common.{◌≡◌, ℕ, ◌+◌, ◌-◌, ◌≤◌, List, [], ◌∷◌, ◌++◌, length, take, drop, refl, sym, subst, ap, ◌∙◌, arith, length-append}
use Rattle.std.proofs.Common.{inl, inr}
use Rattle.std.proofs.lemmas.List.{take_all, drop_at, length-drop, length-take-le}
use Rattle.std.specs.Prelude.{◌≢◌, ◌⊎◌, ◌<◌, Result, Ok, Err, IfOk}
use Rattle.sctp_util.specs.Field.{be16}
use Rattle.sctp_util.proofs.Fields.{length_be16}
use Rattle.sctp_util.specs.declared.error.Error.{Error}
use Rattle.sctp_chunks.specs.Framing.{chunk_encoding}
use Rattle.sctp_chunks.specs.Wire.{Wire, ReadsChunk, type_of, value_of}
use Rattle.sctp_c.specs.Out.{padded}
use Rattle.sctp_c.specs.Refusal.{IsRefusal}
use Rattle.sctp_c.specs.Written.{FlaggedChunkFault, IsAsGiven, IsChanged, IsEncoded, IsReadChunk}
use Rattle.sctp_util.specs.declared.error.Error.TheVariants.{ErrLengthTooLarge, ErrOutOfMemory}

-- the encoding of a chunk that was read is that of its type and value, under the flags
pub is_encoded : (r : Result (List ℕ) Error) (typ flags : ℕ) (value : List ℕ) (w : Wire) → ReadsChunk (chunk_encoding typ flags value) w
    → IfOk r (λ b. b ≡ chunk_encoding (type_of w) flags (value_of w)) → IfOk r (λ b. IsEncoded typ flags value b)
is_encoded (Ok b) typ flags value w reads e = record { chunk = w; reads = reads; encoding = e }
is_encoded (Err e) typ flags value w reads _ = tt

-- an encoding has a header
has_header : (typ flags : ℕ) (value : List ℕ) → 4 ≤ length (chunk_encoding typ flags value)
has_header typ flags value = omega (arith, length-append (be16 (4 + length value)) value, length_be16 (4 + length value))

-- and the value behind it
behind_header : (typ flags : ℕ) (value : List ℕ) → drop 4 (chunk_encoding typ flags value) ≡ value
behind_header typ flags value = drop_at (typ ∷ flags ∷ [] ++ be16 (4 + length value)) value 4 (omega (arith, length_be16 (4 + length value)))

-- the bytes from the fifth on, as a part of a slice
abbrev pub behind : List ℕ → List ℕ
behind bytes = take (length bytes - 4) (drop 4 bytes)

module _ (typ flags : ℕ) (value bytes : List ℕ) where
  pub headed : IsEncoded typ flags value bytes → 4 ≤ length bytes
  headed e = rw e.encoding (has_header (type_of e.chunk) flags (value_of e.chunk))

  value_in : (w : Wire) → bytes ≡ chunk_encoding (type_of w) flags (value_of w) → behind bytes ≡ value_of w
  value_in w e = take_all (length bytes - 4) (drop 4 bytes) (omega (arith, length-drop 4 bytes)) ∙ ap (drop 4) e
      ∙ behind_header (type_of w) flags (value_of w)

  -- where the value that is written is another than the given one, so is that of each chunk with this encoding
  pub not_given : (w : Wire) → bytes ≡ chunk_encoding (type_of w) flags (value_of w) → (IsAsGiven value (behind bytes) → ⊥)
      → IsAsGiven value (value_of w) → ⊥
  not_given w e other given = other (subst (λ v. IsAsGiven value v) (sym (value_in w e)) given)

  pub is_changed : IsEncoded typ flags value bytes → (IsAsGiven value (behind bytes) → ⊥) → IsChanged typ flags value
  is_changed e different = record { chunk = e.chunk; reads = e.reads; other = not_given e.chunk e.encoding different }

  pub is_read_chunk : IsEncoded typ flags value bytes → IsAsGiven value (behind bytes) → IsReadChunk typ flags value (padded bytes)
  is_read_chunk e given = record {
    chunk = e.chunk;
    reads = e.reads;
    encoding = ap padded e.encoding;
    as_given = subst (λ v. IsAsGiven value v) (value_in e.chunk e.encoding) given;
  }

-- what is not written as it is, is so for its length or for memory
pub framed_refusal : (typ flags : ℕ) (value : List ℕ) (end code : ℕ) → end ≤ length value → (code ≡ 0) ⊎ ((code ≡ 16) ⊎ ((code ≡ 17) ⊎ (code ≡ 19))) → code ≢ 0 → code ≢ 17
    → (code ≡ 19 → 65531 < length (take end value)) → IsRefusal (FlaggedChunkFault typ flags value) code
framed_refusal typ flags value end code within (inl done) some long large = absurd (some done)
framed_refusal typ flags value end code within (inr (inl memory)) some long large = record { error = ErrOutOfMemory; number = memory; fault = inl refl }
framed_refusal typ flags value end code within (inr (inr (inl short))) some long large = absurd (long short)
framed_refusal typ flags value end code within (inr (inr (inr is))) some long large =
    let most : 65531 < length value = omega (arith, large is, length-take-le end value within) in
    record { error = ErrLengthTooLarge; number = is; fault = inr (inl (refl, most)) }

-- the same of a whole value
pub whole_refusal : (typ flags : ℕ) (value : List ℕ) (code : ℕ) → (code ≡ 0) ⊎ ((code ≡ 16) ⊎ ((code ≡ 17) ⊎ (code ≡ 19))) → code ≢ 0 → code ≢ 17
    → (code ≡ 19 → 65531 < length value) → IsRefusal (FlaggedChunkFault typ flags value) code
whole_refusal typ flags value code codes some long large =
    framed_refusal typ flags value (length value) code (omega arith) codes some long
    (λ is. omega (arith, large is, length-take-le (length value) value (omega arith)))
