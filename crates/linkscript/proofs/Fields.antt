-- Fields of a script against hex text.
use Rattle.std.proofs.Common.{◌≡◌, ℕ, List, [], ◌∷◌, refl, inl, inr}
use Rattle.std.specs.Prelude.{◌≢◌, ◌⊎◌, Err}
use Rattle.hex.specs.Hex.{decode_of, IsBytes}
use Rattle.hex.proofs.HexLemmas.{decode_of-encode_lower}
use Rattle.hex.specs.declared.error.FromHexError.{FromHexError}
use Rattle.hex.specs.declared.error.FromHexError.TheVariants as hex_errors
use Rattle.linkscript.specs.declared.field.FieldFault.{FieldFault}
use Rattle.linkscript.specs.declared.field.FieldFault.TheVariants.{NotHex, OutOfMemory}
use Rattle.linkscript.specs.Field.{dash, IsField, field_of}

-- the field of some bytes is read as them
pub field_again : (bytes : List ℕ) → IsBytes bytes → IsField (field_of bytes) bytes
field_again [] fits = inl (refl, refl)
field_again (byte ∷ bytes) fits = inr (λ e. cc, decode_of-encode_lower (byte ∷ bytes) fits)

-- what is no hex text is no field
pub refused : (text : List ℕ) (e : FromHexError) (r : FieldFault)
    → ((r ≡ OutOfMemory) × (e ≡ hex_errors.OutOfMemory)) ⊎ ((r ≡ NotHex) × (e ≢ hex_errors.OutOfMemory))
    → (e ≡ hex_errors.OutOfMemory) ⊎ (decode_of text ≡ Err e) → (text ≡ dash → ⊥) → (r ≡ OutOfMemory) ⊎ ((r ≡ NotHex) × ((b : List ℕ) → IsField text b → ⊥))
refused text e r (inl memory) why other = inl memory.0
refused text e r (inr other_fault) (inl memory) other = absurd (other_fault.1 memory)
refused text e r (inr other_fault) (inr bad) other = inr (other_fault.0, none)
  where
    none : (b : List ℕ) → IsField text b → ⊥
    none b (inl empty) = other empty.0
    none b (inr hex) = let same = hex.1 in cc
