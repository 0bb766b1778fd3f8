-- Bytes as a field of a script.
use Rattle.std.specs.Prelude.{◌≡◌, ◌≢◌, ◌⊎◌, ℕ, List, [], ◌∷◌, codes, Ok}
use Rattle.hex.specs.Hex.{decode_of, encode_lower}

abbrev pub dash : List ℕ
dash = codes "-"

-- the text is the field of these bytes: a dash for none, else their hex text, each digit in either case
abbrev pub IsField : List ℕ → List ℕ → Type 0
IsField text bytes = ((text ≡ dash) × (bytes ≡ [])) ⊎ ((bytes ≢ []) × (decode_of text ≡ Ok bytes))

-- the field of these bytes, in lower case
abbrev pub field_of : List ℕ → List ℕ
field_of [] = dash
field_of (byte ∷ bytes) = encode_lower (byte ∷ bytes)
