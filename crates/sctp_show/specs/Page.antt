-- What is printed of one fact, as text or as JSON.
use Rattle.std.specs.Prelude.{ℕ, ◌++◌, List, [], ◌∷◌, flat_map, length, codes, decimal, Bool, true, false, ◌==◌, ◌||◌, ltb, if◌then◌else◌}
use Rattle.hex.specs.Hex.{encode_lower}
use Rattle.sctp_show.specs.declared.page.Form.{Form}
use Rattle.sctp_show.specs.declared.page.Form.TheVariants.{Text, Json}

-- printable ASCII as it is, and a question mark in the place of any other byte
abbrev pub plain : ℕ → ℕ
plain byte = if ltb byte 32 || ltb 126 byte then 63 else byte

-- a byte as it may stand between the quotes of JSON: a quote and a backslash behind a backslash
abbrev pub escaped : ℕ → List ℕ
escaped byte =
    if byte == 34 then 92 ∷ 34 ∷ [] else if byte == 92 then 92 ∷ 92 ∷ [] else plain byte ∷ []

-- a fact whose value stands as it is, behind what JSON begins it with
unfoldable pub led_text : Form → List ℕ → List ℕ → List ℕ → List ℕ → List ℕ
led_text Text lead label key value =
    codes "        " ++ (label ++ (codes ": " ++ (value ++ codes "\n")))
led_text Json lead label key value = lead ++ (key ++ (codes "\":" ++ value))

unfoldable pub number_text : Form → List ℕ → List ℕ → ℕ → List ℕ
number_text form label key value = led_text form (codes ",\"") label key (decimal value)

-- the first fact of a row, which is a number; in JSON the row is an object, and rows stand between commas
unfoldable pub row_text : Form → Bool → List ℕ → List ℕ → ℕ → List ℕ
row_text form is_first label key value =
    led_text form (if is_first then codes "{\"" else codes ",{\"") label key (decimal value)

abbrev pub truth_word : Bool → List ℕ
truth_word true = codes "true"
truth_word false = codes "false"

unfoldable pub truth_text : Form → List ℕ → List ℕ → Bool → List ℕ
truth_text form label key value = led_text form (codes ",\"") label key (truth_word value)

unfoldable pub bytes_text : Form → List ℕ → List ℕ → List ℕ → List ℕ
bytes_text Text label key bytes =
    codes "        " ++ (label ++ (codes " (" ++ (decimal (length bytes)
    ++ (codes " bytes): " ++ (encode_lower bytes ++ codes "\n")))))
bytes_text Json label key bytes =
    codes ",\"" ++ (key ++ (codes "\":\"" ++ (encode_lower bytes ++ codes "\"")))

unfoldable pub words_text : Form → List ℕ → List ℕ → List ℕ → List ℕ
words_text Text label key words =
    codes "        " ++ (label ++ (codes ": " ++ (words ++ codes "\n")))
words_text Json label key words =
    codes ",\"" ++ (key ++ (codes "\":\"" ++ (flat_map escaped words ++ codes "\"")))
