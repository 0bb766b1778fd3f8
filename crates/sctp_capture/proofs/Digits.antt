-- The digits of a line, byte by byte.
use Rattle.std.proofs.Common.{◌≡◌, ℕ, ◌+◌, ◌<◌, ◌≤◌, true, false, List, [], ◌∷◌, ◌++◌, length, drop, slice_index, refl, ap, sym, ◌∙◌, arith}
use Rattle.std.specs.Prelude.{◌≢◌, ◌==◌}
use Rattle.std.proofs.lemmas.Bool.Decides.{nat_tests}
use Rattle.std.proofs.lemmas.List.{append-nil, append_assoc, at_drop_more, drop_all}
use Rattle.sctp_capture.specs.Record.{is_blank, digits_in}

digits_hash : (x : ℕ) (xs : List ℕ) → x ≡ 35 → digits_in (x ∷ xs) ≡ []
digits_hash x xs e = let it : (x == 35) ≡ true = grind (arith, nat_tests) in rw it refl

digits_blank : (x : ℕ) (xs : List ℕ) → x ≢ 35 → is_blank x ≡ true → digits_in (x ∷ xs) ≡ digits_in xs
digits_blank x xs e b = let it : (x == 35) ≡ false = grind (arith, nat_tests) in rw (it, b) refl

digits_other : (x : ℕ) (xs : List ℕ) → x ≢ 35 → is_blank x ≡ false → digits_in (x ∷ xs) ≡ x ∷ digits_in xs
digits_other x xs e b = let it : (x == 35) ≡ false = grind (arith, nat_tests) in rw (it, b) refl

-- a comment ends the digits
pub digits_stop : (line digits : List ℕ) (i : ℕ) → i < length line → slice_index line i ≡ 35 → digits_in line ≡ digits ++ digits_in (drop i line)
    → digits ≡ digits_in line
digits_stop line digits i lt is so =
    let none : digits_in (drop i line) ≡ [] = at_drop_more digits_in line i 0 lt ∙ digits_hash (slice_index line i) (drop (i + 1) line) is in
    sym (so ∙ ap (λ l. digits ++ l) none ∙ append-nil digits)

-- a blank is passed
pub digits_pass : (line digits : List ℕ) (i : ℕ) → i < length line → slice_index line i ≢ 35 → is_blank (slice_index line i) ≡ true
    → digits_in line ≡ digits ++ digits_in (drop i line) → digits_in line ≡ digits ++ digits_in (drop (i + 1) line)
digits_pass line digits i lt other blank so =
    let rest : digits_in (drop i line) ≡ digits_in (drop (i + 1) line) = at_drop_more digits_in line i 0 lt
    ∙ digits_blank (slice_index line i) (drop (i + 1) line) other blank in
    so ∙ ap (λ l. digits ++ l) rest

-- another byte is kept
pub digits_keep : (line digits : List ℕ) (i : ℕ) → i < length line → slice_index line i ≢ 35 → is_blank (slice_index line i) ≡ false
    → digits_in line ≡ digits ++ digits_in (drop i line) → digits_in line ≡ (digits ++ slice_index line i ∷ []) ++ digits_in (drop (i + 1) line)
digits_keep line digits i lt other full so =
    let x : ℕ = slice_index line i in
    let rest : digits_in (drop i line) ≡ x ∷ digits_in (drop (i + 1) line) = at_drop_more digits_in line i 0 lt
    ∙ digits_other x (drop (i + 1) line) other full in
    so ∙ ap (λ l. digits ++ l) rest ∙ sym (append_assoc digits (x ∷ []) (digits_in (drop (i + 1) line)))

-- behind the last byte none is left
pub digits_end : (line digits : List ℕ) (i : ℕ) → length line ≤ i → digits_in line ≡ digits ++ digits_in (drop i line) → digits ≡ digits_in line
digits_end line digits i le so =
    let none : digits_in (drop i line) ≡ [] = ap digits_in (drop_all i line le) in
    sym (so ∙ ap (λ l. digits ++ l) none ∙ append-nil digits)
