-- Lines of dumps, place by place.
use Rattle.std.proofs.Common.{◌≡◌, ℕ, suc, ◌+◌, ◌-◌, ◌/◌, ◌%◌, ◌<◌, ◌≤◌, Bool, true, false, List, [], ◌∷◌, ◌++◌, refl, ap, sym, ◌∙◌, arith}
use Rattle.std.specs.Prelude.{◌==◌, ◌≢◌}
use Rattle.std.proofs.lemmas.Bool.Decides.{nat_tests}
use Rattle.std.proofs.lemmas.List.{append-nil, append_assoc}
use Rattle.sctp_capture.specs.Dump.{char_at, is_digit, value_of, is_passed, is_byte_at, byte_at, next_at, skip_at, digits_at, says, bytes_at}

-- ---- what is passed

skip_stop : (n at : ℕ) (line : List ℕ) → is_passed (char_at line at) ≡ false → skip_at (suc n) line at ≡ at
unfolding skip_at
skip_stop n at line e = rw e refl

skip_step : (n at : ℕ) (line : List ℕ) → is_passed (char_at line at) ≡ true → skip_at (suc n) line at ≡ skip_at n line (at + 1)
unfolding skip_at
skip_step n at line e = rw e refl

-- the place of the first byte that is not passed is found
pub skip_ends : (k at : ℕ) (line : List ℕ) → k < 16 → is_passed (char_at line (at + k)) ≡ false → skip_at (16 - k) line (at + k) ≡ at + k
skip_ends k at line lt e = let is : 16 - k ≡ suc (16 - (k + 1)) = omega arith in rw is (skip_stop (16 - (k + 1)) (at + k) line e)

-- a byte that is passed is behind
pub skip_goes : (k at : ℕ) (line : List ℕ) → k < 16 → is_passed (char_at line (at + k)) ≡ true
    → skip_at (16 - k) line (at + k) ≡ skip_at (16 - (k + 1)) line (at + (k + 1))
skip_goes k at line lt e =
    let is : 16 - k ≡ suc (16 - (k + 1)) = omega arith in
    let place : at + k + 1 ≡ at + (k + 1) = omega arith in
    rw (is, ← place) (skip_step (16 - (k + 1)) (at + k) line e)

none_left : (k count : ℕ) → count ≤ k → count - k ≡ 0
none_left k count le = omega arith

-- sixteen are passed
pub skip_full : (k at : ℕ) (line : List ℕ) → 16 ≤ k → skip_at (16 - k) line (at + k) ≡ at + k
unfolding skip_at
skip_full k at line le = rw (none_left k 16 le) refl

-- ---- digits

digits_stop : (n at : ℕ) (line : List ℕ) → is_digit (char_at line at) ≡ false → digits_at (suc n) line at ≡ 0
unfolding digits_at
digits_stop n at line e = rw e refl

digits_step : (n at : ℕ) (line : List ℕ) → is_digit (char_at line at) ≡ true → digits_at (suc n) line at ≡ 1 + digits_at n line (at + 1)
unfolding digits_at
digits_step n at line e = rw e refl

-- the digits end here
pub digits_ends : (k at : ℕ) (line : List ℕ) → k < 9 → is_digit (char_at line (at + k)) ≡ false → digits_at (9 - k) line (at + k) ≡ 0
digits_ends k at line lt e = let is : 9 - k ≡ suc (9 - (k + 1)) = omega arith in rw is (digits_stop (9 - (k + 1)) (at + k) line e)

-- one digit more
pub digits_goes : (k at : ℕ) (line : List ℕ) → k < 9 → is_digit (char_at line (at + k)) ≡ true
    → digits_at (9 - k) line (at + k) ≡ 1 + digits_at (9 - (k + 1)) line (at + (k + 1))
digits_goes k at line lt e =
    let is : 9 - k ≡ suc (9 - (k + 1)) = omega arith in
    let place : at + k + 1 ≡ at + (k + 1) = omega arith in
    rw (is, ← place) (digits_step (9 - (k + 1)) (at + k) line e)

-- nine are counted
pub digits_full : (k at : ℕ) (line : List ℕ) → 9 ≤ k → digits_at (9 - k) line (at + k) ≡ 0
unfolding digits_at
digits_full k at line le = rw (none_left k 9 le) refl

-- ---- what digits say

says_no : (n at number : ℕ) (line : List ℕ) → value_of (char_at line (at + n)) ≢ number % 16 → says (suc n) line at number ≡ false
unfolding says
says_no n at number line other = let it : (value_of (char_at line (at + n)) == number % 16) ≡ false = grind (arith, nat_tests) in rw it refl

says_step : (n at number : ℕ) (line : List ℕ) → value_of (char_at line (at + n)) ≡ number % 16 → says (suc n) line at number ≡ says n line at (number / 16)
unfolding says
says_step n at number line same = let it : (value_of (char_at line (at + n)) == number % 16) ≡ true = grind (arith, nat_tests) in rw it refl

-- another digit than that of the number
pub says_ends : (digits k at number : ℕ) (line : List ℕ) → k < digits → value_of (char_at line (at + (digits - 1 - k))) ≢ number % 16
    → says (digits - k) line at number ≡ false
says_ends digits k at number line lt other =
    let is : digits - k ≡ suc (digits - 1 - k) = omega arith in rw is (says_no (digits - 1 - k) at number line other)

-- its digit
pub says_goes : (digits k at number : ℕ) (line : List ℕ) → k < digits → value_of (char_at line (at + (digits - 1 - k))) ≡ number % 16
    → says (digits - k) line at number ≡ says (digits - (k + 1)) line at (number / 16)
says_goes digits k at number line lt same =
    let is : digits - k ≡ suc (digits - 1 - k) = omega arith in
    let less : digits - (k + 1) ≡ digits - 1 - k = omega arith in
    rw (is, less) (says_step (digits - 1 - k) at number line same)

-- no digit is left
pub says_full : (digits k at number : ℕ) (line : List ℕ) → digits ≤ k → says (digits - k) line at number ≡ (number == 0)
unfolding says
says_full digits k at number line le = rw (none_left k digits le) refl

-- ---- bytes

bytes_stop : (j : Bool) (k n at : ℕ) (line : List ℕ) → is_byte_at j line at ≡ false → bytes_at j k (suc n) line at ≡ []
unfolding bytes_at
bytes_stop j k n at line e = rw e refl

bytes_step : (j : Bool) (k n at : ℕ) (line : List ℕ) → is_byte_at j line at ≡ true
    → bytes_at j k (suc n) line at ≡ byte_at line at ∷ bytes_at j (k + 1) n line (next_at j (k + 1) line at)
unfolding bytes_at
bytes_step j k n at line e = rw e refl

-- the bytes end here
pub bytes_end : (j : Bool) (n k at : ℕ) (line all said : List ℕ) → k < n → is_byte_at j line at ≡ false → all ≡ said ++ bytes_at j k (n - k) line at
    → said ≡ all
bytes_end j n k at line all said lt e so =
    let is : n - k ≡ suc (n - (k + 1)) = omega arith in
    let none : bytes_at j k (n - k) line at ≡ [] = rw is (bytes_stop j k (n - (k + 1)) at line e) in
    sym (so ∙ ap (λ l. said ++ l) none ∙ append-nil said)

-- one byte more
pub bytes_go : (j : Bool) (n k at : ℕ) (line all said : List ℕ) → k < n → is_byte_at j line at ≡ true → all ≡ said ++ bytes_at j k (n - k) line at
    → all ≡ (said ++ byte_at line at ∷ []) ++ bytes_at j (k + 1) (n - (k + 1)) line (next_at j (k + 1) line at)
bytes_go j n k at line all said lt e so =
    let is : n - k ≡ suc (n - (k + 1)) = omega arith in
    let rest : List ℕ = bytes_at j (k + 1) (n - (k + 1)) line (next_at j (k + 1) line at) in
    let more : bytes_at j k (n - k) line at ≡ byte_at line at ∷ rest = rw is (bytes_step j k (n - (k + 1)) at line e) in
    so ∙ ap (λ l. said ++ l) more ∙ sym (append_assoc said (byte_at line at ∷ []) rest)

-- no more are looked for
pub bytes_full : (j : Bool) (n k at : ℕ) (line all said : List ℕ) → n ≤ k → all ≡ said ++ bytes_at j k (n - k) line at → said ≡ all
unfolding bytes_at
bytes_full j n k at line all said le so =
    let none : bytes_at j k (n - k) line at ≡ [] = rw (none_left k n le) refl in
    sym (so ∙ ap (λ l. said ++ l) none ∙ append-nil said)
