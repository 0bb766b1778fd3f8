-- Patterns of leads, and other text, byte by byte.
use Rattle.std.proofs.Common.{◌≡◌, ℕ, ◌+◌, ◌-◌, ◌<◌, ◌≤◌, Bool, true, false, List, [], ◌∷◌, length, slice_index, refl, arith}
use Rattle.std.specs.Prelude.{suc, zero, ◌==◌, ◌≢◌, if◌then◌else◌}
use Rattle.std.proofs.lemmas.Bool.Decides.{nat_tests}
use Rattle.sctp_capture.specs.Lead.{fits, begins_so, is_hex, is_space, behind_text, word_end, count_from}

-- what does not go on so does not begin so
goes_wrong : (b : Bool) (w x : ℕ) (ws xs : List ℕ) → fits w x ≡ b → begins_so ws xs ≡ false → begins_so (w ∷ ws) (x ∷ xs) ≡ false
goes_wrong true w x ws xs e rest = rw e rest
goes_wrong false w x ws xs e rest = rw e refl

-- a line that is shorter than the pattern does not begin so
pub short_line : (pattern line : List ℕ) → length line < length pattern → begins_so pattern line ≡ false
short_line [] line short = absurd (omega (arith, short))
short_line (w ∷ ws) [] short = refl
short_line (w ∷ ws) (x ∷ xs) short = goes_wrong (fits w x) w x ws xs refl (short_line ws xs (omega (arith, short)))

-- nor one with another byte in a place
pub other_byte : (pattern line : List ℕ) (i : ℕ) → i < length pattern → i < length line → fits (slice_index pattern i) (slice_index line i) ≡ false
    → begins_so pattern line ≡ false
other_byte [] line i within there other = absurd (omega (arith, within))
other_byte (w ∷ ws) [] i within there other = refl
other_byte (w ∷ ws) (x ∷ xs) zero within there other = rw other refl
other_byte (w ∷ ws) (x ∷ xs) (suc i) within there other =
    goes_wrong (fits w x) w x ws xs refl (other_byte ws xs i (omega (arith, within)) (omega (arith, there)) other)

-- one with all of its bytes does
pub all_bytes : (pattern line : List ℕ) → length pattern ≤ length line
    → ((k : ℕ) → k < length pattern → fits (slice_index pattern k) (slice_index line k) ≡ true) → begins_so pattern line ≡ true
all_bytes [] line long each = refl
all_bytes (w ∷ ws) [] long each = absurd (omega (arith, long))
all_bytes (w ∷ ws) (x ∷ xs) long each =
    let first : fits w x ≡ true = each 0 (omega arith) in
    rw first (all_bytes ws xs (omega (arith, long)) (λ k lt. each (suc k) (omega (arith, lt))))

-- ---- other text before hex text

none_left : (k count : ℕ) → count ≤ k → count - k ≡ 0
none_left k count le = omega arith

one_more : (n k : ℕ) → k < n → n - k ≡ suc (n - (k + 1))
one_more n k lt = omega arith

text_stop : (n at found : ℕ) (line : List ℕ) → slice_index line at ≡ 35 → behind_text (suc n) line at found ≡ found
unfolding behind_text
text_stop n at found line e = rw e refl

text_step : (n at found : ℕ) (line : List ℕ) (b : Bool) → slice_index line at ≢ 35 → is_hex (slice_index line at) ≡ b
    → behind_text (suc n) line at found ≡ behind_text n line (at + 1) (if b then found else at + 1)
unfolding behind_text
text_step n at found line b other e = let no : (slice_index line at == 35) ≡ false = grind (arith, nat_tests) in rw (no, e) refl

-- a comment ends the search
pub text_ends : (n at found : ℕ) (line : List ℕ) → at < n → slice_index line at ≡ 35 → behind_text (n - at) line at found ≡ found
text_ends n at found line lt e = rw (one_more n at lt) (text_stop (n - (at + 1)) at found line e)

-- a byte of other text
pub text_goes : (n at found : ℕ) (line : List ℕ) → at < n → slice_index line at ≢ 35 → is_hex (slice_index line at) ≡ false
    → behind_text (n - at) line at found ≡ behind_text (n - (at + 1)) line (at + 1) (at + 1)
text_goes n at found line lt other e = rw (one_more n at lt) (text_step (n - (at + 1)) at found line false other e)

-- one of hex text
pub text_passes : (n at found : ℕ) (line : List ℕ) → at < n → slice_index line at ≢ 35 → is_hex (slice_index line at) ≡ true
    → behind_text (n - at) line at found ≡ behind_text (n - (at + 1)) line (at + 1) found
text_passes n at found line lt other e = rw (one_more n at lt) (text_step (n - (at + 1)) at found line true other e)

pub text_full : (n at found : ℕ) (line : List ℕ) → n ≤ at → behind_text (n - at) line at found ≡ found
unfolding behind_text
text_full n at found line le = rw (none_left at n le) refl

word_stop : (n at : ℕ) (line : List ℕ) → is_space (slice_index line at) ≡ true → word_end (suc n) line at ≡ at
unfolding word_end
word_stop n at line e = rw e refl

word_step : (n at : ℕ) (line : List ℕ) → is_space (slice_index line at) ≡ false → word_end (suc n) line at ≡ word_end n line (at + 1)
unfolding word_end
word_step n at line e = rw e refl

-- a blank ends the word
pub word_ends : (n k at : ℕ) (line : List ℕ) → k < n → is_space (slice_index line (at + k)) ≡ true → word_end (n - k) line (at + k) ≡ at + k
word_ends n k at line lt e = rw (one_more n k lt) (word_stop (n - (k + 1)) (at + k) line e)

pub word_goes : (n k at : ℕ) (line : List ℕ) → k < n → is_space (slice_index line (at + k)) ≡ false
    → word_end (n - k) line (at + k) ≡ word_end (n - (k + 1)) line (at + (k + 1))
word_goes n k at line lt e =
    let place : at + k + 1 ≡ at + (k + 1) = omega arith in
    rw (one_more n k lt, ← place) (word_step (n - (k + 1)) (at + k) line e)

pub word_full : (n k at : ℕ) (line : List ℕ) → n ≤ k → word_end (n - k) line (at + k) ≡ at + k
unfolding word_end
word_full n k at line le = rw (none_left k n le) refl

count_stop : (n at count : ℕ) (line : List ℕ) → slice_index line at ≡ 35 → count_from (suc n) line at count ≡ count
unfolding count_from
count_stop n at count line e = rw e refl

count_step : (n at count : ℕ) (line : List ℕ) (b : Bool) → slice_index line at ≢ 35 → is_space (slice_index line at) ≡ b
    → count_from (suc n) line at count ≡ count_from n line (at + 1) (if b then count else count + 1)
unfolding count_from
count_step n at count line b other e = let no : (slice_index line at == 35) ≡ false = grind (arith, nat_tests) in rw (no, e) refl

-- a comment ends the count
pub count_ends : (n k at count : ℕ) (line : List ℕ) → k < n → slice_index line (at + k) ≡ 35 → count_from (n - k) line (at + k) count ≡ count
count_ends n k at count line lt e = rw (one_more n k lt) (count_stop (n - (k + 1)) (at + k) count line e)

-- one more that is no blank
pub count_goes : (n k at count : ℕ) (line : List ℕ) → k < n → slice_index line (at + k) ≢ 35 → is_space (slice_index line (at + k)) ≡ false
    → count_from (n - k) line (at + k) count ≡ count_from (n - (k + 1)) line (at + (k + 1)) (count + 1)
count_goes n k at count line lt other e =
    let place : at + k + 1 ≡ at + (k + 1) = omega arith in
    rw (one_more n k lt, ← place) (count_step (n - (k + 1)) (at + k) count line false other e)

-- a blank
pub count_passes : (n k at count : ℕ) (line : List ℕ) → k < n → slice_index line (at + k) ≢ 35 → is_space (slice_index line (at + k)) ≡ true
    → count_from (n - k) line (at + k) count ≡ count_from (n - (k + 1)) line (at + (k + 1)) count
count_passes n k at count line lt other e =
    let place : at + k + 1 ≡ at + (k + 1) = omega arith in
    rw (one_more n k lt, ← place) (count_step (n - (k + 1)) (at + k) count line true other e)

pub count_full : (n k at count : ℕ) (line : List ℕ) → n ≤ k → count_from (n - k) line (at + k) count ≡ count
unfolding count_from
count_full n k at count line le = rw (none_left k n le) refl
