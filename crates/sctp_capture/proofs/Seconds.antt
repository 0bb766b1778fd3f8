-- The seconds of a line, digit by digit.
use Rattle.std.proofs.Common.{◌≡◌, ℕ, ◌+◌, ◌-◌, ◌<◌, ◌≤◌, true, false, List, slice_index, refl, arith}
use Rattle.std.specs.Prelude.{suc}
use Rattle.sctp_capture.specs.Fields.{is_decimal, with_digit, whole_at, seconds_by}

none_left : (k count : ℕ) → count ≤ k → count - k ≡ 0
none_left k count le = omega arith

one_more : (n k : ℕ) → k < n → n - k ≡ suc (n - (k + 1))
one_more n k lt = omega arith

seconds_stop : (n at value : ℕ) (line : List ℕ) → is_decimal (slice_index line at) ≡ false → seconds_by (suc n) line at value ≡ whole_at value at
unfolding seconds_by
seconds_stop n at value line e = rw e refl

seconds_step : (n at value : ℕ) (line : List ℕ) → is_decimal (slice_index line at) ≡ true
    → seconds_by (suc n) line at value ≡ seconds_by n line (at + 1) (with_digit value (slice_index line at))
unfolding seconds_by
seconds_step n at value line e = rw e refl

-- another byte ends the digits
pub seconds_end : (n at value : ℕ) (line : List ℕ) → at < n → is_decimal (slice_index line at) ≡ false
    → seconds_by (n - at) line at value ≡ whole_at value at
seconds_end n at value line lt e = rw (one_more n at lt) (seconds_stop (n - (at + 1)) at value line e)

-- one more digit
pub seconds_go : (n at value : ℕ) (line : List ℕ) → at < n → is_decimal (slice_index line at) ≡ true
    → seconds_by (n - at) line at value ≡ seconds_by (n - (at + 1)) line (at + 1) (with_digit value (slice_index line at))
seconds_go n at value line lt e = rw (one_more n at lt) (seconds_step (n - (at + 1)) at value line e)

pub seconds_full : (n at value : ℕ) (line : List ℕ) → n ≤ at → seconds_by (n - at) line at value ≡ whole_at value at
unfolding seconds_by
seconds_full n at value line le = rw (none_left at n le) refl
