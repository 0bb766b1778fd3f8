-- What stands in the tables.
use Rattle.std.proofs.Common.{◌≡◌, ◌∙◌, ℕ, zero, suc, ◌<◌, List, [], length, get_or, refl, sym, ap, arith}
use Rattle.std.specs.Prelude.{map}
use Rattle.std.specs.List.{range_with_len}
use Rattle.std.proofs.lemmas.List.{get_or-map, length-map}
use Rattle.std.proofs.lemmas.List.FromFn.{get_or-map-range_with_len}
use Rattle.crc32c.specs.Castagnoli.{shift, shift_bits, zero_bytes}
use Rattle.crc32c.specs.declared.tables.TheConstants.{TABLES}

unfoldable row : ℕ → List ℕ
row zero = map (shift_bits 8) (range_with_len 0 256)
row (suc k) = map (shift_bits 8) (row k)

tables_are : TABLES ≡ map row (range_with_len 0 16)
unfolding shift shift_bits row
tables_are = refl

row_length : (k : ℕ) → length (row k) ≡ 256
unfolding row
row_length zero = refl
row_length (suc k) = length-map (row k) (shift_bits 8) ∙ row_length k

pub zero_bytes-up : (k r : ℕ) → zero_bytes (suc k) r ≡ shift_bits 8 (zero_bytes k r)
unfolding zero_bytes
zero_bytes-up zero r = refl
zero_bytes-up (suc k) r = zero_bytes-up k (shift_bits 8 r)

row_at : (k b : ℕ) → b < 256 → get_or (row k) b 0 ≡ zero_bytes (suc k) b
unfolding row zero_bytes
row_at zero b h = get_or-map-range_with_len (shift_bits 8) 0 256 b b 0 h (omega arith)
row_at (suc k) b h =
    let short : b < length (row k) = omega (arith, row_length k) in
    get_or-map (shift_bits 8) (row k) b 0 0 short
    ∙ ap (shift_bits 8) (row_at k b h) ∙ sym (zero_bytes-up (suc k) b)

pub table_at : (k b : ℕ) → k < 16 → b < 256
    → get_or (get_or TABLES k []) b 0 ≡ zero_bytes (suc k) b
table_at k b hk hb =
    ap (λ rows. get_or (get_or rows k []) b 0) tables_are
    ∙ ap (λ it. get_or it b 0) (get_or-map-range_with_len row zero 16 k k [] hk (omega arith))
    ∙ row_at k b hb
