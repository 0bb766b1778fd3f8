-- Shifting is linear, so bytes are shifted as one word, and a word as its bytes.
use Rattle.std.proofs.Common.{◌≡◌, ◌∙◌, ℕ, zero, suc, ◌+◌, ◌*◌, ◌/◌, ◌%◌, ◌^◌, ◌<◌, List, [], ◌∷◌, length, get_or, refl, sym, ap, arith}
use Rattle.std.specs.Prelude.{bit_xor, fold, if◌then◌else◌, ◌==◌}
use Rattle.std.specs.Int.Bits.{xor_assoc, xor_self, xor_zero_r, xor_comm, xor_shr, xor_mod, xor_block}
use Rattle.crc32c.specs.Castagnoli.{shift, shift_bits, byte_step, zero_bytes}

-- the polynomial beside, where a bit fell out
beside : ℕ → ℕ → ℕ
beside bit half = if bit == 0 then half else bit_xor half 0x82f63b78

by_parity : (p q a b : ℕ) → p < 2 → q < 2
    → beside (bit_xor p q) (bit_xor a b) ≡ bit_xor (beside p a) (beside q b)
unfolding beside
by_parity zero zero a b hp hq = refl
by_parity zero (suc zero) a b hp hq = xor_assoc a b 0x82f63b78
by_parity (suc zero) zero a b hp hq =
    xor_assoc a b 0x82f63b78
    ∙ ap (bit_xor a) (xor_comm b 0x82f63b78)
    ∙ sym (xor_assoc a 0x82f63b78 b)
by_parity (suc zero) (suc zero) a b hp hq =
    let twice : bit_xor (bit_xor b 0x82f63b78) 0x82f63b78 ≡ b =
    xor_assoc b 0x82f63b78 0x82f63b78 ∙ ap (bit_xor b) (xor_self 0x82f63b78) ∙ xor_zero_r b in
    sym (xor_assoc a 0x82f63b78 (bit_xor b 0x82f63b78)
    ∙ ap (bit_xor a) (xor_comm 0x82f63b78 (bit_xor b 0x82f63b78) ∙ twice))
by_parity (suc (suc p)) q a b hp hq = absurd (omega arith)
by_parity zero (suc (suc q)) a b hp hq = absurd (omega arith)
by_parity (suc zero) (suc (suc q)) a b hp hq = absurd (omega arith)

shift_xor : (a b : ℕ) → shift (bit_xor a b) ≡ bit_xor (shift a) (shift b)
unfolding shift beside
shift_xor a b =
    (λ i. beside (xor_mod a b 1 i) (xor_shr a b 1 i))
    ∙ by_parity (a % 2) (b % 2) (a / 2) (b / 2) (omega arith) (omega arith)

pub shifted_xor : (bits a b : ℕ)
    → shift_bits bits (bit_xor a b) ≡ bit_xor (shift_bits bits a) (shift_bits bits b)
unfolding shift_bits
shifted_xor zero a b = refl
shifted_xor (suc bits) a b = ap (shift_bits bits) (shift_xor a b) ∙ shifted_xor bits (shift a) (shift b)

shift_half : (a b : ℕ) → a ≡ b * 2 → shift a ≡ b
unfolding shift beside
shift_half a b e =
    let even : a % 2 ≡ 0 = omega arith in
    let half : a / 2 ≡ b = omega arith in
    λ i. beside (even i) (half i)

shifted_byte : (m : ℕ) → shift_bits 8 (m * 256) ≡ m
unfolding shift_bits
shifted_byte m =
    ap (shift_bits 7) (shift_half (m * 256) (m * 128) (omega arith))
    ∙ ap (shift_bits 6) (shift_half (m * 128) (m * 64) (omega arith))
    ∙ ap (shift_bits 5) (shift_half (m * 64) (m * 32) (omega arith))
    ∙ ap (shift_bits 4) (shift_half (m * 32) (m * 16) (omega arith))
    ∙ ap (shift_bits 3) (shift_half (m * 16) (m * 8) (omega arith))
    ∙ ap (shift_bits 2) (shift_half (m * 8) (m * 4) (omega arith))
    ∙ ap (shift_bits 1) (shift_half (m * 4) (m * 2) (omega arith))
    ∙ shift_half (m * 2) m refl

pub zero_bytes_xor : (k a b : ℕ) → zero_bytes k (bit_xor a b) ≡ bit_xor (zero_bytes k a) (zero_bytes k b)
unfolding zero_bytes
zero_bytes_xor zero a b = refl
zero_bytes_xor (suc k) a b = ap (zero_bytes k) (shifted_xor 8 a b) ∙ zero_bytes_xor k (shift_bits 8 a) (shift_bits 8 b)

joined : (high low : ℕ) → low < 256 → bit_xor low (high * 256) ≡ low + high * 256
joined high low h =
    let one : low ≡ 0 * 2 ^ 8 + low = omega arith in
    let two : high * 256 ≡ high * 2 ^ 8 + 0 = omega arith in
    let last : bit_xor low 0 ≡ low = xor_zero_r low in
    (λ i. bit_xor (one i) (two i)) ∙ xor_block 8 0 high low 0 h (omega arith) ∙ omega arith

-- the lowest byte of a number, and what is above it
pub zero_bytes-suc : (k x : ℕ)
    → zero_bytes (suc k) x ≡ bit_xor (zero_bytes (suc k) (x % 256)) (zero_bytes k (x / 256))
unfolding zero_bytes
zero_bytes-suc k x =
    let parts : x ≡ x % 256 + x / 256 * 256 = omega arith in
    ap (zero_bytes (suc k)) (parts ∙ sym (joined (x / 256) (x % 256) (omega arith)))
    ∙ zero_bytes_xor (suc k) (x % 256) (x / 256 * 256)
    ∙ ap (λ y. bit_xor (zero_bytes (suc k) (x % 256)) (zero_bytes k y)) (shifted_byte (x / 256))

-- the number of some bytes, the lowest first
unfoldable pub word_of : List ℕ → ℕ
word_of [] = 0
word_of (b ∷ bs) = b + word_of bs * 256

pub fold-word_of : (bs : List ℕ) (r : ℕ) → ((i : ℕ) → get_or bs i 0 < 256)
    → fold byte_step r bs ≡ zero_bytes (length bs) (bit_xor r (word_of bs))
unfolding byte_step zero_bytes word_of
fold-word_of [] r h = sym (xor_zero_r r)
fold-word_of (b ∷ bs) r h =
    fold-word_of bs (byte_step r b) (λ i. h (suc i))
    ∙ ap (zero_bytes (length bs))
    (ap (bit_xor (shift_bits 8 (bit_xor r b))) (sym (shifted_byte (word_of bs)))
    ∙ sym (shifted_xor 8 (bit_xor r b) (word_of bs * 256))
    ∙ ap (shift_bits 8) (xor_assoc r b (word_of bs * 256) ∙ ap (bit_xor r) (joined (word_of bs) b (h 0))))

-- a byte's step by the remainder of one byte
pub byte_step-by_table : (r b : ℕ) → b < 256
    → byte_step r b ≡ bit_xor (zero_bytes 1 (bit_xor r b % 256)) (r / 256)
unfolding byte_step zero_bytes
byte_step-by_table r b h =
    let none : b / 256 ≡ 0 = omega arith in
    let high : bit_xor r b / 256 ≡ r / 256 =
    xor_shr r b 8 ∙ ap (bit_xor (r / 256)) none ∙ xor_zero_r (r / 256) in
    zero_bytes-suc 0 (bit_xor r b) ∙ ap (bit_xor (zero_bytes 1 (bit_xor r b % 256))) high
