-- Four bytes as one word, and sixteen bytes as four words.
use Rattle.std.proofs.Common.{◌≡◌, ◌∙◌, ℕ, suc, ◌+◌, ◌-◌, ◌/◌, ◌%◌, ◌^◌, ◌<◌, ◌≤◌, List, [], ◌∷◌, length, get_or, refl, sym, ap, arith}
use Rattle.std.specs.Prelude.{bit_xor, fold}
use Rattle.std.specs.Int.{w32, from_le_bytes}
use Rattle.std.specs.Int.Bits.{xor_assoc, xor_zero_r}
use Rattle.crc32c.specs.Castagnoli.{shift_bits, byte_step, zero_bytes}
use Rattle.crc32c.proofs.Shifts.{shifted_xor, zero_bytes_xor, zero_bytes-suc, word_of, fold-word_of}

-- the lowest byte of a number, and what is above it
lowest : (k below x above : ℕ) → suc below ≡ k → x / 256 ≡ above
    → zero_bytes k x ≡ bit_xor (zero_bytes k (x % 256)) (zero_bytes below above)
lowest k below x above one high =
    sym (ap (λ n. zero_bytes n x) one) ∙ zero_bytes-suc below x
    ∙ (λ i. bit_xor (zero_bytes (one i) (x % 256)) (zero_bytes below (high i)))

-- the four bytes of a word
pub four_bytes : (k x : ℕ) → 4 ≤ k → x < 2 ^ 32 → zero_bytes k x
    ≡ bit_xor (bit_xor (zero_bytes k (x % 256)) (zero_bytes (k - 1) (x / 2 ^ 8 % 256)))
    (bit_xor (zero_bytes (k - 2) (x / 2 ^ 16 % 256)) (zero_bytes (k - 3) (x / 2 ^ 24 % 256)))
four_bytes k x some fits =
    let first = zero_bytes k (x % 256) in
    let second = zero_bytes (k - 1) (x / 2 ^ 8 % 256) in
    let third = zero_bytes (k - 2) (x / 2 ^ 16 % 256) in
    lowest k (k - 1) x (x / 2 ^ 8) (omega arith) (omega arith)
    ∙ ap (bit_xor first) (lowest (k - 1) (k - 2) (x / 2 ^ 8) (x / 2 ^ 16) (omega arith) (omega arith)
    ∙ ap (bit_xor second) (lowest (k - 2) (k - 3) (x / 2 ^ 16) (x / 2 ^ 24) (omega arith) (omega arith)
    ∙ ap (λ n. bit_xor third (zero_bytes (k - 3) n)) (omega arith)))
    ∙ sym (xor_assoc first second (bit_xor third (zero_bytes (k - 3) (x / 2 ^ 24 % 256))))

pub four_items : {A : Type 0} (d : A) (xs : List A) → length xs ≡ 4
    → xs ≡ get_or xs 0 d ∷ get_or xs 1 d ∷ get_or xs 2 d ∷ get_or xs 3 d ∷ []
four_items d (a ∷ b ∷ c ∷ e ∷ []) len = refl
four_items d [] len = absurd (omega arith)
four_items d (a ∷ []) len = absurd (omega arith)
four_items d (a ∷ b ∷ []) len = absurd (omega arith)
four_items d (a ∷ b ∷ c ∷ []) len = absurd (omega arith)
four_items d (a ∷ b ∷ c ∷ e ∷ f ∷ xs) len = absurd (omega arith)

word_of-four : (a b c d : ℕ) → word_of (a ∷ b ∷ c ∷ d ∷ []) ≡ from_le_bytes w32 (a ∷ b ∷ c ∷ d ∷ [])
unfolding word_of
word_of-four a b c d = omega arith

-- four bytes as one word
fold-four : (r : ℕ) (bs : List ℕ) → length bs ≡ 4 → ((i : ℕ) → get_or bs i 0 < 256)
    → fold byte_step r bs ≡ zero_bytes 4 (bit_xor r (from_le_bytes w32 bs))
fold-four r bs len bytes =
    let items = four_items 0 bs len in
    let word : word_of bs ≡ from_le_bytes w32 bs =
    ap word_of items ∙ word_of-four (get_or bs 0 0) (get_or bs 1 0) (get_or bs 2 0) (get_or bs 3 0)
    ∙ sym (ap (from_le_bytes w32) items) in
    fold-word_of bs r bytes ∙ (λ i. zero_bytes (len i) (bit_xor r (word i)))

-- four bytes as one word, and zero bytes after them
pub four-zero_bytes : (k r : ℕ) (bs : List ℕ) → length bs ≡ 4 → ((i : ℕ) → get_or bs i 0 < 256)
    → zero_bytes (k + 4) (bit_xor r (from_le_bytes w32 bs)) ≡ zero_bytes k (fold byte_step r bs)
unfolding zero_bytes
four-zero_bytes k r bs len bytes =
    let more : k + 4 ≡ suc (suc (suc (suc k))) = omega arith in
    ap (λ n. zero_bytes n (bit_xor r (from_le_bytes w32 bs))) more
    ∙ sym (ap (zero_bytes k) (fold-four r bs len bytes))

-- of two remainders joined, one is followed by as many zero bytes
fold-alone : (bs : List ℕ) (r s : ℕ)
    → fold byte_step (bit_xor r s) bs ≡ bit_xor (zero_bytes (length bs) r) (fold byte_step s bs)
unfolding byte_step zero_bytes
fold-alone [] r s = refl
fold-alone (b ∷ bs) r s =
    ap (λ n. fold byte_step n bs) (ap (shift_bits 8) (xor_assoc r s b) ∙ shifted_xor 8 r (bit_xor s b))
    ∙ fold-alone bs (shift_bits 8 r) (shift_bits 8 (bit_xor s b))

-- a remainder after as many zero bytes as there are bytes, and beside it what the bytes leave from 0
pub fold-beside : (bs : List ℕ) (r n : ℕ) → length bs ≡ n
    → fold byte_step r bs ≡ bit_xor (zero_bytes n r) (fold byte_step 0 bs)
fold-beside bs r n len =
    ap (λ x. fold byte_step x bs) (sym (xor_zero_r r)) ∙ fold-alone bs r 0
    ∙ ap (λ k. bit_xor (zero_bytes k r) (fold byte_step 0 bs)) len

-- the same of four bytes and zero bytes after them
pub four-beside : (k r : ℕ) (bs : List ℕ) → length bs ≡ 4
    → zero_bytes k (fold byte_step r bs) ≡ bit_xor (zero_bytes (k + 4) r) (zero_bytes k (fold byte_step 0 bs))
unfolding zero_bytes
four-beside k r bs len =
    let more : k + 4 ≡ suc (suc (suc (suc k))) = omega arith in
    ap (zero_bytes k) (fold-beside bs r 4 len) ∙ zero_bytes_xor k (zero_bytes 4 r) (fold byte_step 0 bs)
    ∙ ap (λ n. bit_xor (zero_bytes n r) (zero_bytes k (fold byte_step 0 bs))) (sym more)

-- each of four bytes by itself
four_alone : (a b c d : ℕ) → fold byte_step 0 (a ∷ b ∷ c ∷ d ∷ [])
    ≡ bit_xor (bit_xor (zero_bytes 4 a) (zero_bytes 3 b)) (bit_xor (zero_bytes 2 c) (zero_bytes 1 d))
unfolding byte_step zero_bytes
four_alone a b c d =
    fold-beside (b ∷ c ∷ d ∷ []) (byte_step 0 a) 3 refl
    ∙ ap (bit_xor (zero_bytes 4 a)) (fold-beside (c ∷ d ∷ []) (byte_step 0 b) 2 refl
    ∙ ap (bit_xor (zero_bytes 3 b)) (fold-beside (d ∷ []) (byte_step 0 c) 1 refl))
    ∙ sym (xor_assoc (zero_bytes 4 a) (zero_bytes 3 b) (bit_xor (zero_bytes 2 c) (zero_bytes 1 d)))

pub each_of_four : (bs : List ℕ) → length bs ≡ 4 → fold byte_step 0 bs
    ≡ bit_xor (bit_xor (zero_bytes 4 (get_or bs 0 0)) (zero_bytes 3 (get_or bs 1 0)))
    (bit_xor (zero_bytes 2 (get_or bs 2 0)) (zero_bytes 1 (get_or bs 3 0)))
each_of_four bs len =
    ap (fold byte_step 0) (four_items 0 bs len)
    ∙ four_alone (get_or bs 0 0) (get_or bs 1 0) (get_or bs 2 0) (get_or bs 3 0)
