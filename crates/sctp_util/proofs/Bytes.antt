-- Parts of bytes are bytes, and the numbers in bytes are written as they stood.
use Rattle.std.proofs.Common.{◌≡◌, ℕ, zero, suc, ◌+◌, ◌*◌, ◌-◌, ◌<◌, ◌≤◌, ◌^◌, List, [], ◌∷◌, ◌++◌, length, take, drop, refl, sym, ap, ◌∙◌, arith}
use Rattle.std.specs.List.{flat_map}
use Rattle.std.specs.Int.{w16, from_be_bytes}
use Rattle.std.proofs.Math.Seq.{take-add}
use Rattle.std.proofs.lemmas.List.{append-nil, drop-drop, length-take-le, length-drop, take-take, drop-take}
use Rattle.std.proofs.lemmas.Nat.{be_bytes_2, be_bytes_4}
use Rattle.std.proofs.lemmas.Grind.{flat_map-append}
use Rattle.sctp_util.specs.Field.{AreBytes, be16, be32, u16_at, u32_at}
use Rattle.sctp_util.specs.Each.{each}

pub bytes_drop : (n : ℕ) (bytes : List ℕ) → AreBytes bytes → AreBytes (drop n bytes)
bytes_drop zero bytes h = h
bytes_drop (suc n) [] h = h
bytes_drop (suc n) (b ∷ bytes) h = bytes_drop n bytes (λ i. h (suc i))

bytes_cons : (b : ℕ) (bytes : List ℕ) → b < 256 → AreBytes bytes → AreBytes (b ∷ bytes)
bytes_cons b bytes small h zero = small
bytes_cons b bytes small h (suc i) = h i

pub bytes_take : (n : ℕ) (bytes : List ℕ) → AreBytes bytes → AreBytes (take n bytes)
bytes_take zero bytes h = λ i. omega arith
bytes_take (suc n) [] h = h
bytes_take (suc n) (b ∷ bytes) h = bytes_cons b (take n bytes) (h zero) (bytes_take n bytes (λ i. h (suc i)))

length_cut : (n at : ℕ) (bytes : List ℕ) → at + n ≤ length bytes → length (take n (drop at bytes)) ≡ n
length_cut n at bytes le = length-take-le n (drop at bytes) (omega (arith, length-drop at bytes))

-- a number is written as the bytes that it was read from
pub be16_u16 : (bytes : List ℕ) (at : ℕ) → AreBytes bytes → at + 2 ≤ length bytes → be16 (u16_at bytes at) ≡ take 2 (drop at bytes)
unfolding be16 u16_at
be16_u16 bytes at h le = be_bytes_2 (take 2 (drop at bytes)) _ (length_cut 2 at bytes le) (bytes_take 2 (drop at bytes) (bytes_drop at bytes h)) refl

pub be32_u32 : (bytes : List ℕ) (at : ℕ) → AreBytes bytes → at + 4 ≤ length bytes → be32 (u32_at bytes at) ≡ take 4 (drop at bytes)
unfolding be32 u32_at
be32_u32 bytes at h le = be_bytes_4 (take 4 (drop at bytes)) _ (length_cut 4 at bytes le) (bytes_take 4 (drop at bytes) (bytes_drop at bytes h)) refl

-- and fits its width
pub u32_fits : (bytes : List ℕ) (at : ℕ) → AreBytes bytes → u32_at bytes at < 2 ^ 32
unfolding u32_at
u32_fits bytes at h = let b = bytes_take 4 (drop at bytes) (bytes_drop at bytes h) in omega (arith, b 0, b 1, b 2, b 3)

-- a number in the front of bytes
pub u16_at_take : (bytes : List ℕ) (n at : ℕ) → at + 2 ≤ n → u16_at (take n bytes) at ≡ u16_at bytes at
unfolding u16_at
u16_at_take bytes n at le = ap (from_be_bytes w16) (front (n - at) (omega arith) (omega arith))
  where
    front : (m : ℕ) → n ≡ at + m → 2 ≤ m → take 2 (drop at (take n bytes)) ≡ take 2 (drop at bytes)
    front m e long = rw (e, drop-take, take-take) refl

-- numbers of two bytes each, from a place on, are written as they stood
pub written_each : {A : Type 0} (f : ℕ → A) (g : A → List ℕ) (bytes : List ℕ) (at n : ℕ) (place : ℕ → ℕ) → ((i : ℕ) → place i ≡ at + 2 * i) → AreBytes bytes
    → at + 2 * n ≤ length bytes → ((i : ℕ) → i < n → g (f (u16_at bytes (place i))) ≡ be16 (u16_at bytes (place i)))
    → flat_map g (each n (λ i. f (u16_at bytes (place i)))) ≡ take (2 * n) (drop at bytes)
unfolding each
written_each f g bytes at zero place is h le same = refl
written_each f g bytes at (suc n) place is h le same =
    let before = written_each f g bytes at n place is h (omega arith) (λ i lt. same i (omega arith)) in
    let one : g (f (u16_at bytes (place n))) ≡ take 2 (drop (at + 2 * n) bytes) = same n (omega arith) ∙ be16_u16 bytes (place n) h (omega (arith, is n))
    ∙ ap (λ k. take 2 (drop k bytes)) (is n) in
    let more : 2 * suc n ≡ 2 * n + 2 = omega arith in
    let both : take (2 * suc n) (drop at bytes) ≡ take (2 * n) (drop at bytes) ++ take 2 (drop (at + 2 * n) bytes) = rw (more, take-add, drop-drop) refl in
    rw (flat_map-append, before) (ap (λ (x : List ℕ). take (2 * n) (drop at bytes) ++ x) (append-nil _ ∙ one) ∙ sym both)

-- what two functions give for the same numbers
pub each_same : {A : Type 0} (n : ℕ) (f g : ℕ → A) → ((i : ℕ) → i < n → f i ≡ g i) → each n f ≡ each n g
unfolding each
each_same zero f g same = refl
each_same (suc n) f g same = rw (same n (omega arith), each_same n f g (λ i lt. same i (omega arith))) refl
