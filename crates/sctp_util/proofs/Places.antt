-- The places of kept and leading numbers.
use Rattle.std.proofs.Common.{◌≡◌, ℕ, zero, suc, ◌+◌, ◌-◌, ◌<◌, ◌≤◌, Bool, true, false, List, [], ◌∷◌, length, drop, get_or, refl, ap, sym, ◌∙◌, arith}
use Rattle.std.specs.Prelude.{if◌then◌else◌}
use Rattle.std.proofs.lemmas.List.{get_or-drop}
use Rattle.sctp_util.specs.Kept.{numbers_where, leading}
use Rattle.sctp_util.proofs.Lines.{IsAt}

pub leading-passes : (r : ℕ → Bool) (xs : List ℕ) (j d : ℕ) → j < length (leading r xs) → r (get_or xs j d) ≡ true
leading-passes r [] j d lt = absurd (omega arith)
leading-passes r (x ∷ xs) j d lt = step (r x) refl j lt (λ i l. leading-passes r xs i d l)
  where
    step : (b : Bool) → r x ≡ b → (j : ℕ) → j < length (if b then x ∷ leading r xs else []) → ((i : ℕ) → i < length (leading r xs) → r (get_or xs i d) ≡ true)
        → r (get_or (x ∷ xs) j d) ≡ true
    step true e zero lt ih = e
    step true e (suc j) lt ih = ih j (omega arith)
    step false e j lt ih = absurd (omega arith)

pub leading-stops : (r : ℕ → Bool) (xs : List ℕ) (d : ℕ) → length (leading r xs) < length xs → r (get_or xs (length (leading r xs)) d) ≡ false
leading-stops r [] d lt = absurd (omega arith)
leading-stops r (x ∷ xs) d lt = step (r x) refl (λ l. leading-stops r xs d l) lt
  where
    step : (b : Bool) → r x ≡ b → (length (leading r xs) < length xs → r (get_or xs (length (leading r xs)) d) ≡ false)
        → length (if b then x ∷ leading r xs else []) < length (x ∷ xs) → r (get_or (x ∷ xs) (length (if b then x ∷ leading r xs else [])) d) ≡ false
    step true e ih lt = ih (omega arith)
    step false e ih lt = e

pub leading-le : (r : ℕ → Bool) (xs : List ℕ) → length (leading r xs) ≤ length xs
leading-le r [] = omega arith
leading-le r (x ∷ xs) = step (r x) (leading-le r xs)
  where
    step : (b : Bool) → length (leading r xs) ≤ length xs → length (if b then x ∷ leading r xs else []) ≤ length (x ∷ xs)
    step true ih = omega (arith, ih)
    step false ih = omega arith

-- how many pass is settled by which do and which is the first that does not
pub leading-is : (r : ℕ → Bool) (xs : List ℕ) (n d : ℕ) → n ≤ length xs → ((j : ℕ) → j < n → r (get_or xs j d) ≡ true)
    → (n < length xs → r (get_or xs n d) ≡ false) → length (leading r xs) ≡ n
leading-is r [] n d le pass stop = omega arith
leading-is r (x ∷ xs) zero d le pass stop = let e : r x ≡ false = stop (omega arith) in rw e refl
leading-is r (x ∷ xs) (suc n) d le pass stop =
    let e : r x ≡ true = pass 0 (omega arith) in
    let ih : length (leading r xs) ≡ n = leading-is r xs n d (omega arith) (λ j lt. pass (suc j) (omega arith)) (λ lt. stop (omega arith)) in
    rw e (ap suc ih)

pub get-drop : (i : ℕ) (xs : List ℕ) (j at d : ℕ) → at ≡ i + j → get_or (drop i xs) j d ≡ get_or xs at d
get-drop i xs j at d e = get_or-drop i xs j d ∙ ap (λ n. get_or xs n d) (sym e)

pub length-dropped : (i : ℕ) (xs : List ℕ) → length (drop i xs) ≡ length xs - i
length-dropped zero [] = omega arith
length-dropped zero (x ∷ xs) = omega arith
length-dropped (suc i) [] = omega arith
length-dropped (suc i) (x ∷ xs) = omega (arith, length-dropped i xs)

pub kept-get : (p : ℕ → Bool) (from count j k d : ℕ) → k ≡ from + j → j < count → p k ≡ true
    → get_or (numbers_where p from count) (length (numbers_where p from j)) d ≡ k
kept-get p from zero j k d e lt pass = absurd (omega arith)
kept-get p from (suc count) zero k d e lt pass = let h : p from ≡ true = (let z : from ≡ k = omega arith in rw z pass) in rw h (omega arith)
kept-get p from (suc count) (suc j) k d e lt pass = step (p from) (kept-get p (from + 1) count j k d (omega arith) (omega arith) pass)
  where
    step : (b : Bool) → get_or (numbers_where p (from + 1) count) (length (numbers_where p (from + 1) j)) d ≡ k
        → get_or (if b then from ∷ numbers_where p (from + 1) count else numbers_where p (from + 1) count)
        (length (if b then from ∷ numbers_where p (from + 1) j else numbers_where p (from + 1) j)) d ≡ k
    step true ih = ih
    step false ih = ih

pub kept-place : (p : ℕ → Bool) (from count j d : ℕ) → j < length (numbers_where p from count) → IsAt p from count (get_or (numbers_where p from count) j d) j
kept-place p from zero j d lt = absurd (omega arith)
kept-place p from (suc count) j d lt = step (p from) refl j lt (λ i l. kept-place p (from + 1) count i d l)
  where
    step : (b : Bool) → p from ≡ b → (j : ℕ) → j < length (if b then from ∷ numbers_where p (from + 1) count else numbers_where p (from + 1) count)
        → ((i : ℕ) → i < length (numbers_where p (from + 1) count) → IsAt p (from + 1) count (get_or (numbers_where p (from + 1) count) i d) i)
        → IsAt p from (suc count) (get_or (if b then from ∷ numbers_where p (from + 1) count else numbers_where p (from + 1) count) j d) j
    step true e zero lt ih = record { k = 0; is = omega arith; low = omega arith; passes = e; place_is = refl }
    step true e (suc j) lt ih =
        let r = ih j (omega arith) in
        record { k = suc r.k; is = omega (arith, r.is); low = omega (arith, r.low); passes = r.passes; place_is = rw e (ap suc r.place_is) }
    step false e j lt ih =
        let r = ih j lt in
        record { k = suc r.k; is = omega (arith, r.is); low = omega (arith, r.low); passes = r.passes; place_is = rw e r.place_is }
