-- Further laws of kept numbers, and of list words over them.
use Rattle.std.proofs.Common.{◌≡◌, ℕ, zero, suc, ◌+◌, ◌<◌, ◌≤◌, Bool, true, false, List, [], ◌∷◌, length, map, get_or, refl, ap, sym, ◌∙◌, inl, inr, arith}
use Rattle.std.proofs.Math.Nat.{eq-or-lt_of_le}
use Rattle.std.proofs.lemmas.Bool.{cases_lt}
use Rattle.std.specs.Prelude.{◌⊎◌, if◌then◌else◌, ◌&&◌}
use Rattle.std.specs.List.{list_any, filter}
use Rattle.sctp_util.specs.Kept.{numbers_where}
use Rattle.sctp_util.specs.Lists.{change_at}
use Rattle.sctp_util.specs.Lists.{change_first, after_leading}

-- ## Tests

pub fails : (b : Bool) → (b ≡ true → ⊥) → b ≡ false
fails true h = absurd (h refl)
fails false h = refl

pub not_both : false ≡ true → ⊥
not_both e = cc

pub both : (a b : Bool) → (a && b) ≡ true → (a ≡ true) × (b ≡ true)
both true true e = (refl, refl)
both true false e = cc
both false b e = cc

pub and : (a b : Bool) → a ≡ true → b ≡ true → (a && b) ≡ true
and a b x y = rw (x, y) refl

-- two tests that lead to one another
pub same_test : (a b : Bool) → (a ≡ true → b ≡ true) → (b ≡ true → a ≡ true) → a ≡ b
same_test true b f g = sym (f refl)
same_test false true f g = g refl
same_test false false f g = refl

-- ## A changed element

pub length-changed : {A : Type 0} (f : A → A) (i : ℕ) (xs : List A) → length (change_at f i xs) ≡ length xs
length-changed f i [] = refl
length-changed f zero (x ∷ xs) = refl
length-changed f (suc i) (x ∷ xs) = ap suc (length-changed f i xs)

pub changed-same : {A : Type 0} (f : A → A) (i : ℕ) (xs : List A) (d : A) → i < length xs → get_or (change_at f i xs) i d ≡ f (get_or xs i d)
changed-same f i [] d lt = absurd (omega arith)
changed-same f zero (x ∷ xs) d lt = refl
changed-same f (suc i) (x ∷ xs) d lt = changed-same f i xs d (omega arith)

pub changed-other : {A : Type 0} (f : A → A) (i k : ℕ) (xs : List A) (d : A) → (k ≡ i → ⊥) → get_or (change_at f i xs) k d ≡ get_or xs k d
changed-other f i k [] d ne = refl
changed-other f zero zero (x ∷ xs) d ne = absurd (ne refl)
changed-other f zero (suc k) (x ∷ xs) d ne = refl
changed-other f (suc i) zero (x ∷ xs) d ne = refl
changed-other f (suc i) (suc k) (x ∷ xs) d ne = changed-other f i k xs d (λ e. ne (ap suc e))

-- what f leaves as it is
pub changed-keeps : {A B : Type 0} (f : A → A) (g : A → B) → ((x : A) → g (f x) ≡ g x) → (i k : ℕ) (xs : List A) (d : A)
    → g (get_or (change_at f i xs) k d) ≡ g (get_or xs k d)
changed-keeps f g keeps i k [] d = refl
changed-keeps f g keeps zero zero (x ∷ xs) d = keeps x
changed-keeps f g keeps zero (suc k) (x ∷ xs) d = refl
changed-keeps f g keeps (suc i) zero (x ∷ xs) d = refl
changed-keeps f g keeps (suc i) (suc k) (x ∷ xs) d = changed-keeps f g keeps i k xs d

-- ## Kept numbers

-- a number that passes makes the list longer
pub length-kept-positive : (p : ℕ → Bool) (x from count : ℕ) → from ≤ x → x < from + count → p x ≡ true → 0 < length (numbers_where p from count)
length-kept-positive p x from zero low high e = absurd (omega arith)
length-kept-positive p x from (suc count) low high e =
    step (p from) refl (eq-or-lt_of_le low) (λ l. length-kept-positive p x (from + 1) count l (omega arith) e)
  where
    step : (b : Bool) → p from ≡ b → (from ≡ x) ⊎ (from < x) → (from + 1 ≤ x → 0 < length (numbers_where p (from + 1) count))
        → 0 < length (if b then from ∷ numbers_where p (from + 1) count else numbers_where p (from + 1) count)
    step true pf side ih = omega arith
    step false pf (inl l) ih = absurd (not_both (sym pf ∙ ap p l ∙ e))
    step false pf (inr l) ih = ih (omega arith)

-- where one passes that did not, there is one more
pub length-kept-one_more : (p q : ℕ → Bool) (x from count : ℕ) → p x ≡ false → q x ≡ true → from ≤ x → x < from + count
    → ((k : ℕ) → from ≤ k → k < from + count → (k ≡ x → ⊥) → p k ≡ q k) → length (numbers_where q from count) ≡ length (numbers_where p from count) + 1
length-kept-one_more p q x from zero out in' low high same = absurd (omega arith)
length-kept-one_more p q x from (suc count) out in' low high same =
    at_or_past (eq-or-lt_of_le low) (λ l. length-kept-one_more p q x (from + 1) count out in' l (omega arith) (λ k a b n. same k (omega arith) (omega arith) n))
  where
    tail : (from ≡ x) → (k count : ℕ) → from < k → ((j : ℕ) → k ≤ j → j < k + count → (j ≡ x → ⊥) → p j ≡ q j)
        → length (numbers_where q k count) ≡ length (numbers_where p k count)
    tail e k zero lt s = refl
    tail e k (suc c) lt s =
        rw (← s k (omega arith) (omega arith) (λ n. omega arith)) (step (p k) (tail e (k + 1) c (omega arith) (λ j a b n. s j (omega arith) (omega arith) n)))
      where
        step : (b : Bool) → length (numbers_where q (k + 1) c) ≡ length (numbers_where p (k + 1) c) → length (if b then k ∷ numbers_where q (k + 1) c
            else numbers_where q (k + 1) c) ≡ length (if b then k ∷ numbers_where p (k + 1) c else numbers_where p (k + 1) c)
        step true ih = ap suc ih
        step false ih = ih

    past : (b : Bool) → length (numbers_where q (from + 1) count) ≡ length (numbers_where p (from + 1) count) + 1
        → length (if b then from ∷ numbers_where q (from + 1) count else numbers_where q (from + 1) count)
        ≡ length (if b then from ∷ numbers_where p (from + 1) count else numbers_where p (from + 1) count) + 1
    past true ih = omega (arith, ih)
    past false ih = ih

    at_or_past : (from ≡ x) ⊎ (from < x) → (from + 1 ≤ x → length (numbers_where q (from + 1) count) ≡ length (numbers_where p (from + 1) count) + 1)
        → length (numbers_where q from (suc count)) ≡ length (numbers_where p from (suc count)) + 1
    at_or_past (inl e) ih =
        let qf : q from ≡ true = rw e in' in
        let pf : p from ≡ false = rw e out in
        rw (qf, pf) (omega (arith, tail e (from + 1) count (omega arith) (λ k a b n. same k (omega arith) (omega arith) n)))
    at_or_past (inr lt) ih = rw (← same from (omega arith) (omega arith) (λ n. omega arith)) (past (p from) (ih (omega arith)))

-- those past some number do not pass
pub kept-short : (p : ℕ → Bool) (from count more total : ℕ) → total ≡ count + more → ((k : ℕ) → from + count ≤ k → k < from + total → p k ≡ false)
    → numbers_where p from total ≡ numbers_where p from count
kept-short p from zero more total t none =
    let e : total ≡ more = omega arith in rw e (empty p from more (λ k a b. none k (omega arith) (omega arith)))
  where
    empty : (p : ℕ → Bool) (from count : ℕ) → ((k : ℕ) → from ≤ k → k < from + count → p k ≡ false) → numbers_where p from count ≡ []
    empty p from zero none = refl
    empty p from (suc count) none = rw (none from (omega arith) (omega arith)) (empty p (from + 1) count (λ k a b. none k (omega arith) (omega arith)))
kept-short p from (suc count) more total t none =
    let e : total ≡ suc (count + more) = omega arith in
    rw e (step (p from) (kept-short p (from + 1) count more (count + more) refl (λ k a b. none k (omega arith) (omega arith))))
  where
    step : (b : Bool) → numbers_where p (from + 1) (count + more) ≡ numbers_where p (from + 1) count
        → (if b then from ∷ numbers_where p (from + 1) (count + more) else numbers_where p (from + 1) (count + more))
        ≡ (if b then from ∷ numbers_where p (from + 1) count else numbers_where p (from + 1) count)
    step true ih = ap (λ l. from ∷ l) ih
    step false ih = ih

-- ## Words over kept numbers

-- whether some value passes, where only that of x can
pub any-kept_one : {B : Type 0} (t : B → Bool) (f : ℕ → B) (p : ℕ → Bool) (x from count : ℕ) → from ≤ x → x < from + count → ((k : ℕ) → from ≤ k
    → k < from + count → (k ≡ x → ⊥) → p k ≡ true → t (f k) ≡ false) → (p x ≡ true → t (f x) ≡ true) → list_any t (map f (numbers_where p from count)) ≡ p x
any-kept_one t f p x from zero low high others here = absurd (omega arith)
any-kept_one {B} t f p x from (suc count) low high others here =
    side (eq-or-lt_of_le low) (λ l. any-kept_one t f p x (from + 1) count l (omega arith) (λ k a b ne. others k (omega arith) (omega arith) ne) here)
  where
    none : (k c : ℕ) → x < k → k + c ≤ from + suc count → list_any t (map f (numbers_where p k c)) ≡ false
    none k zero lt le = refl
    none k (suc c) lt le = step (p k) (λ e. others k (omega arith) (omega arith) (λ e. omega arith) e) (none (k + 1) c (omega arith) (omega arith))
      where
        step : (b : Bool) → (b ≡ true → t (f k) ≡ false) → list_any t (map f (numbers_where p (k + 1) c)) ≡ false
            → list_any t (map f (if b then k ∷ numbers_where p (k + 1) c else numbers_where p (k + 1) c)) ≡ false
        step true e ih = rw (e refl) ih
        step false e ih = ih

    at : (b : Bool) → p from ≡ b → from ≡ x → (b ≡ true → t (f from) ≡ true)
        → list_any t (map f (if b then from ∷ numbers_where p (from + 1) count else numbers_where p (from + 1) count)) ≡ b
    at true pe e h = rw (h refl) refl
    at false pe e h = none (from + 1) count (omega arith) (omega arith)

    other : (b : Bool) → (b ≡ true → t (f from) ≡ false) → list_any t (map f (numbers_where p (from + 1) count)) ≡ p x
        → list_any t (map f (if b then from ∷ numbers_where p (from + 1) count else numbers_where p (from + 1) count)) ≡ p x
    other true e ih = rw (e refl) ih
    other false e ih = ih

    side : (from ≡ x) ⊎ (from < x) → (from + 1 ≤ x → list_any t (map f (numbers_where p (from + 1) count)) ≡ p x)
        → list_any t (map f (numbers_where p from (suc count))) ≡ p x
    side (inl e) ih = at (p from) refl e (λ h. rw e (here (rw (← e) h))) ∙ ap p e
    side (inr l) ih = other (p from) (λ e. others from (omega arith) (omega arith) (λ n. omega arith) e) (ih (omega arith))

-- the value of one kept number is changed
pub change_first-kept : {B : Type 0} (t : B → Bool) (change : B → B) (f g : ℕ → B) (p : ℕ → Bool) (x from count : ℕ) → p x ≡ true
    → ((k : ℕ) → from ≤ k → k < from + count → (k ≡ x → ⊥) → p k ≡ true → (t (f k) ≡ false) × (g k ≡ f k)) → t (f x) ≡ true → g x ≡ change (f x) → from ≤ x
    → x < from + count → map g (numbers_where p from count) ≡ change_first t change (map f (numbers_where p from count))
change_first-kept t change f g p x from zero px others hit new low high = absurd (omega arith)
change_first-kept {B} t change f g p x from (suc count) px others hit new low high = side (eq-or-lt_of_le low)
    (λ l. change_first-kept t change f g p x (from + 1) count px (λ k a b ne. others k (omega arith) (omega arith) ne) hit new l (omega arith))
  where
    rest : (k c : ℕ) → x < k → k + c ≤ from + suc count → map g (numbers_where p k c) ≡ map f (numbers_where p k c)
    rest k zero lt le = refl
    rest k (suc c) lt le = step (p k) (λ e. (others k (omega arith) (omega arith) (λ n. omega arith) e).1) (rest (k + 1) c (omega arith) (omega arith))
      where
        step : (b : Bool) → (b ≡ true → g k ≡ f k) → map g (numbers_where p (k + 1) c) ≡ map f (numbers_where p (k + 1) c) → map g (if b
            then k ∷ numbers_where p (k + 1) c else numbers_where p (k + 1) c) ≡ map f (if b then k ∷ numbers_where p (k + 1) c else numbers_where p (k + 1) c)
        step true e ih = rw (e refl, ih) refl
        step false e ih = ih

    other : (b : Bool) → (b ≡ true → (t (f from) ≡ false) × (g from ≡ f from))
        → map g (numbers_where p (from + 1) count) ≡ change_first t change (map f (numbers_where p (from + 1) count))
        → map g (if b then from ∷ numbers_where p (from + 1) count else numbers_where p (from + 1) count)
        ≡ change_first t change (map f (if b then from ∷ numbers_where p (from + 1) count else numbers_where p (from + 1) count))
    other true e ih = rw ((e refl).0, (e refl).1, ih) refl
    other false e ih = ih

    side : (from ≡ x) ⊎ (from < x)
        → (from + 1 ≤ x → map g (numbers_where p (from + 1) count) ≡ change_first t change (map f (numbers_where p (from + 1) count)))
        → map g (numbers_where p from (suc count)) ≡ change_first t change (map f (numbers_where p from (suc count)))
    side (inl e) ih =
        let pf : p from ≡ true = rw e px in
        let tf : t (f from) ≡ true = rw e hit in
        let gf : g from ≡ change (f from) = rw e new in
        rw (pf, tf, gf, rest (from + 1) count (omega arith) (omega arith)) refl
    side (inr l) ih = other (p from) (λ e. others from (omega arith) (omega arith) (λ n. omega arith) e) (ih (omega arith))

-- some of the values stay
pub those-kept : {B : Type 0} (t : B → Bool) (f g : ℕ → B) (p q : ℕ → Bool) (from count : ℕ) → ((k : ℕ) → from ≤ k → k < from + count → q k ≡ (p k && t (f k)))
    → ((k : ℕ) → from ≤ k → k < from + count → q k ≡ true → g k ≡ f k) → map g (numbers_where q from count) ≡ filter t (map f (numbers_where p from count))
those-kept t f g p q from zero same values = refl
those-kept {B} t f g p q from (suc count) same values =
    rw (same from (omega arith) (omega arith))
    (step (p from) (t (f from)) refl (λ e. values from (omega arith) (omega arith) (same from (omega arith) (omega arith) ∙ e))
    (those-kept t f g p q (from + 1) count (λ k a b. same k (omega arith) (omega arith)) (λ k a b. values k (omega arith) (omega arith))))
  where
    step : (b c : Bool) → t (f from) ≡ c → ((b && t (f from)) ≡ true → g from ≡ f from)
        → map g (numbers_where q (from + 1) count) ≡ filter t (map f (numbers_where p (from + 1) count))
        → map g (if b && c then from ∷ numbers_where q (from + 1) count else numbers_where q (from + 1) count)
        ≡ filter t (map f (if b then from ∷ numbers_where p (from + 1) count else numbers_where p (from + 1) count))
    step true true e value ih = rw (e, value e, ih) refl
    step true false e value ih = rw (e, ih) refl
    step false c e value ih = ih

-- the values up to a number go
pub after_leading-kept : {B : Type 0} (t : B → Bool) (f : ℕ → B) (p q : ℕ → Bool) (edge from count : ℕ) → ((k : ℕ) → from ≤ k → k < from + count → p k ≡ true
    → (k < edge → t (f k) ≡ true) × (edge ≤ k → t (f k) ≡ false)) → ((k : ℕ) → from ≤ k → k < from + count → (k < edge → q k ≡ false) × (edge ≤ k → q k ≡ p k))
    → map f (numbers_where q from count) ≡ after_leading t (map f (numbers_where p from count))
after_leading-kept t f p q edge from zero test same = refl
after_leading-kept {B} t f p q edge from (suc count) test same =
    side (cases_lt from edge)
    (after_leading-kept t f p q edge (from + 1) count (λ k a b. test k (omega arith) (omega arith)) (λ k a b. same k (omega arith) (omega arith)))
  where
    rest : (k c : ℕ) → edge ≤ k → from ≤ k → k + c ≤ from + suc count → numbers_where q k c ≡ numbers_where p k c
    rest k zero low low' le = refl
    rest k (suc c) low low' le = rw ((same k (omega arith) (omega arith)).1 low, rest (k + 1) c (omega arith) (omega arith) (omega arith)) refl

    stays : (k c : ℕ) → edge ≤ k → from ≤ k → k + c ≤ from + suc count → after_leading t (map f (numbers_where p k c)) ≡ map f (numbers_where p k c)
    stays k zero low low' le = refl
    stays k (suc c) low low' le = step (p k) (λ e. (test k (omega arith) (omega arith) e).1 low) (stays (k + 1) c (omega arith) (omega arith) (omega arith))
      where
        step : (b : Bool) → (b ≡ true → t (f k) ≡ false) → after_leading t (map f (numbers_where p (k + 1) c)) ≡ map f (numbers_where p (k + 1) c)
            → after_leading t (map f (if b then k ∷ numbers_where p (k + 1) c else numbers_where p (k + 1) c))
            ≡ map f (if b then k ∷ numbers_where p (k + 1) c else numbers_where p (k + 1) c)
        step true e ih = rw (e refl) refl
        step false e ih = ih

    low : (b : Bool) → (b ≡ true → t (f from) ≡ true) → map f (numbers_where q (from + 1) count) ≡ after_leading t (map f (numbers_where p (from + 1) count))
        → map f (numbers_where q (from + 1) count)
        ≡ after_leading t (map f (if b then from ∷ numbers_where p (from + 1) count else numbers_where p (from + 1) count))
    low true e ih = rw (e refl) ih
    low false e ih = ih

    side : (from < edge) ⊎ (edge ≤ from) → map f (numbers_where q (from + 1) count) ≡ after_leading t (map f (numbers_where p (from + 1) count))
        → map f (numbers_where q from (suc count)) ≡ after_leading t (map f (numbers_where p from (suc count)))
    side (inl l) ih = rw ((same from (omega arith) (omega arith)).0 l) (low (p from) (λ e. (test from (omega arith) (omega arith) e).0 l) ih)
    side (inr g) ih = ap (map f) (rest from (suc count) g (omega arith) (omega arith)) ∙ sym (stays from (suc count) g (omega arith) (omega arith))
