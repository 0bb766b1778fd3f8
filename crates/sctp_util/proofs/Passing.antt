-- Laws of the numbers that pass a test.
use Rattle.std.proofs.Common.{◌≡◌, ℕ, zero, suc, ◌+◌, ◌-◌, ◌<◌, ◌≤◌, ◌%◌, ◌^◌, Bool, true, false, List, [], ◌∷◌, ◌++◌, length, map, refl, ap, sym, ◌∙◌, inl}
use Rattle.std.proofs.Common.{inr, arith, add-zero, append-nil, length-append}
use Rattle.std.proofs.Math.Nat.{eq-or-lt_of_le}
use Rattle.std.proofs.lemmas.Bool.{lt-ltb, le-ltb}
use Rattle.std.specs.Prelude.{◌⊎◌, if◌then◌else◌, nat_lt, ◌==◌}
use Rattle.std.specs.List.{list_any}
use Rattle.sctp_util.specs.Lists.{insert_before, advance_over}
use Rattle.sctp_util.specs.Kept.{numbers_where, unbroken}

-- the same numbers pass where the tests agree, and the same values stand for them
pub map-kept-same : {B : Type 0} (f g : ℕ → B) (p q : ℕ → Bool) (from count : ℕ) → ((k : ℕ) → from ≤ k → k < from + count → p k ≡ q k)
    → ((k : ℕ) → from ≤ k → k < from + count → p k ≡ true → f k ≡ g k) → map f (numbers_where p from count) ≡ map g (numbers_where q from count)
map-kept-same f g p q from zero same values = refl
map-kept-same {B} f g p q from (suc count) same values =
    let here = same from (omega arith) (omega arith) in
    let rest = map-kept-same f g p q (from + 1) count (λ k a b. same k (omega arith) (omega arith)) (λ k a b e. values k (omega arith) (omega arith) e) in
    step (p from) (q from) here rest (λ e. values from (omega arith) (omega arith) e)
  where
    step : (b c : Bool) → b ≡ c → map f (numbers_where p (from + 1) count) ≡ map g (numbers_where q (from + 1) count) → (b ≡ true → f from ≡ g from)
        → map f (if b then from ∷ numbers_where p (from + 1) count else numbers_where p (from + 1) count)
        ≡ map g (if c then from ∷ numbers_where q (from + 1) count else numbers_where q (from + 1) count)
    step true true e rest value = rw (value refl, rest) refl
    step false false e rest value = rest
    step true false e rest value = cc
    step false true e rest value = cc

pub kept-same : (p q : ℕ → Bool) (from count : ℕ) → ((k : ℕ) → from ≤ k → k < from + count → p k ≡ q k)
    → numbers_where p from count ≡ numbers_where q from count
kept-same p q from zero same = refl
kept-same p q from (suc count) same =
    rw (same from (omega arith) (omega arith), kept-same p q (from + 1) count (λ k a b. same k (omega arith) (omega arith))) refl

-- one more number at the end
pub kept-snoc : (p : ℕ → Bool) (from count last : ℕ) → last ≡ from + count
    → numbers_where p from (suc count) ≡ numbers_where p from count ++ (if p last then last ∷ [] else [])
kept-snoc p from zero last e = rw (e, add-zero) refl
kept-snoc p from (suc count) last e =
    let ih = kept-snoc p (from + 1) count last (omega arith) in
    step (p from) ih
  where
    step : (b : Bool) → numbers_where p (from + 1) (suc count) ≡ numbers_where p (from + 1) count ++ (if p last then last ∷ [] else [])
        → (if b then from ∷ numbers_where p (from + 1) (suc count) else numbers_where p (from + 1) (suc count))
        ≡ (if b then from ∷ numbers_where p (from + 1) count else numbers_where p (from + 1) count) ++ (if p last then last ∷ [] else [])
    step true ih = ap (λ l. from ∷ l) ih
    step false ih = ih

pub kept-none : (p : ℕ → Bool) (from count : ℕ) → ((k : ℕ) → from ≤ k → k < from + count → p k ≡ false) → numbers_where p from count ≡ []
kept-none p from zero none = refl
kept-none p from (suc count) none =
    rw (none from (omega arith) (omega arith)) (kept-none p (from + 1) count (λ k a b. none k (omega arith) (omega arith)))

pub unbroken-same : (p q : ℕ → Bool) (from count : ℕ) → ((k : ℕ) → from ≤ k → k < from + count → p k ≡ q k) → unbroken p from count ≡ unbroken q from count
unbroken-same p q from zero same = refl
unbroken-same p q from (suc count) same =
    rw (same from (omega arith) (omega arith), unbroken-same p q (from + 1) count (λ k a b. same k (omega arith) (omega arith))) refl

pub unbroken-le : (p : ℕ → Bool) (from count : ℕ) → unbroken p from count ≤ count
unbroken-le p from zero = omega arith
unbroken-le p from (suc count) = grind (arith, unbroken-le p (from + 1) count)

-- those in front pass
pub unbroken-passes : (p : ℕ → Bool) (from count k : ℕ) → from ≤ k → k < from + unbroken p from count → p k ≡ true
unbroken-passes p from zero k a b = absurd (omega arith)
unbroken-passes p from (suc count) k a b =
    step (p from) refl (λ l r. unbroken-passes p (from + 1) count k l r) b
  where
    step : (c : Bool) → p from ≡ c → (from + 1 ≤ k → k < from + 1 + unbroken p (from + 1) count → p k ≡ true)
        → k < from + (if c then unbroken p (from + 1) count + 1 else 0) → p k ≡ true
    step true e ih b = grind arith
    step false e ih b = absurd (omega arith)

-- the one after them does not
pub unbroken-stops : (p : ℕ → Bool) (from count : ℕ) → unbroken p from count < count → p (from + unbroken p from count) ≡ false
unbroken-stops p from zero lt = absurd (omega arith)
unbroken-stops p from (suc count) lt = step (p from) refl (λ l. unbroken-stops p (from + 1) count l) lt
  where
    step : (c : Bool) → p from ≡ c → (unbroken p (from + 1) count < count → p (from + 1 + unbroken p (from + 1) count) ≡ false)
        → (if c then unbroken p (from + 1) count + 1 else 0) < suc count → p (from + (if c then unbroken p (from + 1) count + 1 else 0)) ≡ false
    step true e ih lt =
        let place : from + (unbroken p (from + 1) count + 1) ≡ from + 1 + unbroken p (from + 1) count = omega arith in
        rw place (ih (omega arith))
    step false e ih lt = rw add-zero e

-- where the front ones pass, the unbroken ones go on behind them
pub unbroken-on : (p : ℕ → Bool) (from front count total middle : ℕ) → total ≡ front + count → middle ≡ from + front
    → ((k : ℕ) → from ≤ k → k < middle → p k ≡ true) → unbroken p from total ≡ front + unbroken p middle count
unbroken-on p from zero count total middle t m pass =
    let t' : total ≡ count = omega arith in let m' : middle ≡ from = omega arith in rw (t', m') (omega arith)
unbroken-on p from (suc front) count total middle t m pass =
    let t' : total ≡ suc (front + count) = omega arith in
    let ih = unbroken-on p (from + 1) front count (front + count) middle refl (omega arith) (λ k a b. pass k (omega arith) b) in
    rw (t', pass from (omega arith) (omega arith), ih) (omega arith)

-- what is put among the kept is put where it stands among the numbers
inserted_front : {B : Type 0} (f : ℕ → B) (before : B → B → Bool) (p : ℕ → Bool) (x from count : ℕ) → ((k : ℕ) → from ≤ k → k < from + count → p k ≡ true
    → before (f x) (f k) ≡ true) → insert_before before (f x) (map f (numbers_where p from count)) ≡ f x ∷ map f (numbers_where p from count)
inserted_front f before p x from zero first = refl
inserted_front {B} f before p x from (suc count) first =
    step (p from) (λ e. first from (omega arith) (omega arith) e)
    (inserted_front f before p x (from + 1) count (λ k a b e. first k (omega arith) (omega arith) e))
  where
    step : (c : Bool) → (c ≡ true → before (f x) (f from) ≡ true)
        → insert_before before (f x) (map f (numbers_where p (from + 1) count)) ≡ f x ∷ map f (numbers_where p (from + 1) count)
        → insert_before before (f x) (map f (if c then from ∷ numbers_where p (from + 1) count else numbers_where p (from + 1) count))
        ≡ f x ∷ map f (if c then from ∷ numbers_where p (from + 1) count else numbers_where p (from + 1) count)
    step true e ih = rw (e refl) refl
    step false e ih = ih

pub map-kept-inserted : {B : Type 0} (f : ℕ → B) (before : B → B → Bool) (p q : ℕ → Bool) (x from count : ℕ) → p x ≡ false → q x ≡ true → from ≤ x
    → x < from + count → ((k : ℕ) → from ≤ k → k < from + count → (k ≡ x → ⊥) → p k ≡ q k) → ((k : ℕ) → from ≤ k → k < from + count → (k ≡ x → ⊥) → p k ≡ true
    → before (f x) (f k) ≡ nat_lt x k) → map f (numbers_where q from count) ≡ insert_before before (f x) (map f (numbers_where p from count))
map-kept-inserted f before p q x from zero out in' low high same order = absurd (omega arith)
map-kept-inserted {B} f before p q x from (suc count) out in' low high same order =
    at_or_past (eq-or-lt_of_le low) (λ l. map-kept-inserted f before p q x (from + 1) count out in' l (omega arith)
    (λ k a b n. same k (omega arith) (omega arith) n) (λ k a b n e. order k (omega arith) (omega arith) n e))
  where
    past : (b c : Bool) → b ≡ c → (b ≡ true → before (f x) (f from) ≡ false) → map f (numbers_where q (from + 1) count) ≡ insert_before before (f x)
        (map f (numbers_where p (from + 1) count)) → map f (if c then from ∷ numbers_where q (from + 1) count else numbers_where q (from + 1) count)
        ≡ insert_before before (f x) (map f (if b then from ∷ numbers_where p (from + 1) count else numbers_where p (from + 1) count))
    past true true e o ih = rw (o refl, ih) refl
    past false false e o ih = ih
    past true false e o ih = cc
    past false true e o ih = cc

    at_or_past : (from ≡ x) ⊎ (from < x)
        → (from + 1 ≤ x → map f (numbers_where q (from + 1) count) ≡ insert_before before (f x) (map f (numbers_where p (from + 1) count)))
        → map f (numbers_where q from (suc count)) ≡ insert_before before (f x) (map f (numbers_where p from (suc count)))
    at_or_past (inl e) ih =
        let qf : q from ≡ true = rw e in' in
        let pf : p from ≡ false = rw e out in
        let rest = kept-same q p (from + 1) count (λ k a b. sym (same k (omega arith) (omega arith) (λ n. omega arith))) in
        let front =
        inserted_front f before p x (from + 1) count (λ k a b t. order k (omega arith) (omega arith) (λ n. omega arith) t ∙ lt-ltb x k (omega arith)) in
        rw (qf, pf, front, rest) (ap (λ n. f n ∷ map f (numbers_where p (from + 1) count)) e)
    at_or_past (inr lt) ih =
        past (p from) (q from) (same from (omega arith) (omega arith) (λ n. omega arith))
        (λ e. order from (omega arith) (omega arith) (λ n. omega arith) e ∙ le-ltb x from (omega arith)) (ih (omega arith))

-- The cumulative number moves over those kept next to it. next_to c t says that t is the number after c.
advanced_stops : (f : ℕ → ℕ) (p : ℕ → Bool) (c from count : ℕ) → ((k : ℕ) → from ≤ k → k < from + count → (f k == (c + 1) % 2 ^ 32) ≡ false)
    → advance_over c (map f (numbers_where p from count)) ≡ record { cum = c; held = map f (numbers_where p from count) }
advanced_stops f p c from zero none = refl
advanced_stops f p c from (suc count) none =
    step (p from) (none from (omega arith) (omega arith)) (advanced_stops f p c (from + 1) count (λ k a b. none k (omega arith) (omega arith)))
  where
    step : (b : Bool) → (f from == (c + 1) % 2 ^ 32) ≡ false
        → advance_over c (map f (numbers_where p (from + 1) count)) ≡ record { cum = c; held = map f (numbers_where p (from + 1) count) }
        → advance_over c (map f (if b then from ∷ numbers_where p (from + 1) count else numbers_where p (from + 1) count))
        ≡ record { cum = c; held = map f (if b then from ∷ numbers_where p (from + 1) count else numbers_where p (from + 1) count) }
    step true e ih = rw e refl
    step false e ih = ih

-- f gives the numbers one after another, none of them twice, and g the number before each
pub record IsRound (f g : ℕ → ℕ) (low high : ℕ) : Type 0 where
  pub next : (k : ℕ) → low ≤ k → k ≤ high → (g k + 1) % 2 ^ 32 ≡ f k
  pub before : (k : ℕ) → g (k + 1) ≡ f k
  pub differ : (j k : ℕ) → low ≤ j → j < k → k ≤ high → (f k == f j) ≡ false
  pub same : (k : ℕ) → (f k == f k) ≡ true

pub advanced-kept : (f g : ℕ → ℕ) (p : ℕ → Bool) (from count : ℕ) → IsRound f g from (from + count) → advance_over (g from) (map f (numbers_where p from count))
    ≡ record { cum = g (from + unbroken p from count); held = map f (numbers_where p (from + unbroken p from count) (count - unbroken p from count)) }
advanced-kept f g p from zero r = rw (add-zero) refl
advanced-kept f g p from (suc count) r =
    let next : (g from + 1) % 2 ^ 32 ≡ f from = r.next from (omega arith) (omega arith) in
    let later : IsRound f g (from + 1) (from + 1 + count) = record {
      next = λ k a b. r.next k (omega arith) (omega arith);
      before = r.before;
      differ = λ j k a b d. r.differ j k (omega arith) b (omega arith);
      same = r.same;
    } in
    step (p from) refl (rw next (r.same from))
    (rw (r.before from) at (advanced-kept f g p (from + 1) count later))
    (advanced_stops f p (g from) (from + 1) count (λ k a b. rw next (r.differ from k (omega arith) (omega arith) (omega arith))))
  where
    step : (b : Bool) → p from ≡ b → (f from == (g from + 1) % 2 ^ 32) ≡ true
        → advance_over (f from) (map f (numbers_where p (from + 1) count)) ≡ record {
          cum = g (from + 1 + unbroken p (from + 1) count);
          held = map f (numbers_where p (from + 1 + unbroken p (from + 1) count) (count - unbroken p (from + 1) count));
        } → advance_over (g from) (map f (numbers_where p (from + 1) count)) ≡ record { cum = g from; held = map f (numbers_where p (from + 1) count) }
        → advance_over (g from) (map f (if b then from ∷ numbers_where p (from + 1) count else numbers_where p (from + 1) count)) ≡ record {
          cum = g (from + (if b then unbroken p (from + 1) count + 1 else 0));
          held = map f
              (numbers_where p (from + (if b then unbroken p (from + 1) count + 1 else 0)) (suc count - (if b then unbroken p (from + 1) count + 1 else 0)));
        }
    step true pf hit on stop =
        let u = unbroken p (from + 1) count in
        let b : from + (u + 1) ≡ from + 1 + u = omega arith in
        let d : suc count - (u + 1) ≡ count - u = omega arith in
        rw (hit, b, d) on
    step false pf hit on stop =
        let z : suc count - 0 ≡ suc count = omega arith in
        rw (add-zero, z, pf) stop

pub length-kept-le : (p : ℕ → Bool) (from count : ℕ) → length (numbers_where p from count) ≤ count
length-kept-le p from zero = omega arith
length-kept-le p from (suc count) = grind (arith, length-kept-le p (from + 1) count)

pub kept-snoc_out : (p : ℕ → Bool) (from count last : ℕ) → last ≡ from + count → p last ≡ false → numbers_where p from (suc count) ≡ numbers_where p from count
kept-snoc_out p from count last e out = kept-snoc p from count last e ∙ rw out (append-nil (numbers_where p from count))

pub kept-snoc_in : (p : ℕ → Bool) (from count last : ℕ) → last ≡ from + count → p last ≡ true
    → numbers_where p from (suc count) ≡ numbers_where p from count ++ last ∷ []
kept-snoc_in p from count last e in' = kept-snoc p from count last e ∙ rw in' refl

-- none in front pass
pub kept-skip : (p : ℕ → Bool) (from count k : ℕ) → from ≤ k → k ≤ from + count → ((j : ℕ) → from ≤ j → j < k → p j ≡ false)
    → numbers_where p from count ≡ numbers_where p k (from + count - k)
kept-skip p from zero k a b none = let z : from + 0 - k ≡ 0 = omega arith in rw z refl
kept-skip p from (suc count) k a b none = step (eq-or-lt_of_le a) (λ l. kept-skip p (from + 1) count k l (omega arith) (λ j c d. none j (omega arith) d))
  where
    step : (from ≡ k) ⊎ (from < k) → (from + 1 ≤ k → numbers_where p (from + 1) count ≡ numbers_where p k (from + 1 + count - k))
        → numbers_where p from (suc count) ≡ numbers_where p k (from + suc count - k)
    step (inl e) ih = let c : from + suc count - k ≡ suc count = omega arith in ap (λ n. numbers_where p n (suc count)) e ∙ ap (numbers_where p k) (sym c)
    step (inr lt) ih = let c : from + suc count - k ≡ from + 1 + count - k = omega arith in rw (none from (omega arith) lt, c) (ih (omega arith))

-- what the first kept number tells
pub record IsFront (p : ℕ → Bool) (from count k : ℕ) (rest : List ℕ) : Type 0 where
  pub low : from ≤ k
  pub high : k < from + count
  pub passes : p k ≡ true
  pub first : (j : ℕ) → from ≤ j → j < k → p j ≡ false
  pub others : rest ≡ numbers_where p (k + 1) (from + count - (k + 1))

abbrev pub FrontOf : (p : ℕ → Bool) (from count : ℕ) → List ℕ → Type 0
FrontOf p from count [] = (j : ℕ) → from ≤ j → j < from + count → p j ≡ false
FrontOf p from count (k ∷ rest) = IsFront p from count k rest

pub front-kept : (p : ℕ → Bool) (from count : ℕ) → FrontOf p from count (numbers_where p from count)
front-kept p from zero = λ j a b. absurd (omega arith)
front-kept p from (suc count) = step (p from) refl (numbers_where p (from + 1) count) refl (front-kept p (from + 1) count)
  where
    step : (b : Bool) → p from ≡ b → (l : List ℕ) → numbers_where p (from + 1) count ≡ l → FrontOf p (from + 1) count l
        → FrontOf p from (suc count) (if b then from ∷ l else l)
    step true e l el ih = record {
      low = omega arith;
      high = omega arith;
      passes = e;
      first = λ j a b. absurd (omega arith);
      others = let c : from + suc count - (from + 1) ≡ count = omega arith in rw c (sym el);
    }
    step false e [] el ih = λ j a b. below j (eq-or-lt_of_le a) b
      where
        below : (j : ℕ) → (from ≡ j) ⊎ (from < j) → j < from + suc count → p j ≡ false
        below j (inl x) b = rw (← x) e
        below j (inr x) b = ih j (omega arith) (omega arith)
    step false e (k ∷ rest) el ih = record {
      low = omega (arith, ih.low);
      high = omega (arith, ih.high);
      passes = ih.passes;
      first = λ j a b. below j (eq-or-lt_of_le a) b;
      others = let c : from + 1 + count - (k + 1) ≡ from + suc count - (k + 1) = omega arith in rw (← c) ih.others;
    }
      where
        below : (j : ℕ) → (from ≡ j) ⊎ (from < j) → j < k → p j ≡ false
        below j (inl x) b = rw (← x) e
        below j (inr x) b = ih.first j (omega arith) b

pub length-kept-mono : (p : ℕ → Bool) (from j k : ℕ) → j ≤ k → length (numbers_where p from j) ≤ length (numbers_where p from k)
length-kept-mono p from j zero le = let e : j ≡ 0 = omega arith in rw e (omega arith)
length-kept-mono p from j (suc k) le = step (eq-or-lt_of_le le) (λ l. length-kept-mono p from j k l)
  where
    step : (j ≡ suc k) ⊎ (j < suc k) → (j ≤ k → length (numbers_where p from j) ≤ length (numbers_where p from k))
        → length (numbers_where p from j) ≤ length (numbers_where p from (suc k))
    step (inl e) ih = rw e (omega arith)
    step (inr lt) ih = rw (kept-snoc p from k (from + k) refl, length-append (numbers_where p from k) (if p (from + k) then (from + k) ∷ [] else []))
        (omega (arith, ih (omega arith)))

-- a number that passes has more of them up to itself than before it
pub length-kept-lt : (p : ℕ → Bool) (from j k : ℕ) → p (from + j) ≡ true → j < k → length (numbers_where p from j) < length (numbers_where p from k)
length-kept-lt p from j k pass lt =
    let one : length (numbers_where p from (suc j)) ≡ length (numbers_where p from j) + 1 = ap length (kept-snoc_in p from j (from + j) refl pass)
    ∙ length-append (numbers_where p from j) ((from + j) ∷ []) in
    omega (arith, length-kept-mono p from (suc j) k (omega arith))

-- whether a value is among those of the kept numbers
pub any-kept : (f : ℕ → ℕ) (p : ℕ → Bool) (x from count : ℕ) → from ≤ x → x < from + count → ((k : ℕ) → from ≤ k → k < from + count → (k ≡ x → ⊥)
    → (f k == f x) ≡ false) → (f x == f x) ≡ true → list_any (λ h. h == f x) (map f (numbers_where p from count)) ≡ p x
any-kept f p x from zero low high differ same = absurd (omega arith)
any-kept f p x from (suc count) low high differ same =
    side (eq-or-lt_of_le low) (λ l. any-kept f p x (from + 1) count l (omega arith) (λ k a b ne. differ k (omega arith) (omega arith) ne) same)
  where
    none : (k c : ℕ) → x < k → k + c ≤ from + suc count → list_any (λ h. h == f x) (map f (numbers_where p k c)) ≡ false
    none k zero lt le = refl
    none k (suc c) lt le = step (p k) (differ k (omega arith) (omega arith) (λ e. omega arith)) (none (k + 1) c (omega arith) (omega arith))
      where
        step : (b : Bool) → (f k == f x) ≡ false → list_any (λ h. h == f x) (map f (numbers_where p (k + 1) c)) ≡ false
            → list_any (λ h. h == f x) (map f (if b then k ∷ numbers_where p (k + 1) c else numbers_where p (k + 1) c)) ≡ false
        step true e ih = rw e ih
        step false e ih = ih

    at : (b : Bool) → p from ≡ b → from ≡ x
        → list_any (λ h. h == f x) (map f (if b then from ∷ numbers_where p (from + 1) count else numbers_where p (from + 1) count)) ≡ b
    at true pe e = rw (e, same) refl
    at false pe e = none (from + 1) count (omega arith) (omega arith)

    other : (b : Bool) → (f from == f x) ≡ false → list_any (λ h. h == f x) (map f (numbers_where p (from + 1) count)) ≡ p x
        → list_any (λ h. h == f x) (map f (if b then from ∷ numbers_where p (from + 1) count else numbers_where p (from + 1) count)) ≡ p x
    other true e ih = rw e ih
    other false e ih = ih

    side : (from ≡ x) ⊎ (from < x) → (from + 1 ≤ x → list_any (λ h. h == f x) (map f (numbers_where p (from + 1) count)) ≡ p x)
        → list_any (λ h. h == f x) (map f (numbers_where p from (suc count))) ≡ p x
    side (inl e) ih = at (p from) refl e ∙ ap p e
    side (inr l) ih = other (p from) (differ from (omega arith) (omega arith) (λ e. omega arith)) (ih (omega arith))
