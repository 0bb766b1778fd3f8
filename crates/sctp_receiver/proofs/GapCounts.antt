-- How many TSNs are missing below the highest one that came: how far that lies past the cumulative one, less how many came beyond it.
use Rattle.sctp_receiver.proofs.Names.{◌≡◌, ℕ, zero, suc, ◌+◌, ◌-◌, ◌<◌, ◌≤◌, ◌^◌, Bool, true, false, List, [], ◌∷◌, length, Some, refl, ap, sym, subst, ◌∙◌}
use Rattle.sctp_receiver.proofs.Names.{inl, inr, arith, if◌then◌else◌, ◌==◌, not, slice_get, unwrap_or, list_any, filter, cases_lt, insert_before, advance_over}
use Rattle.sctp_receiver.proofs.Names.{Seen, distance, comes_before, at_or_before, before_is, following_tsn, distance_self, distance_rest, before_farther}
use Rattle.sctp_receiver.proofs.Names.{neither, Filter, rise_beyond, has_come, is_opposite, highest_tsn, with_tsn, skipped_to}
use Rattle.std.proofs.lemmas.List.Sums.{length-filter, count_by-le-length}
use Rattle.sctp_receiver.proofs.TsnLists.{IsStep, step-of, nearer, rebased, rise-inserted, rise-past, moved, behind-it, before-it}
use Rattle.sctp_receiver.proofs.Receptions.{after}
use Rattle.sctp_receiver.proofs.Retracts.{advance-short}

-- how far the last one lies from the base; where there is none, what is handed in
abbrev pub far_of : ℕ → ℕ → List ℕ → ℕ
far_of base far [] = far
far_of base far (t ∷ ts) = far_of base (distance base t) ts

pub length-far : (base far : ℕ) (ts : List ℕ) → rise_beyond base far ts ≡ true → far + length ts ≤ far_of base far ts
length-far base far [] h = omega arith
length-far base far (t ∷ ts) h =
    let s = step-of base far t ts h in
    let ih = length-far base (distance base t) ts s.1 in
    omega (arith, s.0.farther)

-- ## One more

pub far-inserted : (base far x m : ℕ) (ts : List ℕ) → distance base x ≤ m → far_of base far ts ≤ m → far_of base far (insert_before comes_before x ts) ≤ m
far-inserted base far x m [] le h = le
far-inserted base far x m (t ∷ ts) le h = by (comes_before x t) (far-inserted base (distance base t) x m ts le h)
  where
    by : (b : Bool) → far_of base (distance base t) (insert_before comes_before x ts) ≤ m
        → far_of base far (if b then x ∷ t ∷ ts else t ∷ insert_before comes_before x ts) ≤ m
    by true ih = h
    by false ih = ih

pub length-inserted : (x : ℕ) (ts : List ℕ) → length (insert_before comes_before x ts) ≡ length ts + 1
length-inserted x [] = omega arith
length-inserted x (t ∷ ts) = by (comes_before x t) (length-inserted x ts)
  where
    by : (b : Bool) → length (insert_before comes_before x ts) ≡ length ts + 1
        → length (if b then x ∷ t ∷ ts else t ∷ insert_before comes_before x ts) ≡ length (t ∷ ts) + 1
    by true ih = omega arith
    by false ih = omega (arith, ih)

-- ## The cumulative TSN moves

-- seen from a base that is not farther than they are
far-rebased : (base b far : ℕ) (ts : List ℕ) → base < 2 ^ 32 → b < 2 ^ 32 → distance base b ≤ far → rise_beyond base far ts ≡ true
    → far_of b (far - distance base b) ts + distance base b ≡ far_of base far ts
far-rebased base b far [] hc hb le h = omega (arith, le)
far-rebased base b far (t ∷ ts) hc hb le h =
    let s = step-of base far t ts h in
    let sum : distance base b + distance b t ≡ distance base t = distance_rest base b t hc hb s.0.small (omega (arith, le, s.0.farther)) in
    let same : distance base t - distance base b ≡ distance b t = omega arith in
    let ih = far-rebased base b (distance base t) ts hc hb (omega (arith, le, s.0.farther)) s.1 in
    subst (λ n. far_of b n ts + distance base b ≡ far_of base (distance base t) ts) same ih

-- no more are missing than where so many of them came, the last one so far from the cumulative one
pub record IsNoWider (s : Seen) (far n : ℕ) : Type 0 where
  pub le : far_of s.cum 0 s.held + n ≤ far + length s.held

pub advanced : (c : ℕ) (ts : List ℕ) → c < 2 ^ 32 → rise_beyond c 0 ts ≡ true → IsNoWider (advance_over c ts) (far_of c 0 ts) (length ts)
advanced c [] lt h = record { le = omega arith }
advanced c (t ∷ ts) lt h = by (t == following_tsn c) (advanced t ts s.0.small from-next)
  where
    s : IsStep c 0 t × (rise_beyond c (distance c t) ts ≡ true)
    s = step-of c 0 t ts h

    zero-far : distance c t - distance c t ≡ 0
    zero-far = omega arith

    from-next : rise_beyond t 0 ts ≡ true
    from-next = subst (λ n. rise_beyond t n ts ≡ true) zero-far (rebased c t (distance c t) ts lt s.0.small (omega arith) s.1)

    nearer-by : far_of t 0 ts + distance c t ≡ far_of c (distance c t) ts
    nearer-by =
        subst (λ n. far_of t n ts + distance c t ≡ far_of c (distance c t) ts) zero-far (far-rebased c t (distance c t) ts lt s.0.small (omega arith) s.1)

    by : (b : Bool) → IsNoWider (advance_over t ts) (far_of t 0 ts) (length ts)
        → IsNoWider (if b then advance_over t ts else (let r : Seen = record { cum = c; held = t ∷ ts } in r)) (far_of c (distance c t) ts) (length (t ∷ ts))
    by true ih = let farther = s.0.farther in let le = ih.le in let e = nearer-by in record { le = omega arith }
    by false ih = record { le = omega arith }

-- ## A skip

-- what is left after it
abbrev left : ℕ → List ℕ → List ℕ
left n ts = filter (λ t. not (at_or_before t n)) ts

far-past : (c n far : ℕ) (ts : List ℕ) → c < 2 ^ 32 → n < 2 ^ 32 → distance c n < 2 ^ 31 → rise_beyond c far ts ≡ true
    → far_of n (far - distance c n) (left n ts) + length ts + (far - (far - distance c n)) ≤ far_of c far ts + length (left n ts)
far-past c n far [] hc hn near h = omega arith
far-past c n far (t ∷ ts) hc hn near h =
    let s = step-of c far t ts h in
    let farther = s.0.farther in
    let ih = far-past c n (distance c t) ts hc hn near s.1 in
    elim (cases_lt (distance c n) (distance c t)) [
      | inl later ↦
          let sum : distance c n + distance n t ≡ distance c t = distance_rest c n t hc hn s.0.small (omega (arith, later)) in
          let same : distance c t - distance c n ≡ distance n t = omega arith in
          let next = subst (λ d. far_of n d (left n ts) + length ts + (distance c t - d) ≤ far_of c (distance c t) ts + length (left n ts)) same ih in
          subst (λ b. far_of n (far - distance c n) (if not b then t ∷ left n ts else left n ts) + length (t ∷ ts) + (far - (far - distance c n))
          ≤ far_of c (distance c t) ts + length (if not b then t ∷ left n ts else left n ts)) (sym (behind-it c n t hc hn s.0.small s.0.near later))
          (omega arith)
      | inr before ↦
          let none : distance c t - distance c n ≡ 0 = omega arith in
          let one : far - distance c n ≡ 0 = omega arith in
          let same : distance c t - distance c n ≡ far - distance c n = none ∙ sym one in
          let next = subst (λ d. far_of n d (left n ts) + length ts + (distance c t - d) ≤ far_of c (distance c t) ts + length (left n ts)) same ih in
          subst (λ b. far_of n (far - distance c n) (if not b then t ∷ left n ts else left n ts) + length (t ∷ ts) + (far - (far - distance c n))
          ≤ far_of c (distance c t) ts + length (if not b then t ∷ left n ts else left n ts)) (sym (before-it c n t hc hn s.0.small near before))
          (omega arith)
    ]

-- ## The highest TSN

abbrev last_of : ℕ → List ℕ → ℕ
last_of d [] = d
last_of d (t ∷ ts) = last_of t ts

last-got : (k t : ℕ) (ts : List ℕ) → k ≡ length ts → slice_get (t ∷ ts) k ≡ Some (last_of t ts)
last-got zero t [] e = refl
last-got zero t (u ∷ us) e = absurd (omega (arith, e))
last-got (suc k) t [] e = absurd (omega (arith, e))
last-got (suc k) t (u ∷ us) e = last-got k u us (omega (arith, e))

highest-is : (d : ℕ) (ts : List ℕ) → unwrap_or (slice_get ts (length ts - 1)) d ≡ last_of d ts
highest-is d [] = refl
highest-is d (t ∷ ts) = ap (λ o. unwrap_or o d) (last-got (length (t ∷ ts) - 1) t ts (omega arith))

record IsLast (base m t : ℕ) : Type 0 where
  small : t < 2 ^ 32
  far : distance base t ≡ m

last-far : (base d far : ℕ) (ts : List ℕ) → d < 2 ^ 32 → distance base d ≡ far → rise_beyond base far ts ≡ true
    → IsLast base (far_of base far ts) (last_of d ts)
last-far base d far [] small e h = record { small = small; far = e }
last-far base d far (t ∷ ts) small e h = let s = step-of base far t ts h in last-far base t (distance base t) ts s.0.small refl s.1

-- ## Filters

-- those beyond ascend, and none is next to the cumulative one
pub record IsAscending (f : Filter) : Type 0 where
  pub small : f.cumulative_tsn < 2 ^ 32
  pub rise : rise_beyond f.cumulative_tsn 1 f.beyond ≡ true

-- how far past the cumulative TSN the highest one lies
abbrev pub far_in : Filter → ℕ
far_in f = far_of f.cumulative_tsn 0 f.beyond

from-zero : (f : Filter) → IsAscending f → rise_beyond f.cumulative_tsn 0 f.beyond ≡ true
from-zero f a = nearer f.cumulative_tsn 1 0 f.beyond (omega arith) a.rise

pub few-beyond : (f : Filter) → IsAscending f → length f.beyond ≤ far_in f
few-beyond f a = let e = length-far f.cumulative_tsn 0 f.beyond (from-zero f a) in omega arith

-- what lies farther comes after the highest
pub past-highest : (f : Filter) (t : ℕ) → IsAscending f → t < 2 ^ 32 → distance f.cumulative_tsn t < 2 ^ 31 → far_in f < distance f.cumulative_tsn t
    → comes_before (highest_tsn f) t ≡ true
past-highest f t a small near far =
    let l = last-far f.cumulative_tsn f.cumulative_tsn 0 f.beyond a.small (distance_self f.cumulative_tsn a.small) (from-zero f a) in
    let at = l.far in
    rw (highest-is f.cumulative_tsn f.beyond) (before_farther f.cumulative_tsn (last_of f.cumulative_tsn f.beyond) t a.small l.small small (omega arith) near)

-- a TSN that did not come and is not opposite lies beyond
pub lies-beyond : (f : Filter) (t : ℕ) → IsAscending f → t < 2 ^ 32 → has_come t f ≡ false → is_opposite t f ≡ false → IsStep f.cumulative_tsn 0 t
lies-beyond f t a small fresh near =
    let late = (neither (at_or_before t f.cumulative_tsn) (list_any (λ u. u == t) f.beyond) fresh).0 in
    let d = before_is f.cumulative_tsn t (after f.cumulative_tsn t a.small small near late) in
    record { small = small; farther = d.0; near = d.1 }

-- what a call makes of a filter: so many came more, of which the last lies no farther than this
pub record IsNext (f : Filter) (m : ℕ) (n : ℕ) (new : Filter) : Type 0 where
  pub ascending : IsAscending new
  pub le : far_in new + n ≤ m + length new.beyond

pub next-with : (f : Filter) (t m : ℕ) → IsAscending f → t < 2 ^ 32 → has_come t f ≡ false → is_opposite t f ≡ false → distance f.cumulative_tsn t ≤ m
    → far_in f ≤ m → IsNext f m (length f.beyond + 1) (with_tsn t f)
next-with f t m a small fresh near le far =
    let c = f.cumulative_tsn in
    let ts = insert_before comes_before t f.beyond in
    let gone = (neither (at_or_before t c) (list_any (λ u. u == t) f.beyond) fresh).1 in
    let rise = rise-inserted c 0 t f.beyond a.small (lies-beyond f t a small fresh near) gone (from-zero f a) in
    let to = moved c ts a.small rise in
    let w = (advanced c ts a.small rise).le in
    let more = length-inserted t f.beyond in
    let bound = far-inserted c 0 t m f.beyond le far in
    record { ascending = record { small = to.small; rise = to.rise }; le = omega arith }

pub next-skipped : (f : Filter) (n : ℕ) → IsAscending f → n < 2 ^ 32 → comes_before f.cumulative_tsn n ≡ true
    → IsNext f (far_in f) (length f.beyond) (skipped_to n f)
next-skipped f n a small after' =
    let c = f.cumulative_tsn in
    let d = before_is c n after' in
    let none : 0 - distance c n ≡ 0 = omega arith in
    let one : 1 - distance c n ≡ 0 = omega (arith, d) in
    let rise = subst (λ k. rise_beyond n k (left n f.beyond) ≡ true) one (rise-past c n 1 f.beyond a.small small d.1 a.rise) in
    let m = moved n (left n f.beyond) small rise in
    let w = (advanced n (left n f.beyond) small rise).le in
    let past = subst (λ k. far_of n k (left n f.beyond) + length f.beyond + (0 - k) ≤ far_of c 0 f.beyond + length (left n f.beyond)) none
    (far-past c n 0 f.beyond a.small small d.1 (from-zero f a)) in
    record { ascending = record { small = m.small; rise = m.rise }; le = omega arith }

-- the highest TSN lies within what is reached, after a call as before it
pub reached-with : (f : Filter) (t m : ℕ) → IsAscending f → t < 2 ^ 32 → has_come t f ≡ false → is_opposite t f ≡ false
    → distance f.cumulative_tsn t ≤ m → far_in f ≤ m → far_in (with_tsn t f) ≤ m
reached-with f t m a small fresh near le far =
    let next = (next-with f t m a small fresh near le far).le in
    let short = advance-short f.cumulative_tsn (insert_before comes_before t f.beyond) in
    let more = length-inserted t f.beyond in
    omega (arith, next, short, more)

pub reached-skipped : (f : Filter) (n m : ℕ) → IsAscending f → n < 2 ^ 32 → comes_before f.cumulative_tsn n ≡ true → far_in f ≤ m
    → far_in (skipped_to n f) ≤ m
reached-skipped f n m a small after' far =
    let next = (next-skipped f n a small after').le in
    let short = advance-short n (left n f.beyond) in
    let is = length-filter (λ t. not (at_or_before t n)) f.beyond in
    let few = count_by-le-length (λ t. not (at_or_before t n)) f.beyond in
    omega (arith, next, short, is, few)
