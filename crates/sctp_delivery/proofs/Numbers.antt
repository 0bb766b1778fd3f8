-- The streams of a sender: which are open, what number the next ordered write has, and how long a fragment is.
use Rattle.sctp_delivery.proofs.Names.{common_steps, ◌≡◌, ℕ, ◌<◌, Bool, true, false, List, [], ◌∷◌, ◌++◌, map, Some, refl, ap, sym, subst, ◌∙◌, arith, Contains}
use Rattle.sctp_delivery.proofs.Names.{◌==◌, ◌||◌, if◌then◌else◌, list_any, none-some, nat_tests, change_where, same-is, not_both, Released, AbandonedMessage}
use Rattle.sctp_delivery.proofs.Names.{after_leaving, after_releases, has_number, less_by, with_size, OutboundStream, ◌≤◌, not, is_some, filter, sum_by}
use Rattle.sctp_delivery.proofs.Names.{sum_by-append, sum_by-cons, fails}
use Rattle.std.specs.List.{find}
use Rattle.sctp_stream.specs.Stream.{new_stream}
use Rattle.sctp_stream.specs.Numbers.{swapped_out}
use Rattle.sctp_stream.proofs.Removals.{out-each, out-sum}
use Rattle.sctp_delivery.proofs.Cases.{Where, at-if, at-test, where-is, where-yes}
use Rattle.sctp_delivery.proofs.Sent.{Numbered}
use Rattle.sctp_delivery.proofs.Every.{Every, every-changed, every-contained, every-found, every-joined, every-made, every-of}

-- the number of the next ordered write on a stream; 0 where it is not open
abbrev pub number_of : ℕ → List OutboundStream → ℕ
number_of s [] = 0
number_of s (l ∷ ls) = if l.stream_identifier == s then l.sequence_number else number_of s ls

-- fragments have some bytes on each stream
abbrev pub IsSized : OutboundStream → Type 0
IsSized l = 0 < l.max_payload_size

abbrev pub AreSized : List OutboundStream → Type 0
AreSized ls = Every IsSized ls

abbrev pub is_there : ℕ → List OutboundStream → Bool
is_there s ls = list_any (has_number s) ls

-- each write on one of these streams is on one that is open
abbrev pub AreOpen : (ℕ → Bool) → List OutboundStream → List Numbered → Type 0
AreOpen on ls ws = Every (λ (w : Numbered). Where (on w.stream) (is_there w.stream ls ≡ true)) ws

-- so many streams have the number; and none have the same
abbrev pub count_of : ℕ → List OutboundStream → ℕ
count_of s ls = sum_by (λ (l : OutboundStream). if l.stream_identifier == s then 1 else 0) ls

abbrev pub AreApart : List OutboundStream → Type 0
AreApart ls = (s : ℕ) → count_of s ls ≤ 1

-- a change of streams after which these are as they were
pub record IsSteady (old new : List OutboundStream) : Type 0 where
  pub numbers : (s : ℕ) → number_of s new ≡ number_of s old
  pub there : (s : ℕ) → is_there s old ≡ true → is_there s new ≡ true
  pub sized : AreSized old → AreSized new
  pub apart : AreApart old → AreApart new

pub all-open : (on : ℕ → Bool) (old new : List OutboundStream) → ((s : ℕ) → on s ≡ true → is_there s old ≡ true → is_there s new ≡ true)
    → (ws : List Numbered) → AreOpen on old ws → AreOpen on new ws
all-open on old new more ws o = grind (arith, nat_tests, common_steps, every-of, where-yes, where-is)

pub steady-same : (ls : List OutboundStream) → IsSteady ls ls
steady-same ls = record { numbers = λ s. refl; there = λ s o. o; sized = λ z. z; apart = λ a. a }

pub steady-then : (a b c : List OutboundStream) → IsSteady a b → IsSteady b c → IsSteady a c
steady-then a b c x y = grind (arith, nat_tests, common_steps)

-- ## Changes of some streams

pub there-changed : (p : OutboundStream → Bool) (f : OutboundStream → OutboundStream) → ((l : OutboundStream) → (f l).stream_identifier ≡ l.stream_identifier)
    → (s : ℕ) (ls : List OutboundStream) → is_there s (change_where p f ls) ≡ is_there s ls
there-changed p f same s [] = refl
there-changed p f same s (l ∷ ls) = grind (arith, nat_tests, there-changed p f same s ls)

pub sized-changed : (p : OutboundStream → Bool) (f : OutboundStream → OutboundStream) → ((l : OutboundStream) → (f l).max_payload_size ≡ l.max_payload_size)
    → (ls : List OutboundStream) → AreSized ls → AreSized (change_where p f ls)
sized-changed p f same ls z = every-changed IsSized p f (λ l _ some. subst (λ n. 0 < n) (sym (same l)) some) ls z

pub counts-changed : (p : OutboundStream → Bool) (f : OutboundStream → OutboundStream)
    → ((l : OutboundStream) → (f l).stream_identifier ≡ l.stream_identifier) → (s : ℕ) (ls : List OutboundStream)
    → count_of s (change_where p f ls) ≡ count_of s ls
counts-changed p f same s [] = refl
counts-changed p f same s (l ∷ ls) = grind (arith, nat_tests, common_steps, counts-changed p f same s ls)

pub apart-changed : (p : OutboundStream → Bool) (f : OutboundStream → OutboundStream)
    → ((l : OutboundStream) → (f l).stream_identifier ≡ l.stream_identifier) → (ls : List OutboundStream) → AreApart ls → AreApart (change_where p f ls)
apart-changed p f same ls a s = let e = counts-changed p f same s ls in let k = a s in omega (arith, e, k)

numbers-changed : (p : OutboundStream → Bool) (f : OutboundStream → OutboundStream) → ((l : OutboundStream) → (f l).stream_identifier ≡ l.stream_identifier)
    → ((l : OutboundStream) → (f l).sequence_number ≡ l.sequence_number) → (s : ℕ) (ls : List OutboundStream)
    → number_of s (change_where p f ls) ≡ number_of s ls
numbers-changed p f same number s [] = refl
numbers-changed p f same number s (l ∷ ls) = grind (arith, nat_tests, numbers-changed p f same number s ls)

pub steady-changed : (p : OutboundStream → Bool) (f : OutboundStream → OutboundStream) → ((l : OutboundStream) → (f l).stream_identifier ≡ l.stream_identifier)
    → ((l : OutboundStream) → (f l).sequence_number ≡ l.sequence_number) → ((l : OutboundStream) → (f l).max_payload_size ≡ l.max_payload_size)
    → (ls : List OutboundStream) → IsSteady ls (change_where p f ls)
steady-changed p f same number size ls = grind (arith, nat_tests, common_steps, numbers-changed, there-changed, sized-changed, apart-changed)

pub steady-less : (s bytes : ℕ) (ls : List OutboundStream) → IsSteady ls (change_where (has_number s) (less_by bytes) ls)
steady-less s bytes ls = steady-changed (has_number s) (less_by bytes) (λ l. refl) (λ l. refl) (λ l. refl) ls

pub steady-released : (rs : List Released) (ls : List OutboundStream) → IsSteady ls (after_releases rs ls)
steady-released [] ls = steady-same ls
steady-released (r ∷ rs) ls =
    let next = change_where (has_number r.stream) (less_by r.bytes) ls in
    steady-then ls next (after_releases rs next) (steady-less r.stream r.bytes ls) (steady-released rs next)

pub steady-left : (gs : List AbandonedMessage) (ls : List OutboundStream) → IsSteady ls (after_leaving gs ls)
steady-left [] ls = steady-same ls
steady-left (g ∷ gs) ls =
    let next = change_where (has_number g.stream) (less_by g.bytes) ls in
    steady-then ls next (after_leaving gs next) (steady-less g.stream g.bytes ls) (steady-left gs next)

-- ## Sizes

pub sized-all : (size : ℕ) → 0 < size → (ls : List OutboundStream) → AreSized (map (with_size size) ls)
sized-all size some ls = every-made IsSized (with_size size) (λ l. some) ls

pub numbers-sized : (size s : ℕ) (ls : List OutboundStream) → number_of s (map (with_size size) ls) ≡ number_of s ls
numbers-sized size s [] = refl
numbers-sized size s (l ∷ ls) = ap (λ k. if l.stream_identifier == s then l.sequence_number else k) (numbers-sized size s ls)

pub counts-sized : (size s : ℕ) (ls : List OutboundStream) → count_of s (map (with_size size) ls) ≡ count_of s ls
counts-sized size s [] = refl
counts-sized size s (l ∷ ls) = grind (arith, nat_tests, common_steps, counts-sized size s ls)

pub there-sized : (size s : ℕ) (ls : List OutboundStream) → is_there s (map (with_size size) ls) ≡ is_there s ls
there-sized size s [] = refl
there-sized size s (l ∷ ls) = ap (λ b. (l.stream_identifier == s) || b) (there-sized size s ls)

-- ## A new stream

pub opened : (s size : ℕ) → 0 < size → (ls : List OutboundStream) → is_some (find (has_number s) ls) ≡ false → IsSteady ls (ls ++ new_stream s size ∷ [])
opened s size some ls new = record {
  numbers = λ r. numbers r ls;
  there = λ r. there r ls;
  sized = λ z. every-joined IsSized ls (new_stream s size ∷ []) z (some, tt);
  apart = grind (arith, nat_tests, common_steps, sum_by-append, sum_by-cons, same-is, none-of);
}
  where
    none-of : (s : ℕ) (ls : List OutboundStream) → is_some (find (has_number s) ls) ≡ false → count_of s ls ≡ 0
    none-of s [] e = refl
    none-of s (l ∷ ls) e =
        let one : OutboundStream → ℕ = λ k. if k.stream_identifier == s then 1 else 0 in
        let sum = sum_by-cons one l ls in
        at-test (λ b. (l.stream_identifier == s) ≡ b → is_some (if b then Some l else find (has_number s) ls) ≡ false → count_of s (l ∷ ls) ≡ 0)
        (l.stream_identifier == s)
        (λ _ f k. absurd (not_both (sym k)))
        (λ _ f k. let z : one l ≡ 0 = ap (λ b. if b then 1 else 0) f in omega (arith, sum, z, none-of s ls k)) refl e

    numbers : (r : ℕ) (ls : List OutboundStream) → number_of r (ls ++ new_stream s size ∷ []) ≡ number_of r ls
    numbers r [] = elim (s == r) as (λ b. ◌≡◌ {A = ℕ} (if b then 0 else 0) 0) [ true ↦ refl | false ↦ refl ]
    numbers r (l ∷ ls) = ap (λ k. if l.stream_identifier == r then l.sequence_number else k) (numbers r ls)

    there : (r : ℕ) (ls : List OutboundStream) → is_there r ls ≡ true → is_there r (ls ++ new_stream s size ∷ []) ≡ true
    there r [] o = absurd (not_both o)
    there r (l ∷ ls) o = grind (arith, nat_tests, there r ls)

-- ## One stream

pub number-is : (s : ℕ) (ls : List OutboundStream) (l : OutboundStream) → find (has_number s) ls ≡ Some l → l.stream_identifier ≡ s
number-is s [] l e = absurd (none-some l e)
number-is s (x ∷ xs) l e = grind (arith, nat_tests, number-is s xs l)

pub number-found : (s : ℕ) (ls : List OutboundStream) (l : OutboundStream) → find (has_number s) ls ≡ Some l → number_of s ls ≡ l.sequence_number
number-found s [] l e = absurd (none-some l e)
number-found s (x ∷ xs) l e = grind (arith, nat_tests, number-found s xs l)

pub size-found : (s : ℕ) (ls : List OutboundStream) (l : OutboundStream) → find (has_number s) ls ≡ Some l → AreSized ls → 0 < l.max_payload_size
size-found s ls l e z = every-found IsSized (has_number s) ls l e z

pub there-found : (s : ℕ) (ls : List OutboundStream) (l : OutboundStream) → find (has_number s) ls ≡ Some l → is_there s ls ≡ true
there-found s [] l e = absurd (none-some l e)
there-found s (x ∷ xs) l e = grind (arith, nat_tests, there-found s xs l)

pub found-there : (s : ℕ) (ls : List OutboundStream) → is_there s ls ≡ true → (l : OutboundStream) × (find (has_number s) ls ≡ Some l)
found-there s [] o = absurd (not_both o)
found-there s (x ∷ xs) o = by (x.stream_identifier == s) o (found-there s xs)
  where
    by : (b : Bool) → (b || is_there s xs) ≡ true → (is_there s xs ≡ true → (l : OutboundStream) × (find (has_number s) xs ≡ Some l))
        → (l : OutboundStream) × ((if b then Some x else find (has_number s) xs) ≡ Some l)
    by true o ih = (x, refl)
    by false o ih = ih o

-- after a change of it
pub number-changed : (s : ℕ) (f : OutboundStream → OutboundStream) → ((l : OutboundStream) → (f l).stream_identifier ≡ l.stream_identifier)
    → (ls : List OutboundStream) (l : OutboundStream) → find (has_number s) ls ≡ Some l → number_of s (change_where (has_number s) f ls) ≡ (f l).sequence_number
number-changed s f same [] l e = absurd (none-some l e)
number-changed s f same (x ∷ xs) l e = grind (arith, nat_tests, number-changed s f same xs l)

-- and of another one
pub number-elsewhere : (r s : ℕ) → (r ≡ s → ⊥) → (f : OutboundStream → OutboundStream) → ((l : OutboundStream) → (f l).stream_identifier ≡ l.stream_identifier)
    → (ls : List OutboundStream) → number_of r (change_where (has_number s) f ls) ≡ number_of r ls
number-elsewhere r s differ f same [] = refl
number-elsewhere r s differ f same (x ∷ xs) = grind (arith, nat_tests, number-elsewhere r s differ f same xs)

-- ## A write among the writes

pub open-of : (on : ℕ → Bool) (ls : List OutboundStream) (ws : List Numbered) (w : Numbered) → Contains ws w → AreOpen on ls ws
    → Where (on w.stream) (is_there w.stream ls ≡ true)
open-of on ls ws w c o = every-contained (λ v. Where (on v.stream) (is_there v.stream ls ≡ true)) ws w c o

-- ## A stream is closed

-- the number is the sum over the streams that have it
number-sum : (s : ℕ) (ls : List OutboundStream) → count_of s ls ≤ 1
    → number_of s ls ≡ sum_by (λ (l : OutboundStream). if l.stream_identifier == s then l.sequence_number else 0) ls
number-sum s [] le = refl
number-sum s (l ∷ ls) le =
    let one : OutboundStream → ℕ = λ k. if k.stream_identifier == s then 1 else 0 in
    let its : OutboundStream → ℕ = λ k. if k.stream_identifier == s then k.sequence_number else 0 in
    let count = sum_by-cons one l ls in
    let sum = sum_by-cons its l ls in
    at-test (λ b. (l.stream_identifier == s) ≡ b → (if b then l.sequence_number else number_of s ls) ≡ sum_by its (l ∷ ls)) (l.stream_identifier == s)
    (λ _ e.
    let here : one l ≡ 1 = ap (λ b. if b then 1 else 0) e in
    let this : its l ≡ l.sequence_number = ap (λ b. if b then l.sequence_number else 0) e in
    let none = no-sum s ls (omega (arith, count, here, le)) in
    omega (arith, sum, this, none))
    (λ _ e.
    let here : one l ≡ 0 = ap (λ b. if b then 1 else 0) e in
    let this : its l ≡ 0 = ap (λ b. if b then l.sequence_number else 0) e in
    omega (arith, sum, this, number-sum s ls (omega (arith, count, here, le)))) refl
  where
    no-sum : (s : ℕ) (ls : List OutboundStream) → count_of s ls ≤ 0
        → sum_by (λ (l : OutboundStream). if l.stream_identifier == s then l.sequence_number else 0) ls ≡ 0
    no-sum s [] le = refl
    no-sum s (l ∷ ls) le =
        let one : OutboundStream → ℕ = λ k. if k.stream_identifier == s then 1 else 0 in
        let its : OutboundStream → ℕ = λ k. if k.stream_identifier == s then k.sequence_number else 0 in
        let count = sum_by-cons one l ls in
        let sum = sum_by-cons its l ls in
        at-test (λ b. (l.stream_identifier == s) ≡ b → sum_by its (l ∷ ls) ≡ 0) (l.stream_identifier == s)
        (λ _ e. let here : one l ≡ 1 = ap (λ b. if b then 1 else 0) e in absurd (omega (arith, count, here, le)))
        (λ _ e. let this : its l ≡ 0 = ap (λ b. if b then l.sequence_number else 0) e in omega (arith, sum, this, no-sum s ls (omega (arith, count, le)))) refl

-- what counts nothing of the streams that are closed sums up as before
left-sum : (s : ℕ) (f : OutboundStream → ℕ) → ((l : OutboundStream) → has_number s l ≡ true → f l ≡ 0) → (ls : List OutboundStream)
    → sum_by f (filter (λ l. not (has_number s l)) ls) ≡ sum_by f ls
left-sum s f none [] = refl
left-sum s f none (l ∷ ls) = grind (arith, nat_tests, common_steps, left-sum s f none ls)

module _ (s : ℕ) (ls : List OutboundStream) where
  abbrev closed : List OutboundStream
  closed = swapped_out (has_number s) ls

  sum-closed : (f : OutboundStream → ℕ) → ((l : OutboundStream) → has_number s l ≡ true → f l ≡ 0) → sum_by f (swapped_out (has_number s) ls) ≡ sum_by f ls
  sum-closed f none = out-sum (has_number s) f ls ∙ left-sum s f none ls

  -- a stream that is not closed has what it had
  other-number : (r : ℕ) → (r ≡ s → ⊥) → (l : OutboundStream) → has_number s l ≡ true → (l.stream_identifier == r) ≡ false
  other-number r differ l e = fails (l.stream_identifier == r) (λ k. differ (sym (same-is l.stream_identifier r k) ∙ same-is l.stream_identifier s e))

  pub counts-closed : (r : ℕ) → (r ≡ s → ⊥) → count_of r (swapped_out (has_number s) ls) ≡ count_of r ls
  counts-closed r differ =
      sum-closed (λ (l : OutboundStream). if l.stream_identifier == r then 1 else 0) (λ l e. ap (λ b. if b then 1 else 0) (other-number r differ l e))

  pub apart-closed : AreApart ls → AreApart (swapped_out (has_number s) ls)
  apart-closed a r =
      let one : OutboundStream → ℕ = λ k. if k.stream_identifier == r then 1 else 0 in
      let e = out-sum (has_number s) one ls in
      let le = less one ls in
      let k = a r in
      omega (arith, e, le, k)
    where
      less : (f : OutboundStream → ℕ) (ks : List OutboundStream) → sum_by f (filter (λ l. not (has_number s l)) ks) ≤ sum_by f ks
      less f [] = omega arith
      less f (l ∷ ks) =
          let all = sum_by-cons f l ks in
          let rest = sum_by-cons f l (filter (λ k. not (has_number s k)) ks) in
          at-if (λ z. sum_by f z ≤ sum_by f (l ∷ ks)) (not (has_number s l)) (λ e. omega (arith, all, rest, less f ks)) (λ e. omega (arith, all, less f ks))

  pub numbers-closed : (r : ℕ) → (r ≡ s → ⊥) → AreApart ls → number_of r (swapped_out (has_number s) ls) ≡ number_of r ls
  numbers-closed r differ a = grind (arith, nat_tests, common_steps, number-sum, apart-closed, sum-closed, other-number)

  pub there-closed : (r : ℕ) → (r ≡ s → ⊥) → is_there r ls ≡ true → is_there r (swapped_out (has_number s) ls) ≡ true
  there-closed r differ o =
      let e = counts-closed r differ in
      let some = some-there r ls o in
      there-some r closed (omega (arith, e, some))
    where
      some-there : (r : ℕ) (ks : List OutboundStream) → is_there r ks ≡ true → 0 < count_of r ks
      some-there r [] k = absurd (not_both k)
      some-there r (l ∷ ks) k =
          let one : OutboundStream → ℕ = λ x. if x.stream_identifier == r then 1 else 0 in
          let sum = sum_by-cons one l ks in
          at-test (λ b. (l.stream_identifier == r) ≡ b → (b || is_there r ks) ≡ true → 0 < count_of r (l ∷ ks)) (l.stream_identifier == r)
          (λ _ f x. let it : one l ≡ 1 = ap (λ b. if b then 1 else 0) f in omega (arith, sum, it))
          (λ _ f x. omega (arith, sum, some-there r ks x)) refl k

      there-some : (r : ℕ) (ks : List OutboundStream) → 0 < count_of r ks → is_there r ks ≡ true
      there-some r [] lt = absurd (omega (arith, lt))
      there-some r (l ∷ ks) lt =
          let one : OutboundStream → ℕ = λ x. if x.stream_identifier == r then 1 else 0 in
          let sum = sum_by-cons one l ks in
          at-test (λ b. (l.stream_identifier == r) ≡ b → (b || is_there r ks) ≡ true) (l.stream_identifier == r)
          (λ _ f. refl)
          (λ _ f. there-some r ks (let it : one l ≡ 0 = ap (λ b. if b then 1 else 0) f in omega (arith, sum, it, lt))) refl

  pub sized-closed : AreSized ls → AreSized (swapped_out (has_number s) ls)
  sized-closed z = grind (arith, nat_tests, common_steps, out-each)
