-- A new TSN that is taken has come.
use Rattle.sctp_receiver.proofs.Names.{◌≡◌, ℕ, ◌-◌, ◌<◌, ◌^◌, Bool, true, false, List, [], ◌∷◌, refl, sym, subst, arith, if◌then◌else◌, ◌==◌, ◌||◌, list_any}
use Rattle.sctp_receiver.proofs.Names.{nat_tests, insert_before, advance_over, Seen, distance, comes_before, same-yes, same-is, distance_self, neither}
use Rattle.sctp_receiver.proofs.Names.{following_tsn, after_one, Filter, has_come, is_opposite, with_tsn, rise_beyond}
use Rattle.sctp_util.specs.Serial.{at_or_before}
use Rattle.sctp_receiver.proofs.TsnLists.{IsStep, step-of, rebased, rise-inserted, stays, moves, beyond}

or-left : (a b : Bool) → a ≡ true → (a || b) ≡ true
or-left a b h = rw (h) refl

or-right : (a b : Bool) → b ≡ true → (a || b) ≡ true
or-right true b h = refl
or-right false b h = h

-- what is put into a list is in it
put-in : (t : ℕ) (ts : List ℕ) → list_any (λ u. u == t) (insert_before comes_before t ts) ≡ true
put-in t [] = or-left (t == t) false (same-yes t)
put-in t (u ∷ us) = by (comes_before t u) (put-in t us)
  where
    by : (b : Bool) → list_any (λ u. u == t) (insert_before comes_before t us) ≡ true
        → list_any (λ u. u == t) (if b then t ∷ u ∷ us else u ∷ insert_before comes_before t us) ≡ true
    by true ih = or-left (t == t) (list_any (λ u. u == t) (u ∷ us)) (same-yes t)
    by false ih = or-right (u == t) (list_any (λ u. u == t) (insert_before comes_before t us)) ih

-- the cumulative TSN moves less than half the circle past a base
moves-near : (base c : ℕ) (ts : List ℕ) → distance base c < 2 ^ 31 → rise_beyond base (distance base c) ts ≡ true
    → distance base (advance_over c ts).cum < 2 ^ 31
moves-near base c [] near h = near
moves-near base c (t ∷ ts) near h = by (t == following_tsn c) (moves-near base t ts s.0.near s.1)
  where
    s : IsStep base (distance base c) t × (rise_beyond base (distance base t) ts ≡ true)
    s = step-of base (distance base c) t ts h

    by : (b : Bool) → distance base (advance_over t ts).cum < 2 ^ 31
        → distance base (if b then advance_over t ts else (let r : Seen = record { cum = c; held = t ∷ ts } in r)).cum < 2 ^ 31
    by true ih = ih
    by false ih = near

before-it : (t c : ℕ) → distance t c < 2 ^ 31 → at_or_before t c ≡ true
unfolding at_or_before
before-it t c near = grind (arith, nat_tests)

-- whether it is among these
abbrev is-seen : ℕ → Seen → Bool
is-seen t s = at_or_before t s.cum || list_any (λ u. u == t) s.held

module _ (c : ℕ) (ts : List ℕ) (hc : c < 2 ^ 32) (rise : rise_beyond c 1 ts ≡ true) where
  abbrev next : ℕ
  next = following_tsn c

  next-small : next < 2 ^ 32
  next-small = omega arith

  -- the one that is expected next
  next-seen : is-seen next (advance_over c (insert_before comes_before next ts)) ≡ true
  next-seen =
      let one = after_one c hc in
      let none : 1 - distance c next ≡ distance next next = omega (arith, one, distance_self next next-small) in
      let from-next : rise_beyond next (distance next next) ts ≡ true =
      subst (λ n. rise_beyond next n ts ≡ true) none (rebased c next 1 ts hc next-small (omega (arith, one)) rise) in
      let near : distance next next < 2 ^ 31 = omega (arith, distance_self next next-small) in
      let end = advance_over next ts in
      subst (λ (s : Seen). is-seen next s ≡ true) (sym (moves c ts hc rise))
      (or-left (at_or_before next end.cum) (list_any (λ u. u == next) end.held) (before-it next end.cum (moves-near next next ts near from-next)))

  -- one beyond that
  beyond-seen : (t : ℕ) → IsStep c 1 t → list_any (λ u. u == t) ts ≡ false → is-seen t (advance_over c (insert_before comes_before t ts)) ≡ true
  beyond-seen t step absent =
      let put = insert_before comes_before t ts in
      subst (λ (s : Seen). is-seen t s ≡ true) (sym (stays c put hc (rise-inserted c 1 t ts hc step absent rise)))
      (or-right (at_or_before t c) (list_any (λ u. u == t) put) (put-in t ts))

pub taken-came : (t : ℕ) (f : Filter) → f.cumulative_tsn < 2 ^ 32 → t < 2 ^ 32 → rise_beyond f.cumulative_tsn 1 f.beyond ≡ true → has_come t f ≡ false
    → is_opposite t f ≡ false → has_come t (with_tsn t f) ≡ true
taken-came t f hc ht rise fresh near = by (t == following_tsn f.cumulative_tsn) refl
  where
    absent : (at_or_before t f.cumulative_tsn ≡ false) × (list_any (λ u. u == t) f.beyond ≡ false)
    absent = neither (at_or_before t f.cumulative_tsn) (list_any (λ u. u == t) f.beyond) fresh

    by : (b : Bool) → (t == following_tsn f.cumulative_tsn) ≡ b
        → is-seen t (advance_over f.cumulative_tsn (insert_before comes_before t f.beyond)) ≡ true
    by true e = subst (λ u. is-seen u (advance_over f.cumulative_tsn (insert_before comes_before u f.beyond)) ≡ true)
        (sym (same-is t (following_tsn f.cumulative_tsn) e)) (next-seen f.cumulative_tsn f.beyond hc rise)
    by false e = beyond-seen f.cumulative_tsn f.beyond hc rise t (beyond f.cumulative_tsn t hc ht absent.0 near e) absent.1
