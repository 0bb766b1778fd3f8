-- A stream sequence number that is not too far past the lowest one: a chunk of it is kept, or a FORWARD-TSN went past its message.
use Rattle.sctp_receiver.proofs.Names.{◌≡◌, ℕ, ◌+◌, ◌-◌, ◌^◌, ◌<◌, ◌≤◌, ◌⊎◌, true, false, Bool, List, [], ◌∷◌, refl, ◌∙◌, inl, inr, arith, not, ◌||◌, nat_lt}
use Rattle.sctp_receiver.proofs.Names.{if◌then◌else◌, cases_lt, nat_tests, ChunkSet, Reassembly, lowest_ssn, is_ssn_too_far}
use Rattle.std.proofs.Common.{mod-eq_of_lt}
use native.Mathlib.Nat.{mod-eq-sub-mod}
use Rattle.sctp_util.specs.Serial.{distance16, comes_before16, at_or_before16}
use Rattle.sctp_receiver.specs.Ssns.{lowest_among, ssn_distance, is_kept_or_passed}

-- a distance, with no remainder in it
distance16_cases : (a b : ℕ) → a < 2 ^ 16 → b < 2 ^ 16 → ((a ≤ b) × (distance16 a b + a ≡ b)) ⊎ ((b < a) × (distance16 a b + a ≡ b + 2 ^ 16))
unfolding distance16
distance16_cases a b ha hb = elim (cases_lt b a) [
  | inl low ↦ inr (low, let e : distance16 a b ≡ b + (2 ^ 16 - a) = mod-eq_of_lt (omega arith) in omega arith)
  | inr high ↦ inl (high, let e : distance16 a b ≡ b + (2 ^ 16 - a) - 2 ^ 16 = mod-eq-sub-mod (omega arith) ∙ mod-eq_of_lt (omega arith) in omega arith)
]

-- the next number is less than half the circle past the lowest one
itself_near : (n : ℕ) → n < 2 ^ 16 → distance16 n n < 2 ^ 15
itself_near n h = elim (distance16_cases n n h h) [ inl p ↦ omega arith | inr p ↦ omega arith ]

next_near : (next : ℕ) (sets : List ChunkSet) → next < 2 ^ 16 → distance16 (lowest_among next sets) next < 2 ^ 15
unfolding at_or_before16
next_near next [] h = itself_near next h
next_near next (set ∷ sets) h = by (at_or_before16 set.ssn next) refl
  where
    by : (b : Bool) → at_or_before16 set.ssn next ≡ b → distance16 (if b then set.ssn else next) next < 2 ^ 15
    by true e = grind (arith, nat_tests, e)
    by false e = itself_near next h

-- what lies before the next number and not too far past the lowest one lies between them
between : (lowest ssn next : ℕ) → lowest < 2 ^ 16 → ssn < 2 ^ 16 → next < 2 ^ 16 → distance16 lowest ssn < 2 ^ 15 → distance16 lowest next < 2 ^ 15
    → comes_before16 ssn next ≡ true → distance16 lowest ssn < distance16 lowest next
unfolding comes_before16
between l s n hl hs hn near next before =
    let some : 0 < distance16 s n = grind (arith, nat_tests, before) in
    let less : distance16 s n < 2 ^ 15 = grind (arith, nat_tests, before) in
    elim (distance16_cases l s hl hs) [
      | inl p ↦ elim (distance16_cases l n hl hn) [
        | inl q ↦ elim (distance16_cases s n hs hn) [ inl r ↦ omega arith | inr r ↦ omega arith ]
        | inr q ↦ elim (distance16_cases s n hs hn) [ inl r ↦ omega arith | inr r ↦ omega arith ]
      ]
      | inr p ↦ elim (distance16_cases l n hl hn) [
        | inl q ↦ elim (distance16_cases s n hs hn) [ inl r ↦ omega arith | inr r ↦ omega arith ]
        | inr q ↦ elim (distance16_cases s n hs hn) [ inl r ↦ omega arith | inr r ↦ omega arith ]
      ]
    ]

pub kept-or-passed : (ssn : ℕ) (q : Reassembly) → ssn < 2 ^ 16 → lowest_ssn q < 2 ^ 16 → q.next_ssn < 2 ^ 16 → is_ssn_too_far ssn q ≡ false
    → is_kept_or_passed ssn q ≡ true
kept-or-passed ssn q hs hl hn near = by (comes_before16 ssn q.next_ssn) refl
  where
    by : (b : Bool) → comes_before16 ssn q.next_ssn ≡ b → (not b || nat_lt (ssn_distance ssn q) (ssn_distance q.next_ssn q)) ≡ true
    by false e = refl
    by true e =
        let close : distance16 (lowest_ssn q) ssn < 2 ^ 15 = grind (arith, nat_tests, near) in
        let lt = between (lowest_ssn q) ssn q.next_ssn hl hs hn close (next_near q.next_ssn q.ordered hn) e in
        grind (arith, nat_tests, lt)
