-- TSNs beyond a cumulative one: what is put in, what is skipped, and how the cumulative one moves.
use Rattle.sctp_receiver.proofs.Names.{◌≡◌, ℕ, ◌+◌, ◌-◌, ◌<◌, ◌≤◌, ◌%◌, ◌^◌, Bool, true, false, List, [], ◌∷◌, refl, ap, sym, subst, ◌∙◌, inl, inr, arith}
use Rattle.sctp_receiver.proofs.Names.{if◌then◌else◌, ◌==◌, ◌&&◌, ◌||◌, not, nat_lt, list_any, filter, cases_lt, nat_tests, insert_before, advance_over, Seen}
use Rattle.sctp_receiver.proofs.Names.{comes_before, same-yes, same-is, fails, not_both, both, and, distance_cases, distance_rest, same_distance}
use Rattle.sctp_receiver.proofs.Names.{before_farther, not_before_nearer, rise_beyond, following_tsn, after_one}
use Rattle.sctp_util.specs.Serial.{distance, at_or_before}
use Rattle.sctp_serial.proofs.lemmas.AscendingEdits.{distance_back}

-- ## Distances

-- what a test of one element says
pub record IsStep (base far t : ℕ) : Type 0 where
  pub small : t < 2 ^ 32
  pub farther : far < distance base t
  pub near : distance base t < 2 ^ 31

pub step-of : (base far t : ℕ) (ts : List ℕ) → rise_beyond base far (t ∷ ts) ≡ true → IsStep base far t × (rise_beyond base (distance base t) ts ≡ true)
step-of base far t ts h =
    let p = both (nat_lt t (2 ^ 32) && (nat_lt far (distance base t) && nat_lt (distance base t) (2 ^ 31))) (rise_beyond base (distance base t) ts) h in
    let q = both (nat_lt t (2 ^ 32)) (nat_lt far (distance base t) && nat_lt (distance base t) (2 ^ 31)) p.0 in
    let r = both (nat_lt far (distance base t)) (nat_lt (distance base t) (2 ^ 31)) q.1 in
    (record { small = grind (arith, nat_tests, q.0); farther = grind (arith, nat_tests, r.0); near = grind (arith, nat_tests, r.1) }, p.1)

pub of-step : (base far t : ℕ) (ts : List ℕ) → IsStep base far t → rise_beyond base (distance base t) ts ≡ true → rise_beyond base far (t ∷ ts) ≡ true
of-step base far t ts s h =
    let a : nat_lt t (2 ^ 32) ≡ true = grind (arith, nat_tests, s.small) in
    let b : nat_lt far (distance base t) ≡ true = grind (arith, nat_tests, s.farther) in
    let d : nat_lt (distance base t) (2 ^ 31) ≡ true = grind (arith, nat_tests, s.near) in
    and _ _ (and _ _ a (and _ _ b d)) h

following-small : (c : ℕ) → following_tsn c < 2 ^ 32
following-small c = omega arith

-- ## Bounds, and other bases

pub nearer : (base far less : ℕ) (ts : List ℕ) → less ≤ far → rise_beyond base far ts ≡ true → rise_beyond base less ts ≡ true
nearer base far less [] le h = refl
nearer base far less (t ∷ ts) le h =
    let s = step-of base far t ts h in
    of-step base less t ts (record { small = s.0.small; farther = omega (arith, le, s.0.farther); near = s.0.near }) s.1

-- seen from a base that is not farther than they are
pub rebased : (base b far : ℕ) (ts : List ℕ) → base < 2 ^ 32 → b < 2 ^ 32 → distance base b ≤ far → rise_beyond base far ts ≡ true
    → rise_beyond b (far - distance base b) ts ≡ true
rebased base b far [] hc hb le h = refl
rebased base b far (t ∷ ts) hc hb le h =
    let s = step-of base far t ts h in
    let sum : distance base b + distance b t ≡ distance base t = distance_rest base b t hc hb s.0.small (omega (arith, le, s.0.farther)) in
    let rest = rebased base b (distance base t) ts hc hb (omega (arith, le, s.0.farther)) s.1 in
    let same : distance base t - distance base b ≡ distance b t = omega arith in
    of-step b (far - distance base b) t ts (record { small = s.0.small; farther = omega (arith, le, s.0.farther, sum); near = omega (arith, sum, s.0.near) })
    (subst (λ n. rise_beyond b n ts ≡ true) same rest)

-- ## One more

-- neither it nor one that is farther
absent-head : (x t : ℕ) (ts : List ℕ) → list_any (λ u. u == x) (t ∷ ts) ≡ false → ((t == x) ≡ false) × (list_any (λ u. u == x) ts ≡ false)
absent-head x t ts h = step (t == x) (list_any (λ u. u == x) ts) h
  where
    step : (a b : Bool) → (a || b) ≡ false → (a ≡ false) × (b ≡ false)
    step true b e = cc
    step false b e = (refl, e)

pub rise-inserted : (base far x : ℕ) (ts : List ℕ) → base < 2 ^ 32 → IsStep base far x → list_any (λ u. u == x) ts ≡ false → rise_beyond base far ts ≡ true
    → rise_beyond base far (insert_before comes_before x ts) ≡ true
rise-inserted base far x [] hc sx gone h = of-step base far x [] sx refl
rise-inserted base far x (t ∷ ts) hc sx gone h =
    let s = step-of base far t ts h in
    let apart = absent-head x t ts gone in
    elim (cases_lt (distance base x) (distance base t)) [
      | inl low ↦
          let yes : comes_before x t ≡ true = before_farther base x t hc sx.small s.0.small low s.0.near in
          subst (λ b. rise_beyond base far (if b then x ∷ t ∷ ts else t ∷ insert_before comes_before x ts) ≡ true) (sym yes)
          (of-step base far x (t ∷ ts) sx (of-step base (distance base x) t ts (record { small = s.0.small; farther = low; near = s.0.near }) s.1))
      | inr high ↦
          let nay : comes_before x t ≡ false = not_before_nearer base x t hc sx.small s.0.small high sx.near in
          let ne : distance base t ≡ distance base x
          → ⊥ = λ e. not_both (sym apart.0 ∙ ap (λ u. u == x) (same_distance base t x hc s.0.small sx.small e) ∙ same-yes x) in
          subst (λ b. rise_beyond base far (if b then x ∷ t ∷ ts else t ∷ insert_before comes_before x ts) ≡ true) (sym nay)
          (of-step base far t (insert_before comes_before x ts) s.0
          (rise-inserted base (distance base t) x ts hc (record { small = sx.small; farther = omega (arith, high, ne); near = sx.near }) apart.1 s.1))
    ]

-- ## The cumulative TSN moves

pub stays : (c : ℕ) (ts : List ℕ) → c < 2 ^ 32 → rise_beyond c 1 ts ≡ true → advance_over c ts ≡ record { cum = c; held = ts }
stays c [] lt h = refl
stays c (t ∷ ts) lt h =
    let s = step-of c 1 t ts h in
    let nay : (t == following_tsn c) ≡ false = fails (t == following_tsn c)
    (λ e. omega (arith, s.0.farther, ap (distance c) (same-is t (following_tsn c) e), after_one c lt)) in
    ap (λ b. if b then advance_over t ts else (let r : Seen = record { cum = c; held = t ∷ ts } in r)) nay

pub moves : (c : ℕ) (ts : List ℕ) → c < 2 ^ 32 → rise_beyond c 1 ts ≡ true
    → advance_over c (insert_before comes_before (following_tsn c) ts) ≡ advance_over (following_tsn c) ts
moves c [] lt h = ap (λ b. if b then (let r : Seen = record { cum = following_tsn c; held = [] } in r) else record { cum = c; held = following_tsn c ∷ [] })
    (same-yes (following_tsn c))
moves c (t ∷ ts) lt h =
    let s = step-of c 1 t ts h in
    let one = after_one c lt in
    let yes : comes_before (following_tsn c) t ≡ true =
    before_farther c (following_tsn c) t lt (following-small c) s.0.small (omega (arith, one, s.0.farther)) s.0.near in
    ap (λ b. advance_over c (if b then following_tsn c ∷ t ∷ ts else t ∷ insert_before comes_before (following_tsn c) ts)) yes
    ∙ ap (λ b. if b then advance_over (following_tsn c) (t ∷ ts) else (let r : Seen = record { cum = c; held = following_tsn c ∷ t ∷ ts } in r))
    (same-yes (following_tsn c))

-- what is left lies beyond the new one, and not next to it
pub record IsMoved (s : Seen) : Type 0 where
  pub small : s.cum < 2 ^ 32
  pub rise : rise_beyond s.cum 1 s.held ≡ true

pub moved : (c : ℕ) (ts : List ℕ) → c < 2 ^ 32 → rise_beyond c 0 ts ≡ true → IsMoved (advance_over c ts)
moved c [] lt h = record { small = lt; rise = refl }
moved c (t ∷ ts) lt h =
    let zero-far : distance c t - distance c t ≡ 0 = omega arith in
    by (t == following_tsn c) refl (moved t ts (step-of c 0 t ts h).0.small
    (subst (λ n. rise_beyond t n ts ≡ true) zero-far (rebased c t (distance c t) ts lt (step-of c 0 t ts h).0.small (omega arith) (step-of c 0 t ts h).1)))
  where
    s : IsStep c 0 t × (rise_beyond c (distance c t) ts ≡ true)
    s = step-of c 0 t ts h

    by : (b : Bool) → (t == following_tsn c) ≡ b → IsMoved (advance_over t ts)
        → IsMoved (if b then advance_over t ts else (let r : Seen = record { cum = c; held = t ∷ ts } in r))
    by true e ih = ih
    by false e ih =
        let ne : distance c t ≡ 1 → ⊥ = λ one. not_both (sym e ∙ ap (λ u. u == following_tsn c)
        (same_distance c t (following_tsn c) lt s.0.small (following-small c) (one ∙ sym (after_one c lt))) ∙ same-yes (following_tsn c)) in
        record { small = lt; rise = of-step c 1 t ts (record { small = s.0.small; farther = omega (arith, ne, s.0.farther); near = s.0.near }) s.1 }

-- ## A skip

-- seen from a later base, at or before it is what is not farther
pub before-it : (c n t : ℕ) → c < 2 ^ 32 → n < 2 ^ 32 → t < 2 ^ 32 → distance c n < 2 ^ 31 → distance c t ≤ distance c n → at_or_before t n ≡ true
unfolding at_or_before
before-it c n t hc hn ht near le = let e = distance_rest c t n hc ht hn le in grind (arith, nat_tests)

pub behind-it : (c n t : ℕ) → c < 2 ^ 32 → n < 2 ^ 32 → t < 2 ^ 32 → distance c t < 2 ^ 31 → distance c n < distance c t → at_or_before t n ≡ false
unfolding at_or_before
behind-it c n t hc hn ht near lt = let e = distance_back c t n hc ht hn lt in grind (arith, nat_tests)

pub rise-past : (c n far : ℕ) (ts : List ℕ) → c < 2 ^ 32 → n < 2 ^ 32 → distance c n < 2 ^ 31 → rise_beyond c far ts ≡ true
    → rise_beyond n (far - distance c n) (filter (λ t. not (at_or_before t n)) ts) ≡ true
rise-past c n far [] hc hn near h = refl
rise-past c n far (t ∷ ts) hc hn near h =
    let s = step-of c far t ts h in
    elim (cases_lt (distance c n) (distance c t)) [
      | inl later ↦
          let sum : distance c n + distance n t ≡ distance c t = distance_rest c n t hc hn s.0.small (omega (arith, later)) in
          let same : distance c t - distance c n ≡ distance n t = omega arith in
          subst (λ b. rise_beyond n (far - distance c n) (if not b then t ∷ filter (λ u. not (at_or_before u n)) ts
          else filter (λ u. not (at_or_before u n)) ts) ≡ true) (sym (behind-it c n t hc hn s.0.small s.0.near later))
          (of-step n (far - distance c n) t (filter (λ u. not (at_or_before u n)) ts)
          (record { small = s.0.small; farther = omega (arith, sum, later, s.0.farther); near = omega (arith, sum, s.0.near) })
          (subst (λ d. rise_beyond n d (filter (λ u. not (at_or_before u n)) ts) ≡ true) same (rise-past c n (distance c t) ts hc hn near s.1)))
      | inr before ↦
          subst (λ b. rise_beyond n (far - distance c n) (if not b then t ∷ filter (λ u. not (at_or_before u n)) ts
          else filter (λ u. not (at_or_before u n)) ts) ≡ true) (sym (before-it c n t hc hn s.0.small near before))
          (nearer n (distance c t - distance c n) (far - distance c n) (filter (λ u. not (at_or_before u n)) ts) (omega (arith, s.0.farther))
          (rise-past c n (distance c t) ts hc hn near s.1))
    ]

-- ## The one that is expected next

pub expected-absent : (c : ℕ) (far : ℕ) (ts : List ℕ) → c < 2 ^ 32 → 0 < far → rise_beyond c far ts ≡ true → list_any (λ u. u == following_tsn c) ts ≡ false
expected-absent c far [] lt pos h = refl
expected-absent c far (t ∷ ts) lt pos h =
    let s = step-of c far t ts h in
    let nay : (t == following_tsn c) ≡ false = fails (t == following_tsn c)
    (λ e. omega (arith, pos, s.0.farther, ap (distance c) (same-is t (following_tsn c) e), after_one c lt)) in
    ap (λ b. b || list_any (λ u. u == following_tsn c) ts) nay ∙ expected-absent c (distance c t) ts lt (omega (arith, pos, s.0.farther)) s.1

pub expected-after : (c : ℕ) → c < 2 ^ 32 → at_or_before (following_tsn c) c ≡ false
unfolding at_or_before distance
expected-after c lt = let e : (c + (2 ^ 32 - following_tsn c)) % 2 ^ 32 ≡ 2 ^ 32 - 1 = omega arith in grind (arith, nat_tests)

-- a TSN that did not come and is not opposite lies beyond
pub beyond : (c t : ℕ) → c < 2 ^ 32 → t < 2 ^ 32 → at_or_before t c ≡ false → (distance c t == 2 ^ 31) ≡ false → (t == following_tsn c) ≡ false → IsStep c 1 t
unfolding at_or_before
beyond c t hc ht after near differs =
    let apart : distance c t ≡ 2 ^ 31 → ⊥ = λ e. not_both (sym near ∙ ap (λ d. d == 2 ^ 31) e) in
    let far : 2 ^ 31 ≤ distance t c = grind (arith, nat_tests, after) in
    let ne : distance c t ≡ 1 → ⊥ = λ one. not_both (sym differs ∙ ap (λ u. u == following_tsn c)
    (same_distance c t (following_tsn c) hc ht (following-small c) (one ∙ sym (after_one c hc))) ∙ same-yes (following_tsn c)) in
    elim (distance_cases c t hc ht) [
      | inl p ↦ elim (distance_cases t c ht hc) [
        | inl q ↦ record { small = ht; farther = omega (arith, ne, apart, far); near = omega (arith, ne, apart, far) }
        | inr q ↦ record { small = ht; farther = omega (arith, ne, apart, far); near = omega (arith, ne, apart, far) }
      ]
      | inr p ↦ elim (distance_cases t c ht hc) [
        | inl q ↦ record { small = ht; farther = omega (arith, ne, apart, far); near = omega (arith, ne, apart, far) }
        | inr q ↦ record { small = ht; farther = omega (arith, ne, apart, far); near = omega (arith, ne, apart, far) }
      ]
    ]
