-- The cumulative TSN moves over runs.
use Rattle.sctp_receiver.proofs.Names.{◌≡◌, ℕ, zero, suc, ◌+◌, ◌-◌, ◌<◌, ◌≤◌, ◌^◌, true, false, List, [], ◌∷◌, ◌++◌, length, drop, Some, refl, ap, sym, subst}
use Rattle.sctp_receiver.proofs.Names.{◌∙◌, inl, inr, arith, if◌then◌else◌, ◌==◌, not, nat_lt, slice_get, filter, cases_lt, nat_tests, length-append}
use Rattle.sctp_receiver.proofs.Names.{advance_over, Seen, distance, at_or_before, same-yes, distance_rest, same_distance, following_tsn, Run, rise_beyond}
use Rattle.sctp_receiver.proofs.Names.{tsns_from, tsns_of, IsRun, AreRuns, later}
use Rattle.sctp_receiver.proofs.TsnLists.{step-of, nearer, before-it, behind-it, stays}
use Rattle.sctp_receiver.proofs.TsnRuns.{next-far, run-rises, runs-rise, runs-nearer, span, split-at}

-- those that are not at or before a TSN
abbrev pub past : ℕ → List ℕ → List ℕ
past c ts = filter (λ t. not (at_or_before t c)) ts

-- what they are when it counts as come
abbrev pub moved_to : ℕ → List ℕ → Seen
moved_to c ts = advance_over c (past c ts)

pub all-past : (base c far : ℕ) (ts : List ℕ) → base < 2 ^ 32 → c < 2 ^ 32 → distance base c ≤ far → rise_beyond base far ts ≡ true → past c ts ≡ ts
all-past base c far [] hb hc le h = refl
all-past base c far (t ∷ ts) hb hc le h =
    let s = step-of base far t ts h in
    let more = s.0.farther in
    let after = behind-it base c t hb hc s.0.small s.0.near (omega (arith, more, le)) in
    ap (λ b. if not b then t ∷ past c ts else past c ts) after
    ∙ ap (λ us. t ∷ us) (all-past base c (distance base t) ts hb hc (omega (arith, more, le)) s.1)

-- ## The later one of two

pub later-first : (base a b : ℕ) → distance base b ≤ distance base a → later base a b ≡ a
later-first base a b le =
    let nay : nat_lt (distance base a) (distance base b) ≡ false = grind (arith, nat_tests, le) in
    ap (λ x. if x then b else a) nay

pub later-second : (base a b : ℕ) → distance base a < distance base b → later base a b ≡ b
later-second base a b lt =
    let yea : nat_lt (distance base a) (distance base b) ≡ true = grind (arith, nat_tests, lt) in
    ap (λ x. if x then b else a) yea

pub record IsLater (base a b l : ℕ) : Type 0 where
  pub fits : l < 2 ^ 32
  pub near : distance base l < 2 ^ 31
  pub first : distance base a ≤ distance base l
  pub second : distance base b ≤ distance base l

pub later-is : (base a b : ℕ) → a < 2 ^ 32 → b < 2 ^ 32 → distance base a < 2 ^ 31 → distance base b < 2 ^ 31 → IsLater base a b (later base a b)
later-is base a b ha hb na nb = elim (cases_lt (distance base a) (distance base b)) [
  | inl lt ↦ subst (IsLater base a b) (sym (later-second base a b lt)) (record { fits = hb; near = nb; first = omega (arith, lt); second = omega arith })
  | inr ge ↦ subst (IsLater base a b) (sym (later-first base a b ge)) (record { fits = ha; near = na; first = omega arith; second = ge })
]

later-later : (base a b c : ℕ) → distance base b < distance base c → later base (later base a b) c ≡ later base a c
later-later base a b c lt = elim (cases_lt (distance base a) (distance base b)) [
  | inl low ↦ ap (λ x. later base x c) (later-second base a b low) ∙ later-second base b c lt ∙ sym (later-second base a c (omega (arith, low, lt)))
  | inr high ↦ ap (λ x. later base x c) (later-first base a b high)
]

-- ## Over a TSN, and over a run

over-one : (base c far t : ℕ) (ts : List ℕ) → base < 2 ^ 32 → c < 2 ^ 32 → distance base c < 2 ^ 31 → rise_beyond base far (t ∷ ts) ≡ true
    → distance base t ≤ distance base c + 1 → moved_to c (t ∷ ts) ≡ moved_to (later base c t) ts
over-one base c far t ts hb hc near h le =
    let s = step-of base far t ts h in
    elim (cases_lt (distance base c) (distance base t)) [
      | inl low ↦
          let one = next-far base c hb hc (omega (arith, near)) in
          let is : t ≡ following_tsn c = same_distance base t (following_tsn c) hb s.0.small (omega arith) (omega (arith, one, low, le)) in
          let after = behind-it base c t hb hc s.0.small s.0.near low in
          let rest = all-past base c (distance base t) ts hb hc (omega (arith, low)) s.1 in
          let same = all-past base t (distance base t) ts hb s.0.small (omega arith) s.1 in
          let next : (t == following_tsn c) ≡ true = ap (λ u. u == following_tsn c) is ∙ same-yes (following_tsn c) in
          ap (λ b. advance_over c (if not b then t ∷ past c ts else past c ts)) after
          ∙ ap (λ us. advance_over c (t ∷ us)) rest
          ∙ ap (λ b. if b then advance_over t ts else (let r : Seen = record { cum = c; held = t ∷ ts } in r)) next
          ∙ ap (advance_over t) (sym same)
          ∙ ap (λ u. moved_to u ts) (sym (later-second base c t low))
      | inr high ↦
          let before = before-it base c t hb hc s.0.small near high in
          ap (λ b. advance_over c (if not b then t ∷ past c ts else past c ts)) before
          ∙ ap (λ u. moved_to u ts) (sym (later-first base c t high))
    ]

over-run : (base c t n last : ℕ) (ts : List ℕ) → base < 2 ^ 32 → c < 2 ^ 32 → distance base c < 2 ^ 31 → t < 2 ^ 32 → last < 2 ^ 32 → 0 < distance base t
    → distance base t + n ≡ distance base last → distance base last < 2 ^ 31 → rise_beyond base (distance base last) ts ≡ true
    → distance base t ≤ distance base c + 1 → moved_to c (tsns_from t (suc n) ++ ts) ≡ moved_to (later base c last) ts
over-run base c t zero last ts hb hc near ht hl pos end close h le =
    let is : t ≡ last = same_distance base t last hb ht hl (omega (arith, end)) in
    let same : distance base last ≡ distance base t + 0 = omega (arith, end) in
    over-one base c 0 t ts hb hc near (run-rises base 0 t 0 ts hb ht pos (omega (arith, end, close)) (subst (λ k. rise_beyond base k ts ≡ true) same h)) le
    ∙ ap (λ u. moved_to (later base c u) ts) is
over-run base c t (suc n) last ts hb hc near ht hl pos end close h le =
    let one = next-far base t hb ht (omega (arith, end, close)) in
    let next = following_tsn t in
    let same : distance base last ≡ distance base t + suc n = omega (arith, end) in
    let is = later-is base c t hc ht near (omega (arith, end, close)) in
    let second = is.second in
    over-one base c 0 t (tsns_from next (suc n) ++ ts) hb hc near
    (run-rises base 0 t (suc n) ts hb ht pos (omega (arith, end, close)) (subst (λ k. rise_beyond base k ts ≡ true) same h)) le
    ∙ over-run base (later base c t) next n last ts hb is.fits is.near (omega arith) hl (omega (arith, one)) (omega (arith, one, end)) close h
    (omega (arith, one, second))
    ∙ ap (λ u. moved_to u ts) (later-later base c t last (omega (arith, end)))

-- ## Over the first run

module _ (base c : ℕ) (rs : List Run) (r : Run) (hb : base < 2 ^ 32) (hc : c < 2 ^ 32) (near : distance base c < 2 ^ 31) (are : AreRuns base 0 rs)
    (at : slice_get rs 0 ≡ Some r) where
  pub rest-runs : IsRun base 0 r × AreRuns base (distance base r.last) (drop 1 rs)
  rest-runs = subst (AreRuns base 0) (split-at rs 0 r at) are

  pub over-first : distance base r.first ≤ distance base c + 1 → moved_to c (tsns_of rs) ≡ moved_to (later base c r.last) (tsns_of (drop 1 rs))
  over-first le =
      let sum = span base 0 r hb rest-runs.0 in
      let apart = rest-runs.0.apart in
      ap (λ us. moved_to c (tsns_of us)) (split-at rs 0 r at)
      ∙ over-run base c r.first (distance r.first r.last) r.last (tsns_of (drop 1 rs)) hb hc near rest-runs.0.first_fits rest-runs.0.last_fits
      (omega (arith, apart)) sum rest-runs.0.near (nearer base (distance base r.last + 1) (distance base r.last) (tsns_of (drop 1 rs)) (omega arith)
      (runs-rise base (distance base r.last) (drop 1 rs) hb rest-runs.1)) le

  pub left-runs : AreRuns base 0 (drop 1 rs)
  left-runs = runs-nearer base (distance base r.last) 0 (drop 1 rs) (omega arith) rest-runs.1

  pub fewer-tsns : length (tsns_of (drop 1 rs)) + 1 ≤ length (tsns_of rs)
  fewer-tsns =
      let a = ap (λ us. length (tsns_of us)) (split-at rs 0 r at) in
      let b = length-append (tsns_from r.first (suc (distance r.first r.last))) (tsns_of (drop 1 rs)) in
      omega (arith, a, b)

  -- it begins farther than runs do that stand behind this
  pub begins-behind : (far : ℕ) → AreRuns base far rs → far + 1 < distance base r.first
  begins-behind far behind = (subst (AreRuns base far) (split-at rs 0 r at) behind).0.apart

  -- it begins too far
  pub stands-off : distance base c + 1 < distance base r.first → AreRuns base (distance base c) rs
  stands-off lt = subst (AreRuns base (distance base c)) (sym (split-at rs 0 r at)) (
    record {
      first_fits = rest-runs.0.first_fits;
      last_fits = rest-runs.0.last_fits;
      apart = lt;
      order = rest-runs.0.order;
      near = rest-runs.0.near;
    },
    rest-runs.1,
  )

pub rebased-runs : (base c far : ℕ) (rs : List Run) → base < 2 ^ 32 → c < 2 ^ 32 → distance base c ≤ far → AreRuns base far rs
    → AreRuns c (far - distance base c) rs
rebased-runs base c far [] hb hc le are = tt
rebased-runs base c far (r ∷ rs) hb hc le are =
    let apart = are.0.apart in
    let order = are.0.order in
    let near = are.0.near in
    let first = distance_rest base c r.first hb hc are.0.first_fits (omega (arith, apart, le)) in
    let last = distance_rest base c r.last hb hc are.0.last_fits (omega (arith, apart, le, order)) in
    let same : distance base r.last - distance base c ≡ distance c r.last = omega (arith, last) in (
      record {
        first_fits = are.0.first_fits;
        last_fits = are.0.last_fits;
        apart = omega (arith, apart, first, le);
        order = omega (arith, first, last, order);
        near = omega (arith, last, near);
      },
      subst (λ k. AreRuns c k rs) same (rebased-runs base c (distance base r.last) rs hb hc (omega (arith, apart, le, order)) are.1),
    )

pub seen-from : (base c : ℕ) (rs : List Run) → base < 2 ^ 32 → c < 2 ^ 32 → AreRuns base (distance base c) rs → AreRuns c 0 rs
seen-from base c rs hb hc are =
    let none : distance base c - distance base c ≡ 0 = omega arith in
    subst (λ k. AreRuns c k rs) none (rebased-runs base c (distance base c) rs hb hc (omega arith) are)

pub no-move : (base c : ℕ) (rs : List Run) → base < 2 ^ 32 → c < 2 ^ 32 → AreRuns base (distance base c) rs
    → moved_to c (tsns_of rs) ≡ record { cum = c; held = tsns_of rs }
no-move base c rs hb hc are =
    ap (advance_over c) (all-past base c (distance base c) (tsns_of rs) hb hc (omega arith)
    (nearer base (distance base c + 1) (distance base c) (tsns_of rs) (omega arith) (runs-rise base (distance base c) rs hb are)))
    ∙ stays c (tsns_of rs) hc (runs-rise c 0 rs hc (seen-from base c rs hb hc are))
