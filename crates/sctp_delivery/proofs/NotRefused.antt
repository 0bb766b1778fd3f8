-- A chunk in flight is not refused where nothing is to be read on its stream.
use Rattle.sctp_delivery.proofs.Names.{common_steps, ◌≡◌, ℕ, ◌+◌, ◌%◌, ◌^◌, ◌<◌, ◌≤◌, Bool, true, false, not, List, [], ◌∷◌, length, None, inl, inr, refl, ap}
use Rattle.sctp_delivery.proofs.Names.{sym, subst, ◌∙◌, arith, ◌⊎◌, ◌==◌, ◌&&◌, nat_le, list_any, cases_lt, nat_tests, at_or_before, at_or_before16, or-left}
use Rattle.sctp_delivery.proofs.Names.{or-split, and, both, not_both, tsn, at_or_before16-index, ChunkPayloadData, ChunkSet, data_of, has_tsn, is_complete}
use Rattle.sctp_delivery.proofs.Names.{Reassembly, message_read, Reception, lowest_among, Session}
use Rattle.sctp_util.specs.Serial.{distance16}
use Rattle.sctp_delivery.proofs.Cases.{all_streams, by-test}
use Rattle.sctp_delivery.proofs.UnwrappedHolds.{IsCurrent, IsSome, AreDue, Came, Fits, IsOf, at-in}
use Rattle.sctp_delivery.proofs.Every.{Every}
use Rattle.sctp_delivery.proofs.KeptOrGone as kept
use Rattle.sctp_delivery.proofs.MessagePlaces.{misses-in}
use Rattle.sctp_delivery.proofs.OrderedEntries.{begins_on, begun_on, one}
use Rattle.sctp_delivery.proofs.SackSteps.{none_dropped}
use Rattle.sctp_delivery.proofs.Sent.{Entry, Numbered, WasSent, fragment, terminal}
use Rattle.sctp_delivery.proofs.SpreadCalls.{IsSpread}
use Rattle.sctp_delivery.proofs.SpreadEntries.{at-here, at-more, begun_to, is_at, to-all, to-more}
use Rattle.sctp_delivery.proofs.TakenTsns.{come}
use Rattle.sctp_delivery.proofs.TsnPlaces.{at-or-before, base}
use Rattle.sctp_delivery.proofs.UnwrappedReads.{AreSets, IsDue, has_place, later-none}
use Rattle.sctp_delivery.proofs.UnwrappedSessions as sessions

-- ## Entries

-- the place at which a message was begun
pub begin-place : (st k i : ℕ) (sent : List Entry) → i + 1 ≤ begun_to st k sent
    → (z : ℕ) × (z ≤ k) × (is_at st z sent ≡ true) × (begun_to st z sent ≡ i + 1)
begin-place st k i [] le = absurd (omega (arith, le))
begin-place st k i (x ∷ xs) le = elim (cases_lt k (length (x ∷ xs))) [
  | inl lt ↦
      let d = begin-place st k i xs (omega (arith, to-more st k x xs (omega (arith, lt)), le)) in
      deeper d (omega (arith, lt))
  | inr ge ↦
      elim (cases_lt (begun_on st xs) (i + 1)) [
        | inl lt ↦ top x (omega (arith, to-all st k (x ∷ xs) ge, le)) lt ge
        | inr more ↦
            let d = begin-place st (length xs) i xs (omega (arith, to-all st (length xs) xs (omega arith), more)) in
            deeper (d.0, omega (arith, ge), d.2, d.3) (omega arith)
      ]
]
  where
    deeper : (d : (z : ℕ) × (z ≤ k) × (is_at st z xs ≡ true) × (begun_to st z xs ≡ i + 1)) → d.0 ≤ length xs
        → (z : ℕ) × (z ≤ k) × (is_at st z (x ∷ xs) ≡ true) × (begun_to st z (x ∷ xs) ≡ i + 1)
    deeper d most = (d.0, d.1, at-more st d.0 x xs most ∙ d.2, to-more st d.0 x xs most ∙ d.3)

    top : (y : Entry) → i + 1 ≤ begun_on st (y ∷ xs) → begun_on st xs < i + 1 → length (y ∷ xs) ≤ k
        → (z : ℕ) × (z ≤ k) × (is_at st z (y ∷ xs) ≡ true) × (begun_to st z (y ∷ xs) ≡ i + 1)
    top terminal up lt ge = absurd (omega (arith, up, lt))
    top (fragment d w after) up lt ge = by-test (begins_on st d)
        (λ e.
        let c = both (d.stream_identifier == st) (d.beginning_fragment && not d.unordered) e in
        let f = both d.beginning_fragment (not d.unordered) c.1 in
        let all = to-all st (length (fragment d w after ∷ xs)) (fragment d w after ∷ xs) (omega arith) in (
          length (fragment d w after ∷ xs),
          ge,
          at-here st (fragment d w after) xs (length (fragment d w after ∷ xs)) refl ∙ and (d.stream_identifier == st) (not d.unordered) c.0 f.1,
          omega (arith, all, ap one e, up, lt),
        ))
        (λ e. let n = ap one e in absurd (omega (arith, up, lt, n)))

-- ## Sets

front-same : (x : ChunkSet) (xs : List ChunkSet) (y : ChunkSet) (ys : List ChunkSet) → x ∷ xs ≡ y ∷ ys → x ≡ y
front-same x xs y ys e = cc

-- the distance of a number by its index
pub near-distance : (low i : ℕ) → low ≤ i → i < low + 2 ^ 15 → distance16 (low % 2 ^ 16) (i % 2 ^ 16) < 2 ^ 15
unfolding distance16
near-distance low i le lt = omega (arith, le, lt)

module _ (st first n : ℕ) (few : n < 2 ^ 31) (s : Session) (ns : List Numbered) (sent : List Entry) (i : IsSpread first n s ns sent) where
  abbrev p : ℕ
  p = base first

  abbrev B : ℕ → ℕ
  B k = begun_to st k sent

  abbrev E : ℕ → Bool
  E k = is_at st k sent

  abbrev M : ChunkPayloadData → Type 0
  M c = WasSent sent (data_of c)

  abbrev Of : ℕ → ChunkPayloadData → Type 0
  Of = IsOf p st n B E M

  up : (j k : ℕ) → j ≤ k → B j ≤ B k
  up = sessions.grows st first all_streams none_dropped refl n s ns sent i few

  upto : (j m : ℕ) → j ≤ m → m ≤ n → at_or_before (tsn p j) (tsn p m) ≡ true
  upto j m le most = grind (arith, nat_tests, common_steps, at-or-before)

  -- a chunk of an earlier message stands before the place, and not last
  inside : (m j : ℕ) (x : ChunkPayloadData) (o : Of j x) → j + 2 ≤ B m → o.before + 2 ≤ m
  inside m j x o past = grind (arith, nat_tests, common_steps, up)

  -- ## A stream on which nothing is to be read

  module _ (d : AreDue p st n B E M i.step.numbered.acked s.receiving) where
    abbrev r : Reception
    r = s.receiving.receiver

    abbrev Prior : ℕ → Type 0
    Prior = Came p st n B E M r.cumulative_tsn r.beyond

    module _ (held : Reassembly) (due : IsDue p n B (Fits p st n B E M) Prior d.k d.reach held) (L : ℕ → Type 0)
        (c : IsCurrent p n B (B i.step.numbered.acked) (B n) L held) (none : message_read held ≡ None) where
      abbrev Sets : ℕ → List ChunkSet → Type 0
      Sets low ss = AreSets p n B (Fits p st n B E M) Prior low d.reach ss

      abbrev has : ℕ → ChunkSet → Bool
      has z x = has_place p n B (Fits p st n B E M) Prior z x

      pub same-index : c.index ≡ due.index
      same-index = grind (
        arith,
        nat_tests,
        up i.step.numbered.acked d.arrived.place d.arrived.least_is,
        sessions.near st first all_streams none_dropped refl n s ns sent i few,
      )

      not-readable : (x : ChunkSet) (xs : List ChunkSet) → held.ordered ≡ x ∷ xs → is_complete x.chunks ≡ true → at_or_before16 x.ssn held.next_ssn ≡ true → ⊥
      not-readable x xs is whole at = grind (arith, nat_tests, common_steps)

      -- a set of the lowest message is not complete
      pub front-open : (x : ChunkSet) (xs : List ChunkSet) → held.ordered ≡ x ∷ xs → (a : Sets due.low (x ∷ xs)) → a.0 ≡ due.low
          → is_complete x.chunks ≡ true → ⊥
      front-open x xs is a same whole =
          let order : nat_le a.0 due.index ≡ true = grind (arith, nat_tests) in
          let at : at_or_before16 x.ssn held.next_ssn ≡ true = grind (arith, nat_tests, common_steps, at_or_before16-index) in
          not-readable x xs is whole at

      -- the lowest message is the next one
      pub lowest-next : due.low ≡ due.index
      lowest-next = by held.ordered refl
        where
          alike : held.next_ssn ≡ due.low % 2 ^ 16 → due.low ≡ due.index
          alike e = grind (arith, nat_tests)

          by : (ss : List ChunkSet) → held.ordered ≡ ss → due.low ≡ due.index
          by [] is = alike (sym (ap (lowest_among held.next_ssn) is) ∙ due.lowest)
          by (x ∷ xs) is = grind (arith, nat_tests, common_steps)

      -- a place of the lowest message, up to the cumulative TSN, is of the front set
      in-front : (z : ℕ) → z ≤ d.arrived.place → E z ≡ true → B z ≡ due.low + 1
          → (x : ChunkSet) × (xs : List ChunkSet) × (held.ordered ≡ x ∷ xs) × (has z x ≡ true)
      in-front z le on begun = by held.ordered refl (kept (due.kept z (omega (arith, le, w)) (on, come-upto)))
        where
          w : d.arrived.place ≤ n
          w = d.arrived.within

          come-upto : come (tsn p z) r.cumulative_tsn r.beyond ≡ true
          come-upto = or-left (at_or_before (tsn p z) r.cumulative_tsn) (list_any (λ u. u == tsn p z) r.beyond)
              (ap (at_or_before (tsn p z)) d.arrived.is ∙ upto z d.arrived.place le w)

          kept : (B z ≤ due.index) ⊎ (list_any (has z) held.ordered ≡ true) → list_any (has z) held.ordered ≡ true
          kept (inl h) = absurd (omega (arith, h, begun, lowest-next))
          kept (inr h) = h

          by : (ss : List ChunkSet) → held.ordered ≡ ss → list_any (has z) held.ordered ≡ true
              → (x : ChunkSet) × (xs : List ChunkSet) × (held.ordered ≡ x ∷ xs) × (has z x ≡ true)
          by [] is h = absurd (not_both (sym (ap (list_any (has z)) is) ∙ h))
          by (x ∷ xs) is h =
              let a = subst (Sets due.low) is due.sets in
              let from = a.1.0.0 in
              elim (or-split (has z x) (list_any (has z) xs) (sym (ap (list_any (has z)) is) ∙ h)) [
                | inl g ↦ (x, xs, is, g)
                | inr g ↦ absurd (later-none p n B (Fits p st n B E M) Prior (at-in p st n B E M few up) (a.0 + 1) d.reach z xs a.2 (omega (arith, le, w))
                    (omega (arith, begun, from)) g)
              ]

      -- so no message but it was begun up to the cumulative TSN, from it on
      pub begun-low : B d.arrived.place ≤ due.low + 1
      begun-low = elim (cases_lt (due.low + 1) (B d.arrived.place)) [
        | inr ge ↦ ge
        | inl lt ↦ absurd (stuck lt)
      ]
        where
          stuck : due.low + 1 < B d.arrived.place → ⊥
          stuck lt =
              let z = begin-place st d.arrived.place due.low sent (omega (arith, lt)) in
              let f = in-front z.0 z.1 z.2 z.3 in
              let a = subst (Sets due.low) f.2 due.sets in
              let b = at-in p st n B E M few up a.0 z.0 f.0.chunks (omega arith) a.1.1 f.3 in
              let same : a.0 ≡ due.low = omega (arith, b) in
              by f.0 f.1 f.2 a same (is_complete f.0.chunks) refl
            where
              by : (x : ChunkSet) (xs : List ChunkSet) → held.ordered ≡ x ∷ xs → (a : Sets due.low (x ∷ xs)) → a.0 ≡ due.low
                  → (b : Bool) → is_complete x.chunks ≡ b → ⊥
              by x xs is a same true whole = front-open x xs is a same whole
              by x xs is a same false open' =
                  let w = d.arrived.within in
                  let before' : (c : ChunkPayloadData) (o : Of a.0 c) → o.before + 2 ≤ d.arrived.place =
                  λ c o. inside d.arrived.place a.0 c o (omega (arith, same, lt)) in
                  let e = misses-in ns first sent i.holds.held.stands.queued.line i.holds.held.stands.queued.joined n i.long few st a.0 d.arrived.place w
                  (λ c o. let b = before' c o in omega (arith, b)) (λ c o e. let b = before' c o in omega (arith, b)) x.chunks a.1.1
                  (subst (Every IsSome) is c.some).0 open' in
                  let z = sessions.missed st first all_streams none_dropped refl n s ns sent i few d.arrived.place a.0 x.chunks w a.1.1 e in
                  let f = in-front z.0 z.1 z.2 (omega (arith, same)) in
                  let head : f.0 ≡ x = front-same f.0 f.1 x xs (sym f.2 ∙ is) in
                  not_both (sym z.4 ∙ subst (λ (y : ChunkSet). list_any (has_tsn (tsn p z.0)) y.chunks ≡ true) head f.3)
