-- What slots that arrive add to the spans of the streams, and the span test of all of them.
use Rattle.sctp_model.proofs.Names.{◌≡◌, ℕ, suc, ◌+◌, ◌<◌, ◌≤◌, ◌^◌, Bool, true, false, List, [], ◌∷◌, ◌-◌, length, map, refl, ap, sym, ◌∙◌, arith, ◌==◌, ◌||◌}
use Rattle.sctp_model.proofs.Names.{if◌then◌else◌, fold, max, min, nat_lt, slice_index_or, list_any, list_all, filter, subst, nat_tests, same-yes, same-is, and}
use Rattle.sctp_model.proofs.Names.{LinkRecord, message_at, message_of, index_of, is_ordered_on, is_new, next_of, least, greatest, fits, spans_fit}
use Rattle.sctp_model.proofs.Names.{receive_slot, IsSpan, lowest_held, highest_held, or-right}
use Rattle.sctp_model.proofs.sender.Network
use Rattle.sctp_model.proofs.receiver.Arrivals.{new-unseen}
use Rattle.sctp_model.proofs.receiver.ValidRun.{span-fits}
use Rattle.sctp_model.proofs.refinement.arriving.Arrival
use Rattle.sctp_model.proofs.refinement.arriving.Carried.{Carried, noted, by_step}
use Rattle.sctp_model.proofs.refinement.arriving.SlotArrives.{repeated}
use Rattle.sctp_model.proofs.refinement.arriving.SpanEnds.{only-slot, all-streams, fits-span}
use Rattle.sctp_model.proofs.refinement.arriving.Stays.{by_place}
use Rattle.sctp_model.proofs.refinement.reading.Taken.{held}
use Rattle.sctp_model.proofs.receiver.Spans.{greatest-append, least-append}
use Rattle.sctp_model.proofs.refinement.skipping.SkipSpans.{least-start}

-- ## What slots add

-- the indexes that these slots add on stream s
abbrev pub added_on : LinkRecord → ℕ → List ℕ → List ℕ
added_on w s ps = map (index_of w) (filter (is_ordered_on w s) (map (message_of w) (filter (is_new w) ps)))

-- among the messages of the new ones
abbrev pub among : ℕ → List ℕ → Bool
among n ms = list_any (λ m. m == n) ms

pub added-any : (w : LinkRecord) (t n : ℕ) (ms : List ℕ) → is_ordered_on w t n ≡ true → among n ms ≡ true
    → list_any (λ z. z == index_of w n) (map (index_of w) (filter (is_ordered_on w t) ms)) ≡ true
added-any w t n [] on e = cc
added-any w t n (m ∷ ms) on e = grind (arith, nat_tests, added-any w t n ms on)

-- ## After a slot

-- a slot that is new then was new before
pub new-back : (w : LinkRecord) (q p : ℕ) → is_new (receive_slot w q) p ≡ true → is_new w p ≡ true
new-back w q p = grind (arith, nat_tests, by_step, noted, new-unseen, Arrival.arrived-other)

module _ (w : LinkRecord) (q : ℕ) (ms : List ℕ) where
  abbrev v : LinkRecord
  v = receive_slot w q

  same-added : (t : ℕ) → map (index_of v) (filter (is_ordered_on v t) ms) ≡ map (index_of w) (filter (is_ordered_on w t) ms)
  same-added t = inner ms
    where
      inner : (ns : List ℕ) → map (index_of v) (filter (is_ordered_on v t) ns) ≡ map (index_of w) (filter (is_ordered_on w t) ns)
      inner [] = refl
      inner (n ∷ ns) = step (is_ordered_on v t n) (is_ordered_on w t n) ((only-slot w q).on t n) (inner ns)
        where
          step : (a b : Bool) → a ≡ b → map (index_of v) (filter (is_ordered_on v t) ns) ≡ map (index_of w) (filter (is_ordered_on w t) ns)
              → map (index_of v) (if a then n ∷ filter (is_ordered_on v t) ns else filter (is_ordered_on v t) ns) ≡ map (index_of w)
              (if b then n ∷ filter (is_ordered_on w t) ns else filter (is_ordered_on w t) ns)
          step true true e ih = ap (λ i. i ∷ map (index_of v) (filter (is_ordered_on v t) ns)) ((only-slot w q).index n) ∙ ap (λ is. index_of w n ∷ is) ih
          step false false e ih = ih
          step true false e ih = cc
          step false true e ih = cc

  spans-then : among (message_of w q) ms ≡ true → (t : ℕ) → IsSpan w t (map (index_of w) (filter (is_ordered_on w t) ms))
      → IsSpan v t (map (index_of v) (filter (is_ordered_on v t) ms))
  spans-then among' t sp =
      let o = only-slot w q in
      record {
        low = sp.low;
        high = sp.high;
        short = sp.short;
        next = (omega (arith, o.next t, sp.next), omega (arith, o.next t, sp.next));
        held = λ k lt h. by_place {C = (sp.low ≤ index_of v k) × (index_of v k ≤ sp.high)} k (message_of w q)
            (λ ne. let x = sp.held k (omega (arith, lt, o.count)) (o.held t k ne h) in (omega (arith, x, o.index k), omega (arith, x, o.index k)))
            (λ z. let y = sp.others (index_of w k) (added-any w t k ms (sym (o.on t k) ∙ (held v t k h).on) (ap (λ n. among n ms) z ∙ among')) in
            (omega (arith, y, o.index k), omega (arith, y, o.index k)));
        others = λ y e. sp.others y (sym (ap (list_any (λ z. z == y)) (same-added t)) ∙ e);
      }

  -- a slot whose message is among them keeps the test
  fits-then : (is_new w q ≡ true → among (message_of w q) ms ≡ true) → spans_fit w ms ≡ true → spans_fit v ms ≡ true
  fits-then among' e = step (is_new w q) refl
    where
      step : (b : Bool) → is_new w q ≡ b → spans_fit v ms ≡ true
      step false h = ap (λ u. spans_fit u ms) (repeated w q h) ∙ e
      step true h =
          all-streams w q (λ t. fits w (map (index_of w) (filter (is_ordered_on w t) ms)) t) (λ t. fits v (map (index_of v) (filter (is_ordered_on v t) ms)) t)
          (λ t f. fits-span v t (map (index_of v) (filter (is_ordered_on v t) ms))
          (spans-then (among' h) t (span-fits w t (map (index_of w) (filter (is_ordered_on w t) ms)) f))) e

-- so do all of them, one after another
pub fits-all : (w v : LinkRecord) (ps qs ms : List ℕ) → Network.Same w v → ((p : ℕ) → is_new v p ≡ true → is_new w p ≡ true)
    → ((p : ℕ) → list_any (λ q. q == p) qs ≡ true → is_new w p ≡ true → among (message_of w p) ms ≡ true) → spans_fit v ms ≡ true
    → spans_fit (fold receive_slot v qs) ms ≡ true
fits-all w v ps [] ms same back have e = e
fits-all w v ps (q ∷ qs) ms same back have e =
    let s = Network.same-slot v q in
    let of : message_of v q ≡ message_of w q = ap (λ y. (y.slot q).message) same.shape_is in
    fits-all w (receive_slot v q) ps qs ms (record { setup = s.setup ∙ same.setup; network = s.network ∙ same.network; shape_is = s.shape_is ∙ same.shape_is })
    (λ p h. back p (new-back v q p h))
    (λ p h. have p (or-right (q == p) _ h))
    (fits-then v q ms (λ h. ap (λ n. among n ms) of ∙ have q (ap (λ b. b || list_any (λ p. p == q) qs) (same-yes q)) (back q h)) e)

-- a new one's message is among those of the new ones
pub new-among : (w : LinkRecord) (ps : List ℕ) (p : ℕ) → list_any (λ q. q == p) ps ≡ true → is_new w p ≡ true
    → list_any (λ m. m == message_of w p) (map (message_of w) (filter (is_new w) ps)) ≡ true
new-among w [] p h new = cc
new-among w (q ∷ ps) p h new = grind (arith, nat_tests, new-among w ps p)

-- ## The test by slots

pub any-carried : (P : ℕ → Type 0) (ps : List ℕ) → ((i : ℕ) → i < length ps → P (slice_index_or ps i 0)) → (p : ℕ) → list_any (λ q. q == p) ps ≡ true → P p
any-carried P [] h p e = cc
any-carried P (q ∷ ps) h p e = step (q == p) refl e (λ f. any-carried P ps (λ i lt. h (suc i) (omega (arith, lt))) p f)
  where
    step : (b : Bool) → (q == p) ≡ b → (b || list_any (λ q. q == p) ps) ≡ true → (list_any (λ q. q == p) ps ≡ true → P p) → P p
    step true s f ih = subst P (same-is q p s) (h 0 (omega arith))
    step false s f ih = ih f

pub all-each : (f : ℕ → Bool) (ps : List ℕ) → ((p : ℕ) → list_any (λ q. q == p) ps ≡ true → f p ≡ true) → list_all f ps ≡ true
all-each f [] h = refl
all-each f (q ∷ ps) h =
    and (f q) (list_all f ps) (h q (ap (λ b. b || list_any (λ p. p == q) ps) (same-yes q))) (all-each f ps (λ p e. h p (or-right (q == p) _ e)))

pub each-all : (f : ℕ → Bool) (ps : List ℕ) → list_all f ps ≡ true → (p : ℕ) → list_any (λ q. q == p) ps ≡ true → f p ≡ true
each-all f [] h p e = cc
each-all f (q ∷ ps) h p e = grind (arith, nat_tests, each-all f ps)

-- a slot that adds an index on stream t
pub record AddsAt (w : LinkRecord) (t y : ℕ) (ps : List ℕ) : Type 0 where
  pub place : ℕ
  pub there : list_any (λ q. q == place) ps ≡ true
  pub new : is_new w place ≡ true
  pub on : is_ordered_on w t (message_of w place) ≡ true
  pub index : index_of w (message_of w place) ≡ y

pub added-from : (w : LinkRecord) (t y : ℕ) (ps : List ℕ) → list_any (λ z. z == y) (added_on w t ps) ≡ true → AddsAt w t y ps
added-from w t y [] h = cc
added-from w t y (q ∷ ps) h = grind (arith, nat_tests, added-from w t y ps)

-- what lies from a low end on and less than 2^15 past it is near it
ends-near : (low high : ℕ) (ys : List ℕ) → high < low + 2 ^ 15 → ((y : ℕ) → list_any (λ z. z == y) ys ≡ true → (low ≤ y) × (y < low + 2 ^ 15))
    → greatest high ys < least low ys + 2 ^ 15
ends-near low high [] lt all = lt
ends-near low high (y ∷ ys) lt all =
    let here = all y (ap (λ b. b || list_any (λ z. z == y) ys) (same-yes y)) in
    let same : min low y ≡ low = omega (arith, here) in
    subst (λ k. greatest (max high y) ys < least k ys + 2 ^ 15) (sym same)
    (ends-near low (max high y) ys (omega (arith, lt, here)) (λ z h. all z (or-right (y == z) _ h)))

-- the test on a stream, from the ends of what is held, widened by what is added
fits-ends : (w : LinkRecord) (s : ℕ) (more : List ℕ) → nat_lt (greatest (highest_held w s) more - least (lowest_held w s) more) 32768 ≡ fits w more s
fits-ends w s more = grind (arith, nat_tests, greatest-append, least-append)

-- the test with one that lies at or past the index expected next
pub fits-new : (w : LinkRecord) (s y : ℕ) → next_of w s ≤ y → nat_lt (max (highest_held w s) y - lowest_held w s) 32768 ≡ fits w (y ∷ []) s
fits-new w s y le =
    let start = least-start w s in
    let same : lowest_held w s ≡ min (lowest_held w s) y = omega (arith, start, le) in
    ap (λ l. nat_lt (max (highest_held w s) y - l) 32768) same ∙ fits-ends w s (y ∷ [])

-- what passes one by one, and lies at or past the index expected next, passes together
pub fits-each : (w : LinkRecord) (s : ℕ) (more : List ℕ) → fits w [] s ≡ true
    → ((y : ℕ) → list_any (λ z. z == y) more ≡ true → (next_of w s ≤ y) × (fits w (y ∷ []) s ≡ true)) → fits w more s ≡ true
fits-each w s more none each =
    let low = lowest_held w s in
    let high = highest_held w s in
    let near = ends-near low high more (gap high low (fits-ends w s [] ∙ none)) (λ y h. inside y (each y h)) in
    sym (fits-ends w s more) ∙ within (greatest high more) (least low more) near
  where
    gap : (g l : ℕ) → nat_lt (g - l) 32768 ≡ true → g < l + 2 ^ 15
    gap g l e = grind (arith, nat_tests)

    within : (g l : ℕ) → g < l + 2 ^ 15 → nat_lt (g - l) 32768 ≡ true
    within g l lt = grind (arith, nat_tests)

    inside : (y : ℕ) → (next_of w s ≤ y) × (fits w (y ∷ []) s ≡ true) → (lowest_held w s ≤ y) × (y < lowest_held w s + 2 ^ 15)
    inside y f =
        let start = least-start w s in
        let lt = gap (max (highest_held w s) y) (lowest_held w s) (fits-new w s y f.0 ∙ f.1) in
        (omega (arith, start, f.0), omega (arith, lt))

-- a stream's one index among those added
pub only-one : (i y : ℕ) → list_any (λ z. z == y) (i ∷ []) ≡ true → y ≡ i
only-one i y h = grind (arith, nat_tests)

-- an ordered message is one of its stream
pub own-stream : (w : LinkRecord) (p : ℕ) → Carried w p → (message_at w (message_of w p)).ordered ≡ true
    → is_ordered_on w (message_at w (message_of w p)).stream (message_of w p) ≡ true
own-stream w p c kind = grind (arith, nat_tests)
