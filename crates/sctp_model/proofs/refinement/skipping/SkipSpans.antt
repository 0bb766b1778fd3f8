-- The span test of a skip's arrival, from the ends of what a stream holds and of what the skip names.
use Rattle.sctp_model.proofs.Names.{◌≡◌, ℕ, zero, suc, ◌+◌, ◌-◌, ◌<◌, ◌≤◌, ◌^◌, Bool, true, false, List, [], ◌∷◌, length, map, Option, Some, None, refl, ap}
use Rattle.sctp_model.proofs.Names.{sym, ◌∙◌, inl, inr, arith, ◌⊎◌, if◌then◌else◌, ◌==◌, ◌&&◌, min, max, nat_lt, list_any, list_all, eq-or-lt_of_le, cases_lt}
use Rattle.sctp_model.proofs.Names.{nat_tests, numbers_where, front-kept, FrontOf, length-kept-le, not_both, and, same_test, LinkRecord, StreamRecord, Forward}
use Rattle.sctp_model.proofs.Names.{stream_at, stream_of, is_ordered_on, index_of, ssn_of, tsn_of, cumulative, is_complete_message, is_held, held_on, next_of}
use Rattle.sctp_model.proofs.Names.{least, greatest, fits, spans_fit, skip_counts, arrival_fits, IsSpan, Valid, Reassembly, held_after_ordered_skip}
use Rattle.sctp_model.proofs.Names.{held_after_unordered_skip, on_stream, low_named, end_named, lowest_held, highest_held, complete_first, min_with, names_fit}
use Rattle.std.specs.Prelude.{◌%◌}
use Rattle.sctp_model.specs.Changes.{named_by}
use Rattle.sctp_model.proofs.receiver.ValidRun.{span-fits}
use Rattle.sctp_model.specs.refinement.Holds.{reassembly_of}
use Rattle.sctp_model.proofs.refinement.reading.Line
use Rattle.sctp_model.proofs.refinement.reading.Taken.{held, is-held}
use Rattle.sctp_model.proofs.refinement.skipping.SkipStep.{with_skip, named-frame, complete-skip, skipped-none, skipped-once}
use Rattle.sctp_model.proofs.refinement.skipping.Skips.{next_past, next_past-is, named_with, named_with-ge}
use Rattle.sctp_model.proofs.refinement.arriving.SpanEnds.{fits-span, least-all, held-rise}
use Rattle.sctp_model.proofs.receiver.Spans.{greatest-append, least-append}

-- ## Least and greatest

least-min : (f : ℕ → ℕ) (x y : ℕ) (ns : List ℕ) → least (min x y) (map f ns) ≡ min x (least y (map f ns))
least-min f x y [] = refl
least-min f x y (n ∷ ns) = grind (arith, nat_tests, least-min f x (min y (f n)) ns)

greatest-max : (f : ℕ → ℕ) (x y : ℕ) (ns : List ℕ) → greatest (max x y) (map f ns) ≡ max x (greatest y (map f ns))
greatest-max f x y [] = refl
greatest-max f x y (n ∷ ns) = grind (arith, nat_tests, greatest-max f x (max y (f n)) ns)

greatest-next : (f : ℕ → ℕ) (x : ℕ) (ns : List ℕ) → greatest x (map f ns) + 1 ≡ greatest (x + 1) (map (λ n. f n + 1) ns)
greatest-next f x [] = refl
greatest-next f x (n ∷ ns) = grind (arith, nat_tests, greatest-next f (max x (f n)) ns)

-- from a start: the greater of it and of the end
pub named-from : (w : LinkRecord) (c : ℕ) (ns : List ℕ) → named_with w c ns ≡ max c (named_with w 0 ns)
named-from w c ns =
    let same : max c 0 ≡ c = omega arith in
    ap (λ z. named_with w z ns) (sym same) ∙ greatest-max (λ n. index_of w n + 1) c 0 ns

-- each lies between both ends
under-end : (w : LinkRecord) (y : ℕ) (ns : List ℕ) (c : ℕ) → list_any (λ z. z == y) (map (index_of w) ns) ≡ true → y < named_with w c ns
under-end w y [] c e = cc
under-end w y (n ∷ ns) c e = grind (arith, nat_tests, named_with-ge, under-end w y ns)

least-le : (f : ℕ → ℕ) (c : ℕ) (ns : List ℕ) → least c (map f ns) ≤ c
least-le f c [] = omega arith
least-le f c (n ∷ ns) = omega (arith, least-le f (min c (f n)) ns)

over-low : (w : LinkRecord) (y : ℕ) (ns : List ℕ) (c : ℕ) → list_any (λ z. z == y) (map (index_of w) ns) ≡ true → least c (map (index_of w) ns) ≤ y
over-low w y [] c e = cc
over-low w y (n ∷ ns) c e = grind (arith, nat_tests, least-le, over-low w y ns)

-- ## Before the skip

pub fits-before : (w : LinkRecord) (s : ℕ) (names : List ℕ) → lowest_held w s < 2 ^ 64 → fits w (map (index_of w) (on_stream w s names)) s
    ≡ nat_lt (max (highest_held w s) (end_named w s names - 1)) (min (lowest_held w s) (low_named w s names) + 2 ^ 15)
fits-before w s names small =
    let n = next_of w s in
    let xs = map (index_of w) (held_on w s) in
    let mine = on_stream w s names in
    let low = lowest_held w s in
    let high = highest_held w s in
    let capped : min low (2 ^ 64 - 1) ≡ low = omega (arith, small) in
    let l : least low (map (index_of w) mine) ≡ min low (low_named w s names) = ap (λ z. least z (map (index_of w) mine)) (sym capped)
    ∙ least-min (index_of w) low (2 ^ 64 - 1) mine in
    let next = greatest-next (index_of w) high mine ∙ named-from w (high + 1) mine in
    let g : greatest high (map (index_of w) mine) ≡ max high (end_named w s names - 1) = omega (arith, next) in
    cc (greatest-append n xs (map (index_of w) mine), g, least-append n xs (map (index_of w) mine), l)

-- ## What is held, from its ends

least-below : (f : ℕ → ℕ) (p : ℕ → Bool) (from count x k : ℕ) → from ≤ k → k < from + count → p k ≡ true → least x (map f (numbers_where p from count)) ≤ f k
least-below f p from zero x k a b e = absurd (omega arith)
least-below f p from (suc count) x k a b e = grind (arith, nat_tests, least-le, least-below f p (from + 1) count)

greatest-ge : (f : ℕ → ℕ) (c : ℕ) (ns : List ℕ) → c ≤ greatest c (map f ns)
greatest-ge f c [] = omega arith
greatest-ge f c (n ∷ ns) = omega (arith, greatest-ge f (max c (f n)) ns)

greatest-above : (f : ℕ → ℕ) (p : ℕ → Bool) (from count x k : ℕ) → from ≤ k → k < from + count → p k ≡ true
    → f k ≤ greatest x (map f (numbers_where p from count))
greatest-above f p from zero x k a b e = absurd (omega arith)
greatest-above f p from (suc count) x k a b e = grind (arith, nat_tests, greatest-ge, greatest-above f p (from + 1) count)

held-low : (w : LinkRecord) (s k : ℕ) → is_held w s k ≡ true → lowest_held w s ≤ index_of w k
held-low w s k h =
    least-below (index_of w) (is_held w s) 0 (length w.messages) (next_of w s) k (omega arith) (omega (arith, Line.on-made w s k (held w s k h).on)) h

held-high : (w : LinkRecord) (s k : ℕ) → is_held w s k ≡ true → index_of w k ≤ highest_held w s
held-high w s k h =
    greatest-above (index_of w) (is_held w s) 0 (length w.messages) (next_of w s) k (omega arith) (omega (arith, Line.on-made w s k (held w s k h).on)) h

-- a complete one comes after the first one, if that is not complete
abbrev Past : LinkRecord → ℕ → ℕ → Option ℕ → Type 0
Past w s k None = lowest_held w s < index_of w k
Past w s k (Some i) = i ≤ index_of w k

record FirstIs (w : LinkRecord) (s : ℕ) (first : Option ℕ) : Type 0 where
  some : (i : ℕ) → first ≡ Some i → (n : ℕ) × (is_held w s n ≡ true) × (is_complete_message w n ≡ true) × (index_of w n ≡ i)
  past : (k : ℕ) → is_held w s k ≡ true → is_complete_message w k ≡ true → Past w s k first

first-is : (w : LinkRecord) (s : ℕ) → FirstIs w s (complete_first w (held_on w s))
first-is w s = step (held_on w s) (front-kept (is_held w s) 0 (length w.messages))
  where
    step : (l : List ℕ) → FrontOf (is_held w s) 0 (length w.messages) l → FirstIs w s (complete_first w l)
    step [] f = grind (arith, nat_tests, Line.on-made, held)
    step (n ∷ ns) f = by (is_complete_message w n) refl
      where
        front : (k : ℕ) → is_held w s k ≡ true → (n < k) ⊎ (k ≤ n) → n ≤ k
        front k h b = grind (arith, nat_tests)

        rises : (k : ℕ) → is_held w s k ≡ true → (n ≡ k) ⊎ (n < k) → index_of w n ≤ index_of w k
        rises k h (inl z) = let same = ap (index_of w) z in omega (arith, same)
        rises k h (inr l) = omega (arith, held-rise w s n k f.passes h l)

        by : (b : Bool) → is_complete_message w n ≡ b → FirstIs w s (if b then Some (index_of w n) else None)
        by true e = record {
          some = λ i g. (n, f.passes, e, inner g);
          past = λ k h t. rises k h (eq-or-lt_of_le (front k h (cases_lt n k)));
        }
          where
            inner : {a b : ℕ} → Some a ≡ Some b → a ≡ b
            inner g = cc
        by false e = record {
          some = λ i g. cc;
          past = λ k h t. beyond k h t (eq-or-lt_of_le (front k h (cases_lt n k)));
        }
          where
            beyond : (k : ℕ) → is_held w s k ≡ true → is_complete_message w k ≡ true → (n ≡ k) ⊎ (n < k) → lowest_held w s < index_of w k
            beyond k h t (inl z) = absurd (not_both (sym e ∙ ap (is_complete_message w) z ∙ t))
            beyond k h t (inr l) = omega (arith, held-low w s n f.passes, held-rise w s n k f.passes h l)

-- ## After it

-- an index is below the count of messages
end-short : (w : LinkRecord) (s c : ℕ) (names : List ℕ) → c ≤ length w.messages → named_with w c (on_stream w s names) ≤ length w.messages
end-short w s c [] le = le
end-short w s c (n ∷ ns) le = step (is_ordered_on w s n) refl (λ d l. end-short w s d ns l)
  where
    step : (b : Bool) → is_ordered_on w s n ≡ b → ((d : ℕ) → d ≤ length w.messages → named_with w d (on_stream w s ns) ≤ length w.messages)
        → named_with w c (if b then n ∷ on_stream w s ns else on_stream w s ns) ≤ length w.messages
    step b e ih = grind (arith, nat_tests, length-kept-le, Line.on-made)

pub next-short : (w : LinkRecord) (s : ℕ) → Valid w → next_of w s ≤ length w.messages
next-short w s valid = omega (arith, Line.next_le w s (valid.named_made s), length-kept-le (is_ordered_on w s) 0 (length w.messages))

pub least-start : (w : LinkRecord) (s : ℕ) → lowest_held w s ≤ next_of w s
least-start w s = least-le (index_of w) (next_of w s) (held_on w s)

module _ (w : LinkRecord) (s upto : ℕ) (names : List ℕ) (r : StreamRecord) (valid : Valid w) (open' : stream_at w s ≡ Some r) where
  abbrev v : LinkRecord
  v = with_skip w upto names

  abbrev end : ℕ
  end = end_named w s names

  pub named-skip : (stream_of v s).named ≡ max (stream_of w s).named end
  named-skip = named-frame w upto names s r open' ∙ named-from w (stream_of w s).named (on_stream w s names)

  pub next-skip : next_of v s ≡ max (next_of w s) end
  next-skip =
      let named = (stream_of w s).named in
      let past = ap (λ k. next_past w s k) named-skip ∙ next_past-is w s (max named end) valid (omega arith) in
      omega (arith, past)

  -- what is held after it was held, and is complete or past the named ones
  held-then : (k : ℕ) → is_held v s k ≡ true → (is_held w s k ≡ true) × ((is_complete_message w k ≡ true) ⊎ (end ≤ index_of w k))
  held-then k h = grind (arith, nat_tests, held, complete-skip, is-held, named-skip)

  -- a complete one stays
  held-still : (k : ℕ) → is_held w s k ≡ true → is_complete_message w k ≡ true → is_held v s k ≡ true
  held-still k h t = grind (arith, nat_tests, held, is-held, complete-skip)

  module _ (few : length w.messages < 2 ^ 31) where
    abbrev low : ℕ
    low = low_named w s names

    abbrev first : Option ℕ
    first = complete_first w (held_on w s)

    abbrev mine : List ℕ
    mine = map (index_of w) (on_stream w s names)

    -- the test after it tells of the end
    answered : fits v mine s ≡ true → nat_lt end (min_with first low + 2 ^ 15) ≡ true
    answered e = by (complete_first w (held_on w s)) refl
      where
        sp : IsSpan v s mine
        sp = span-fits v s mine e

        top : end ≤ sp.high
        top = omega (arith, next-skip, sp.next)

        below : sp.low ≤ low
        below = grind (arith, nat_tests, end-short, least-all, next-skip, next-short)

        by : (o : Option ℕ) → complete_first w (held_on w s) ≡ o → nat_lt end (min_with o low + 2 ^ 15) ≡ true
        by None f = let lt : end < low + 2 ^ 15 = omega (arith, top, below, sp.short) in grind (arith, nat_tests)
        by (Some i) f =
            let n = (first-is w s).some i f in
            let x = (sp.held n.0 (Line.on-made w s n.0 (held w s n.0 n.1).on) (held-still n.0 n.1 n.2)).0 in
            let lt : end < min low i + 2 ^ 15 = omega (arith, top, below, sp.short, x, n.3) in
            grind (arith, nat_tests)

    -- and the end tells of it, where what is named was near before
    module _ (near : nat_lt (max (highest_held w s) (end - 1)) (min (lowest_held w s) low + 2 ^ 15) ≡ true) where
      near' : max (highest_held w s) (end - 1) < min (lowest_held w s) low + 2 ^ 15
      near' = grind (arith, nat_tests)

      tells : nat_lt end (min_with first low + 2 ^ 15) ≡ true → fits v mine s ≡ true
      tells e = fits-span v s mine (record {
        low = max (highest_held w s) end - (2 ^ 15 - 1);
        high = max (highest_held w s) end;
        short = omega arith;
        next = (omega (arith, next-skip, near', next-low, next-high), omega (arith, next-skip, next-high));
        held = λ k lt h. one k (held-then k h);
        others = λ y h. let a = under-end w y (on_stream w s names) 0 h in let b = over-low w y (on_stream w s names) (2 ^ 64 - 1) h in
            (omega (arith, a, b, near', above), omega (arith, a));
      })
        where
          next-low : lowest_held w s ≤ next_of w s
          next-low = least-le (index_of w) (next_of w s) (held_on w s)

          next-high : next_of w s ≤ highest_held w s
          next-high = greatest-ge (index_of w) (next_of w s) (held_on w s)

          min-below : (o : Option ℕ) (a : ℕ) → min_with o a ≤ a
          min-below None a = omega arith
          min-below (Some i) a = omega arith

          lt : end < min_with first low + 2 ^ 15
          lt = grind (arith, nat_tests)

          above : end < low + 2 ^ 15
          above = omega (arith, lt, min-below first low)

          past : (k : ℕ) (o : Option ℕ) → end < min_with o low + 2 ^ 15 → Past w s k o → end < index_of w k + 2 ^ 15
          past k None l p = omega (arith, near', p)
          past k (Some i) l p = omega (arith, l, p)

          one : (k : ℕ) → (is_held w s k ≡ true) × ((is_complete_message w k ≡ true) ⊎ (end ≤ index_of w k))
              → (max (highest_held w s) end - (2 ^ 15 - 1) ≤ index_of w k) × (index_of w k ≤ max (highest_held w s) end)
          one k (h, inl t) = (omega (arith, near', held-low w s k h, past k first lt ((first-is w s).past k h t)), omega (arith, held-high w s k h))
          one k (h, inr le) = (omega (arith, near', held-low w s k h, le), omega (arith, held-high w s k h))

      pub fits-after : fits v mine s ≡ nat_lt end (min_with first low + 2 ^ 15)
      fits-after = same_test (fits v mine s) (nat_lt end (min_with first low + 2 ^ 15)) answered tells

    -- both tests
    pub fits-both : (fits w mine s && fits v mine s) ≡ names_fit w s names
    fits-both = grind (arith, nat_tests, least-le, fits-before, next-short, fits-after)

-- ## On all streams

all-mapped : (f : StreamRecord → StreamRecord) (t u : ℕ → Bool) (rs : List StreamRecord) → ((r : StreamRecord) → (f r).stream ≡ r.stream)
    → (list_all (λ r. t r.stream) rs && list_all (λ r. u r.stream) (map f rs)) ≡ list_all (λ r. t r.stream && u r.stream) rs
all-mapped f t u [] keeps = refl
all-mapped f t u (r ∷ rs) keeps = grind (arith, nat_tests, all-mapped f t u rs keeps)

-- the test of an arrival that counts
pub skip-fits : (w : LinkRecord) (upto : ℕ) (names : List ℕ) → cumulative w ≤ upto
    → arrival_fits w (Some (Forward upto names)) ≡ list_all (λ r. fits w (map (index_of w) (on_stream w r.stream names)) r.stream
    && fits (with_skip w upto names) (map (index_of w) (on_stream w r.stream names)) r.stream) w.streams
skip-fits w upto names counts =
    let e : skip_counts w upto ≡ true = grind (arith, nat_tests) in
    ap (λ b. spans_fit w (if b then names else []) && spans_fit (if b then with_skip w upto names else w) (if b then names else [])) e
    ∙ all-mapped (named_by w names) (λ t. fits w (map (index_of w) (on_stream w t names)) t)
    (λ t. fits (with_skip w upto names) (map (index_of w) (on_stream w t names)) t) w.streams (λ r. refl)

-- and of one that does not
pub stale-fits : (w : LinkRecord) (upto : ℕ) (names : List ℕ) → skip_counts w upto ≡ false → spans_fit w [] ≡ true
    → arrival_fits w (Some (Forward upto names)) ≡ true
stale-fits w upto names stale fits' = cc (stale, and (spans_fit w []) (spans_fit w []) fits' fits')

-- ## What the queue is after it

-- one of these has the greatest index
pub record IsLast (w : LinkRecord) (s end : ℕ) (names : List ℕ) : Type 0 where
  pub number : ℕ
  pub on : is_ordered_on w s number ≡ true
  pub among : list_any (λ z. z == index_of w number) (map (index_of w) names) ≡ true
  pub is : end ≡ index_of w number + 1

-- either the start is the greatest, or one of them has it
pub last-named : (w : LinkRecord) (s c : ℕ) (names : List ℕ)
    → (named_with w c (on_stream w s names) ≡ c) ⊎ IsLast w s (named_with w c (on_stream w s names)) (on_stream w s names)
last-named w s c [] = inl refl
last-named w s c (n ∷ ns) = step (is_ordered_on w s n) refl (λ d. last-named w s d ns)
  where
    step : (b : Bool) → is_ordered_on w s n ≡ b → ((d : ℕ) → (named_with w d (on_stream w s ns) ≡ d)
        ⊎ IsLast w s (named_with w d (on_stream w s ns)) (on_stream w s ns)) → (named_with w c (if b then n ∷ on_stream w s ns else on_stream w s ns) ≡ c)
        ⊎ IsLast w s (named_with w c (if b then n ∷ on_stream w s ns else on_stream w s ns)) (if b then n ∷ on_stream w s ns else on_stream w s ns)
    step false e ih = ih c
    step true e ih = by (ih (max c (index_of w n + 1)))
      where
        here : named_with w (max c (index_of w n + 1)) (on_stream w s ns) ≡ max c (index_of w n + 1) → (index_of w n < c) ⊎ (c ≤ index_of w n)
            → (named_with w c (n ∷ on_stream w s ns) ≡ c) ⊎ IsLast w s (named_with w c (n ∷ on_stream w s ns)) (n ∷ on_stream w s ns)
        here z b = grind (arith, nat_tests)

        by : (named_with w (max c (index_of w n + 1)) (on_stream w s ns) ≡ max c (index_of w n + 1))
            ⊎ IsLast w s (named_with w (max c (index_of w n + 1)) (on_stream w s ns)) (on_stream w s ns)
            → (named_with w c (n ∷ on_stream w s ns) ≡ c) ⊎ IsLast w s (named_with w c (n ∷ on_stream w s ns)) (n ∷ on_stream w s ns)
        by (inl z) = here z (cases_lt (index_of w n) c)
        by (inr l) = grind (arith, nat_tests)

-- the queue, gone forward to the last one named, where one is
abbrev pub gone_forward : ℕ → Reassembly → Reassembly
gone_forward end q = if end == 0 then q else held_after_ordered_skip ((end - 1) % 2 ^ 16) q

-- that is an ordered skip to the SSN of the last one
pub gone-last : (w : LinkRecord) (s end : ℕ) (names : List ℕ) (q : Reassembly) (last : IsLast w s end names)
    → gone_forward end q ≡ held_after_ordered_skip (ssn_of w last.number) q
gone-last w s end names q last = grind (arith, nat_tests, Line.ssn_on)

-- where the end is 0, none is named
pub none-named : (w : LinkRecord) (ns : List ℕ) → named_with w 0 ns ≡ 0 → ns ≡ []
none-named w [] e = refl
none-named w (n ∷ ns) e = absurd (omega (arith, e, named_with-ge w (max 0 (index_of w n + 1)) ns))

-- with those named before, the last one is still the greatest
pub named-last : (w : LinkRecord) (s : ℕ) (names : List ℕ) (last : IsLast w s (end_named w s names) (on_stream w s names))
    → named_with w (stream_of w s).named (on_stream w s names) ≡ max (stream_of w s).named (index_of w last.number + 1)
named-last w s names last = named-from w (stream_of w s).named (on_stream w s names) ∙ ap (max (stream_of w s).named) last.is

pub queue-skip : (w : LinkRecord) (s upto : ℕ) (names : List ℕ) (r : StreamRecord) → Valid w → upto < length w.slots → cumulative w ≤ upto
    → stream_at w s ≡ Some r → IsSpan w s (map (index_of w) (on_stream w s names)) → IsSpan (with_skip w upto names) s (map (index_of w) (on_stream w s names))
    → reassembly_of (with_skip w upto names) s ≡ held_after_unordered_skip (tsn_of w upto) (gone_forward (end_named w s names) (reassembly_of w s))
queue-skip w s upto names r valid lt counts open' before after' = step (last-named w s 0 names)
  where
    step : (end_named w s names ≡ 0) ⊎ IsLast w s (end_named w s names) (on_stream w s names)
        → reassembly_of (with_skip w upto names) s ≡ held_after_unordered_skip (tsn_of w upto) (gone_forward (end_named w s names) (reassembly_of w s))
    step (inl z) = cc (skipped-none w s upto names r valid lt counts open' before after' (none-named w (on_stream w s names) z), z)
    step (inr last) =
        skipped-once w s upto names r valid lt counts open' before after' last.number last.on last.among (named-last w s names last)
        ∙ ap (held_after_unordered_skip (tsn_of w upto)) (sym (gone-last w s (end_named w s names) (on_stream w s names) (reassembly_of w s) last))
