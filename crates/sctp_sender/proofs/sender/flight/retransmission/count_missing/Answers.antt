use Rattle.sctp_sender.proofs.Names.{◌≡◌, ℕ, suc, ◌+◌, ◌<◌, ◌≤◌, ◌%◌, ◌^◌, Bool, true, false, List, ◌++◌, length, take, drop, get_or, Some, inl, inr, refl, ap}
use Rattle.sctp_sender.proofs.Names.{sym, ◌∙◌, arith, if◌then◌else◌, ◌&&◌, ◌==◌, min, not, nat_lt, find, cases_lt, get_or_default, by_last, ChunkPayloadData}
use Rattle.sctp_sender.proofs.Names.{GapAckBlock, is_in_block, change_where, has_tsn, Outbound, with_inflight, can_miss, is_third, missed}
use Rattle.sctp_sender.proofs.Anew.{any-at, in-block, known-acked, none-between}
use Rattle.sctp_sender.specs.Resending.{missed_after}
use Rattle.sctp_sender.proofs.Runs.{any_chunk}
use Rattle.sctp_sender.proofs.KnownPlaces.{end-past}
use Rattle.sctp_sender.proofs.Unmarked.{none-in-front}
use Rattle.sctp_sender.proofs.MarkedRuns.{found-there, old, there, unmarked, marked-as, counted-of, part-same}
use Rattle.sctp_sender.proofs.sender.flight.retransmission.count_missing.Goals as goal

-- what holds of the chunk at a place
at-place : (p : ChunkPayloadData → Bool) (cs : List ChunkPayloadData) (k i : ℕ) (d x : ChunkPayloadData) → k ≡ i → i < length cs → x ≡ get_or cs i x
    → p x ≡ false → p (get_or cs k d) ≡ false
at-place p cs k i d x here lt own fails = ap (λ j. p (get_or cs j d)) here ∙ ap p (get_or_default cs i d x lt ∙ sym own) ∙ fails

-- the first place that counts, after one more
record IsFirst (counts : Bool) (old i new : ℕ) : Type 0 where
  least : (k : ℕ) → k < new → k < old
  none : (k : ℕ) → k < new → k ≡ i → counts ≡ false
  under : new ≤ old

first-is : (counts : Bool) (n old i new : ℕ) → n ≡ (if counts then 1 else 0) → (n ≡ 0 → new ≡ old) → (0 < n → new ≡ min old i) → IsFirst counts old i new
first-is true n old i new is same less =
    let e = less (omega (arith, is)) in
    record {
      least = λ k lt. omega (arith, e, lt);
      none = λ k lt here. absurd (omega (arith, e, lt, here));
      under = omega (arith, e);
    }
first-is false n old i new is same less =
    let e = same is in
    record {
      least = λ k lt. omega (arith, e, lt);
      none = λ k lt here. refl;
      under = omega (arith, e);
    }

at-most-one : (b : Bool) → (if b then 1 else 0) ≤ 1
at-most-one true = omega arith
at-most-one false = omega arith

pub unreachable-requires : goal.unreachable-requires
unreachable-requires c =
    let q = c.args.queue.now in
    let i = c.loop-place.place in
    let ys = c.loop-place.queue.inflight.chunks in
    let lt : i < length q.inflight.chunks = omega (arith, c.loop-place-test.true, c.requires.within) in
    let e = there can_miss missed (λ x. refl) q.inflight.chunks ys c.args.first i c.ranges.first.fits c.requires.run c.requires.few lt
    (ap (λ (o : Outbound). o.inflight.chunks) c.loop-place.invariant.missed) any_chunk in
    let none = c.in_default.ensures in
    cc

pub loop-place-preserved-then-block-place : goal.loop-place-preserved-then-block-place
loop-place-preserved-then-block-place c =
    let bs = c.args.known.now in
    let none : GapAckBlock = record { start = 0; end = 0 } in
    let inv = c.loop-place.invariant in
    let past = end-past bs 0 c.loop-place.next none c.requires.known_ascend c.if-next-known.true in
    record {
      missed = inv.missed;
      thirds = inv.thirds;
      few = inv.few;
      passed = omega (arith, past, c.if-block-place.true);
      not_back = omega (arith, c.tick.ensures, inv.not_back);
      turns = omega (arith, c.tick.ensures, inv.turns);
      within = inv.within;
      before = inv.before;
      least = inv.least;
    }

pub loop-place-preserved-then-block-place-2 : goal.loop-place-preserved-then-block-place-2
loop-place-preserved-then-block-place-2 c =
    let q = c.args.queue.now in
    let cs = q.inflight.chunks in
    let bs = c.args.known.now in
    let i = c.loop-place.next in
    let none : GapAckBlock = record { start = 0; end = 0 } in
    let b = get_or bs i none in
    let inv = c.loop-place.invariant in
    let lt : i < length bs = c.if-next-known.true in
    let end : c.min-place.result ≤ b.end = omega (arith, c.min-place.ensures) in
    let start : b.start ≤ c.loop-place.place + 1 = omega (arith, c.if-block-place-2.true) in
    let more : c.loop-place.place < c.min-place.result = omega (arith, c.min-place.ensures, c.if-block-place.false, c.loop-place-test.true) in
    let le : c.loop-place.place ≤ c.min-place.result = omega (arith, more) in
    let acked : (k : ℕ) (d : ChunkPayloadData) → c.loop-place.place ≤ k → k < c.min-place.result → k < length cs → (get_or cs k d).acked ≡ true =
    λ k d low high in'. known-acked bs cs c.requires.known k d (any-at (is_in_block (suc k)) bs i none lt
    (in-block (suc k) b (omega (arith, start, low)) (omega (arith, high, end)))) in' in
    let stays : (k : ℕ) (d : ChunkPayloadData) → c.loop-place.place ≤ k → k < c.min-place.result → k < length cs → can_miss (get_or cs k d) ≡ false =
    λ k d low high in'. ap (λ a. (not a && not (get_or cs k d).abandoned) && nat_lt (get_or cs k d).miss_indicator 3) (acked k d low high in') in
    let not-third : (k : ℕ) (d : ChunkPayloadData) → c.loop-place.place ≤ k → k < c.min-place.result → k < length cs → is_third (get_or cs k d) ≡ false =
    λ k d low high in'. ap (λ a. a && ((get_or cs k d).miss_indicator == 2 && not (get_or cs k d).retransmit)) (stays k d low high in') in
    record {
      missed = inv.missed ∙ ap (with_inflight q) (sym (part-same can_miss missed cs c.loop-place.place c.min-place.result le stays));
      thirds = inv.thirds ∙ ap length (sym (none-between is_third cs c.loop-place.place c.min-place.result le
          not-third));
      few = omega (arith, inv.few, le);
      passed = omega (arith, inv.passed, le);
      not_back = omega (arith, c.tick.ensures, inv.not_back);
      turns = omega (arith, c.tick.ensures, inv.turns, more);
      within = omega (arith, c.min-place.ensures);
      before = λ k d high front in'. elim (cases_lt k c.loop-place.place) [
        | inl lt ↦ inv.before k d lt front in'
        | inr ge ↦ not-third k d ge high in'
      ];
      least = inv.least;
    }

pub loop-place-preserved-then-not-can_miss : goal.loop-place-preserved-then-not-can_miss
loop-place-preserved-then-not-can_miss c =
    let q = c.args.queue.now in
    let cs = q.inflight.chunks in
    let i = c.loop-place.place in
    let ys = c.loop-place.queue.inflight.chunks in
    let x = c.in-Some.chunk.now in
    let inv = c.loop-place.invariant in
    let lt : i < length cs = omega (arith, c.loop-place-test.true, c.requires.within) in
    let so_far : ys ≡ change_where can_miss missed (take i cs) ++ drop i cs = ap (λ (o : Outbound). o.inflight.chunks) inv.missed in
    let is : find (has_tsn ((c.args.first + i) % 2 ^ 32)) ys ≡ Some x =
    found-there can_miss missed (λ y. refl) cs ys c.args.first i c.ranges.first.fits c.requires.run c.requires.few lt so_far x (sym c.in-Some.ensures) in
    let nay : can_miss x ≡ false = sym c.can_miss.ensures ∙ c.if-not-can_miss.true in
    let third : is_third x ≡ false = ap (λ b. b && (x.miss_indicator == 2 && not x.retransmit)) nay in
    let own = old can_miss missed (λ y. refl) cs ys c.args.first i c.ranges.first.fits c.requires.run c.requires.few lt so_far x is in
    let n = counted-of can_miss missed (λ y. refl) cs ys c.args.first i c.ranges.first.fits c.requires.run c.requires.few lt so_far x is is_third false third in
    record {
      missed = inv.missed ∙ ap (with_inflight q)
          (sym so_far ∙ unmarked can_miss missed (λ y. refl) cs ys c.args.first i c.ranges.first.fits c.requires.run c.requires.few lt so_far x is nay);
      thirds = omega (arith, n, inv.thirds);
      few = omega (arith, inv.few);
      passed = omega (arith, inv.passed);
      not_back = omega (arith, c.tick.ensures, inv.not_back);
      turns = omega (arith, c.tick.ensures, inv.turns);
      within = omega (arith, c.loop-place-test.true);
      before = λ k d high front in'. by_last k i high (λ less. inv.before k d less front in')
          (λ here. at-place is_third cs k i d x here lt own third);
      least = inv.least;
    }

pub loop-place-preserved : goal.loop-place-preserved
loop-place-preserved c =
    let q = c.args.queue.now in
    let cs = q.inflight.chunks in
    let i = c.loop-place.place in
    let ys = c.loop-place.queue.inflight.chunks in
    let x = c.in-Some.chunk.now in
    let inv = c.loop-place.invariant in
    let lt : i < length cs = omega (arith, c.loop-place-test.true, c.requires.within) in
    let so_far : ys ≡ change_where can_miss missed (take i cs) ++ drop i cs = ap (λ (o : Outbound). o.inflight.chunks) inv.missed in
    let is : find (has_tsn ((c.args.first + i) % 2 ^ 32)) ys ≡ Some x =
    found-there can_miss missed (λ y. refl) cs ys c.args.first i c.ranges.first.fits c.requires.run c.requires.few lt so_far x (sym c.in-Some.ensures) in
    let yea : can_miss x ≡ true = sym c.can_miss.ensures ∙ c.if-not-can_miss.false in
    let counts : Bool = x.miss_indicator == 2 && not x.retransmit in
    let third : is_third x ≡ counts = ap (λ b. b && (x.miss_indicator == 2 && not x.retransmit)) yea in
    let own = old can_miss missed (λ y. refl) cs ys c.args.first i c.ranges.first.fits c.requires.run c.requires.few lt so_far x is in
    let first = first-is counts c.note_missing-third.result c.loop-place.first_third i c.earlier-first_third.result c.note_missing-third.ensures.third
    c.earlier-first_third.ensures.none c.earlier-first_third.ensures.some in
    let n = counted-of can_miss missed (λ y. refl) cs ys c.args.first i c.ranges.first.fits c.requires.run c.requires.few lt so_far x is is_third
    counts third in
    record {
      missed =
          c.note_missing-third.ensures.noted ∙ ap (λ (o : Outbound).
          with_inflight o (change_where (has_tsn ((c.args.first + i) % 2 ^ 32)) (missed_after x.miss_indicator) o.inflight.chunks)) inv.missed
          ∙ ap (λ zs. with_inflight q (change_where (has_tsn ((c.args.first + i) % 2 ^ 32)) (missed_after x.miss_indicator) zs)) (sym so_far)
          ∙ ap (with_inflight q) (marked-as can_miss missed
          (λ y. refl) cs ys c.args.first i c.ranges.first.fits c.requires.run c.requires.few lt so_far x is (missed_after x.miss_indicator) refl yea);
      thirds = omega (arith, n, inv.thirds, c.note_missing-third.ensures.third);
      few = omega (arith, inv.few, c.note_missing-third.ensures.third, at-most-one counts);
      passed = omega (arith, inv.passed);
      not_back = omega (arith, c.tick.ensures, inv.not_back);
      turns = omega (arith, c.tick.ensures, inv.turns);
      within = omega (arith, c.loop-place-test.true);
      before = λ k d high front in'. by_last k i high (λ less. inv.before k d less (first.least k front) in')
          (λ here. at-place is_third cs k i d x here lt own (third ∙ first.none k front here));
      least = (let h = first.under in omega (arith, h, inv.least));
    }

pub returns-clause-before : goal.returns-clause-before
returns-clause-before c =
    let inv = c.loop-place.invariant in
    none-in-front is_third c.loop-place.first_third c.args.queue.now.inflight.chunks
    (λ k d front in'. inv.before k d (omega (arith, front, inv.least, c.loop-place-test.false)) front in')
