use Rattle.sctp_receiver.proofs.Names.{◌≡◌, ◌+◌, ◌<◌, ◌≤◌, Some, length, drop, refl, ap, sym, subst, ◌∙◌, arith, rules, slice_get, distance, before_is, AreRuns}
use Rattle.sctp_receiver.proofs.Names.{ℕ, tsns_of, later, inl, inr, cases_lt}
use Rattle.sctp_receiver.proofs.RunMoves.{IsLater, later-is, later-second, begins-behind, over-first, rest-runs, left-runs, fewer-tsns, stands-off}
use Rattle.sctp_receiver.proofs.RunMoves.{seen-from, no-move, moved_to}
use Rattle.sctp_receiver.proofs.TsnRuns.{read-run}
use Rattle.sctp_receiver.proofs.receiver.tsn_filter.runs.pass.Goals as goal

pub loop-runs-init : goal.loop-runs-init
loop-runs-init c =
    let far = before_is c.args.base c.args.tsn c.requires.after in
    record {
      moved = refl;
      runs = c.requires.runs;
      fits = c.ranges.tsn.fits;
      near = far.1;
      len = omega arith;
      capacity = refl;
      not_back = omega arith;
      cost = omega arith;
      start = λ le. refl;
      one = λ le. omega arith;
      over = λ le lt. absurd (none c.args.turns.now lt);
    }
  where
    none : (n : ℕ) → n < n → ⊥
    none n lt = omega (arith, lt)

off : (c : goal.Then-distance) → AreRuns c.args.base (distance c.args.base c.loop-runs.cumulative_tsn) c.loop-runs.runs.items
off c =
    let i = c.loop-runs.invariant in
    let rs = c.loop-runs.runs.items in
    let inside : 0 < length rs = search rules in
    let far = c.if-distance.true in
    stands-off c.args.base c.loop-runs.cumulative_tsn rs c.index-run.result.now c.ranges.base.fits i.fits i.near i.runs
    (read-run rs 0 c.index-run.result.now inside c.index-run.ensures)
    (omega (arith, far, c.distance.ensures.value, c.distance-in-loop-runs.ensures.value))

pub returns-then-distance-clause-moved : goal.returns-then-distance-clause-moved
returns-then-distance-clause-moved c =
    let i = c.loop-runs.invariant in
    i.moved ∙ no-move c.args.base c.loop-runs.cumulative_tsn c.loop-runs.runs.items c.ranges.base.fits i.fits (off c)

pub returns-then-distance-clause-runs : goal.returns-then-distance-clause-runs
returns-then-distance-clause-runs c =
    let i = c.loop-runs.invariant in
    seen-from c.args.base c.loop-runs.cumulative_tsn c.loop-runs.runs.items c.ranges.base.fits i.fits (off c)

pub loop-runs-preserved : goal.loop-runs-preserved
loop-runs-preserved c =
    let i = c.loop-runs.invariant in
    let rs = c.loop-runs.runs.items in
    let base = c.args.base in
    let cum = c.loop-runs.cumulative_tsn in
    let r = c.index-run.result.now in
    let inside : 0 < length rs = search rules in
    let at : slice_get rs 0 ≡ Some r = read-run rs 0 r inside c.index-run.ensures in
    let hb = c.ranges.base.fits in
    let parts = rest-runs base cum rs r hb i.fits i.near i.runs at in
    let next : later base cum r.last ≡ c.later-cumulative_tsn.result = sym c.later-cumulative_tsn.ensures in
    let is : IsLater base cum r.last c.later-cumulative_tsn.result = subst (IsLater base cum r.last) next
    (later-is base cum r.last i.fits parts.0.last_fits i.near parts.0.near) in
    let low = c.if-distance.false in
    let first : distance base r.first ≤ distance base cum + 1 =
    omega (arith, low, c.distance.ensures.value, c.distance-in-loop-runs.ensures.value) in
    let items : c.take_out.new.runs.items ≡ drop 1 rs = c.take_out.ensures.items in
    let few = fewer-tsns base cum rs r hb i.fits i.near i.runs at in
    let was : distance base c.args.tsn ≤ 1 → c.loop-runs.turns ≤ c.args.turns.now = λ le. elim (cases_lt c.args.turns.now c.loop-runs.turns) [
      | inl lt ↦
          let apart = begins-behind base cum rs r hb i.fits i.near i.runs at (distance base cum) (i.over le lt) in
          omega (arith, apart, first)
      | inr ge ↦ ge
    ] in
    let count = ap (λ us. length (tsns_of us)) items in
    let short = ap length items in
    record {
      moved = i.moved ∙ over-first base cum rs r hb i.fits i.near i.runs at first
          ∙ ap (λ u. moved_to u (tsns_of (drop 1 rs))) next ∙ ap (λ us. moved_to c.later-cumulative_tsn.result (tsns_of us)) (sym items);
      runs = subst (AreRuns base 0) (sym items) (left-runs base cum rs r hb i.fits i.near i.runs at);
      fits = is.fits;
      near = is.near;
      len = search rules;
      capacity = c.take_out.ensures.capacity ∙ i.capacity;
      not_back = omega (arith, i.not_back, c.tick.ensures);
      cost = omega (arith, i.cost, few, count, c.tick.ensures);
      start = λ le. omega (arith, le, i.not_back, c.tick.ensures);
      one = λ le. let h = was le in omega (arith, h, c.tick.ensures);
      over = λ le lt.
          let same = ap (distance base) (i.start (was le)) in
          let apart = parts.0.apart in
          let order = parts.0.order in
          let is : c.later-cumulative_tsn.result ≡ r.last = sym next ∙ later-second base cum r.last (omega (arith, le, same, apart, order)) in
          subst (λ us. AreRuns base (distance base c.later-cumulative_tsn.result) us) (sym items)
          (subst (λ u. AreRuns base (distance base u) (drop 1 rs)) (sym is) parts.1);
    }

pub returns-then-distance-clause-next : goal.returns-then-distance-clause-next
returns-then-distance-clause-next c = λ le. let h = c.loop-runs.invariant.one le in omega (arith, h, c.tick.ensures)
