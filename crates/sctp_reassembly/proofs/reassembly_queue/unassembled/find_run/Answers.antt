use Rattle.std.proofs.Common.{◌+◌, ◌∙◌, sym, subst, arith}
use Rattle.std.proofs.lemmas.Bool.{false≢true}
use Rattle.sctp_reassembly.proofs.lemmas.reassembly_queue.Scans.{Scanned, scanned_none, scan_found, scan_start, scan_on}
use Rattle.sctp_reassembly.proofs.reassembly_queue.unassembled.find_run.Goals as goal

pub loop-place-init : goal.loop-place-init
loop-place-init c = record { scanned = scanned_none c.args.unassembled.now.chunks; turns = omega arith }

pub overflow_sub-result : goal.overflow_sub-result
overflow_sub-result c =
    let i = c.loop-place.invariant in
    let le = scan_start c.args.unassembled.now.chunks c.loop-place.place c.look-here.result.now c.look-here.ensures.value (omega arith) c.loop-place.start
    c.loop-place.tsn i.scanned c.in-Some.first (sym c.start_at-start.ensures ∙ c.in-Some.is) in
    omega (arith, le)

pub returns-in-Some-clause-found : goal.returns-in-Some-clause-found
returns-in-Some-clause-found c =
    let i = c.loop-place.invariant in
    scan_found c.args.unassembled.now.chunks c.loop-place.place c.look-here.result.now c.look-here.ensures.value (omega arith) c.loop-place.start
    c.loop-place.tsn i.scanned c.in-Some.first c.if-not-here.false (sym c.start_at-start.ensures ∙ c.in-Some.is)

pub loop-place-preserved-then-not-here : goal.loop-place-preserved-then-not-here
loop-place-preserved-then-not-here c =
    let i = c.loop-place.invariant in
    record {
      scanned = subst (λ s. Scanned c.args.unassembled.now.chunks (c.loop-place.place + 1) s c.look-here.result.now.tsn) (sym c.start_at-start.ensures)
          (scan_on c.args.unassembled.now.chunks c.loop-place.place c.look-here.result.now c.look-here.ensures.value (omega arith) c.loop-place.start
          c.loop-place.tsn i.scanned (λ ends. absurd (false≢true (sym c.if-not-here.true ∙ ends))));
      turns = omega (arith, i.turns, c.look-here.ensures.turn);
    }

pub loop-place-preserved : goal.loop-place-preserved
loop-place-preserved c =
    let i = c.loop-place.invariant in
    record {
      scanned = subst (λ s. Scanned c.args.unassembled.now.chunks (c.loop-place.place + 1) s c.look-here.result.now.tsn) (sym c.start_at-start.ensures)
          (scan_on c.args.unassembled.now.chunks c.loop-place.place c.look-here.result.now c.look-here.ensures.value (omega arith) c.loop-place.start
          c.loop-place.tsn i.scanned (λ ends. sym c.start_at-start.ensures ∙ c.in_default.is));
      turns = omega (arith, i.turns, c.look-here.ensures.turn);
    }

pub returns-clause-none : goal.returns-clause-none
returns-clause-none c f n r = absurd (omega (arith, c.loop-place.invariant.scanned.none f n r, r.in_range, c.loop-place.auto.place-end))
