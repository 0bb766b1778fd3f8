use Rattle.std.proofs.Common.{take, sym, ap, ◌∙◌, subst, arith}
use Rattle.std.proofs.lemmas.List.{take_all}
use Rattle.std.proofs.lemmas.List.Elements.{All-more}
use Rattle.sctp_outbound.specs.Stored.{IsNotBefore, NoneBefore}
use Rattle.sctp_outbound.proofs.lemmas.payload_queue.Deadlines.{none_sooner, not_sooner}
use Rattle.sctp_outbound.proofs.payload_queue.held.Held.settle_earliest.Goals as goal

pub loop-place-preserved : goal.loop-place-preserved
loop-place-preserved c =
    let xs = c.args.self.now.chunks in
    let x = c.look.result.now in
    let moment = c.min-earliest.result in
    record {
      deadlines = All-more (IsNotBefore moment) xs c.loop-place.place x (omega (arith, c.loop-place-test.true, c.len-place-end.ensures))
          (none_sooner c.loop-place.earliest moment (take c.loop-place.place xs) (omega (arith, c.min-earliest.ensures)) c.loop-place.invariant.deadlines)
          (subst (IsNotBefore moment) c.look.ensures.value (not_sooner c.deadline_of.result moment x (omega (arith, c.min-earliest.ensures))
          c.deadline_of.ensures));
      turns = omega (arith, c.look.ensures.turn, c.loop-place.invariant.turns);
    }

pub invariant_of-self : goal.invariant_of-self
invariant_of-self c =
    let xs = c.args.self.now.chunks in
    let all = take_all c.loop-place.place xs (omega (arith, c.loop-place-test.false, c.len-place-end.ensures)) in
    let inv = c.self.invariant in
    record {
      fits = inv.fits;
      slab_fits = inv.slab_fits;
      counted = inv.counted;
      held = inv.held;
      deadlines = subst (NoneBefore c.loop-place.earliest) (all ∙ ap (λ s. s.chunks) (sym c.self.view_is)) c.loop-place.invariant.deadlines;
      outstanding = inv.outstanding;
    }
