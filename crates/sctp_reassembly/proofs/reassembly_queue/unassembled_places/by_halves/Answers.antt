use Rattle.std.proofs.Common.{◌-◌, sym, ◌∙◌, subst, arith}
use Rattle.sctp_reassembly.proofs.lemmas.reassembly_queue.SerialPlaces.{Cut, cut_left, cut_right, cut_place}
use Rattle.sctp_serial.proofs.lemmas.Halves.{halved, digits_left, one_more}
use Rattle.sctp_reassembly.proofs.reassembly_queue.unassembled_places.by_halves.Goals as goal

pub loop-low-preserved-then-sna32lt : goal.loop-low-preserved-then-sna32lt
loop-low-preserved-then-sna32lt c =
    let more = one_more c.args.turns.now c.loop-low.turns c.look-here.new.turns c.loop-low.invariant.not_back c.look-here.ensures.turn in
    record {
      cut = cut_left _ c.requires.order c.args.tsn c.ranges.tsn.fits c.requires.first _ _ _ c.loop-low.invariant.cut c.look-here.result.now (omega arith)
          (omega arith) c.look-here.ensures.value (sym c.sna32lt.ensures ∙ c.if-sna32lt.true);
      not_back = omega arith;
      cost_left = rw more (halved _ (c.loop-low.high - c.loop-low.low) _ _ c.loop-low.invariant.cost_left (omega arith));
      cost = rw more (digits_left _ _ _ c.loop-low.invariant.cost_left (omega arith));
    }

pub loop-low-preserved : goal.loop-low-preserved
loop-low-preserved c =
    let more = one_more c.args.turns.now c.loop-low.turns c.look-here.new.turns c.loop-low.invariant.not_back c.look-here.ensures.turn in
    record {
      cut = cut_right _ c.requires.order c.args.tsn c.ranges.tsn.fits c.requires.first _ _ _ c.loop-low.invariant.cut c.look-here.result.now (omega arith)
          (omega arith) c.look-here.ensures.value (sym c.sna32lt.ensures ∙ c.if-sna32lt.false);
      not_back = omega arith;
      cost_left = rw more (halved _ (c.loop-low.high - c.loop-low.low) _ _ c.loop-low.invariant.cost_left (omega arith));
      cost = rw more (digits_left _ _ _ c.loop-low.invariant.cost_left (omega arith));
    }

pub returns-clause-place : goal.returns-clause-place
returns-clause-place c = cut_place _ c.args.tsn c.loop-low.low c.requires.some (subst (λ h. Cut c.args.unassembled.now.chunks c.args.tsn c.loop-low.low h)
    {y = c.loop-low.low} (omega (arith, c.loop-low.invariant.cut.ordered)) c.loop-low.invariant.cut)
