use Rattle.sctp_sender.proofs.Names.{◌+◌, List, drop, ap, sym, ◌∙◌, arith, drop_all, OutboundStream, TakenBack, after_returns}
use Rattle.std.proofs.lemmas.List.{at_drop_more}
use Rattle.sctp_sender.proofs.sender.kept.return_each.Goals as goal

-- any chunk, where a look-up asks for one to fall back on
abbrev any_one : TakenBack
any_one = record { tsn = 0; stream = 0; bytes = 0; message = 0 }

pub loop-one-preserved : goal.loop-one-preserved
loop-one-preserved c =
    let rs = c.args.answered.now in
    let i = c.loop-one.one-index in
    let inv = c.loop-one.invariant in
    record {
      value = inv.value ∙ at_drop_more (λ ts. after_returns ts c.loop-one.streams) rs i any_one c.loop-one-test.true
          ∙ ap (λ (ls : List OutboundStream). after_returns (drop (i + 1) rs) ls) (sym c.raise.ensures);
      top = omega (arith, c.loop-one-test.true);
      turns = omega (arith, c.tick.ensures, inv.turns);
    }

pub returns-clause-value : goal.returns-clause-value
returns-clause-value c =
    let none = drop_all c.loop-one.one-index c.args.answered.now c.loop-one-test.false in
    sym (c.loop-one.invariant.value ∙ ap (λ ts. after_returns ts c.loop-one.streams) none)

pub returns-clause-cost : goal.returns-clause-cost
returns-clause-cost c = omega (arith, c.loop-one.invariant.turns, c.loop-one.invariant.top, c.loop-one-test.false)
