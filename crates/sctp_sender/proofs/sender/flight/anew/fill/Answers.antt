use Rattle.sctp_sender.proofs.Names.{◌<◌, ◌≤◌, length, None, ap, sym, ◌∙◌, arith, length_push, filled}
use Rattle.sctp_sender.proofs.AnewKept.{filled-done, filled-more}
use Rattle.sctp_sender.proofs.sender.flight.anew.fill.Goals as goal

pub loop-turns-preserved : goal.loop-turns-preserved
loop-turns-preserved c =
    let q = c.loop-turns.kept in
    let lt : length q.items < c.args.places = omega (arith, q.ok.0, c.len.ensures, c.loop-turns-test.true) in
    record {
      goes_on = ap (filled c.args.places) c.push_back_reserved.ensures.items ∙ filled-more c.args.places q.items lt ∙ c.loop-turns.invariant.goes_on;
      turns =
          (let n = ap length c.push_back_reserved.ensures.items ∙ length_push q.items None in omega (arith, n, c.tick.ensures, c.loop-turns.invariant.turns));
      capacity = c.push_back_reserved.ensures.capacity ∙ c.loop-turns.invariant.capacity;
    }

pub returns-clause-items : goal.returns-clause-items
returns-clause-items c =
    let q = c.loop-turns.kept in
    let le : c.args.places ≤ length q.items = omega (arith, q.ok.0, c.len.ensures, c.loop-turns-test.false) in
    sym (filled-done c.args.places q.items le) ∙ c.loop-turns.invariant.goes_on
