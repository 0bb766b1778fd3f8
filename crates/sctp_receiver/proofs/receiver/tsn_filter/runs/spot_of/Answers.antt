use Rattle.std.proofs.Common.{◌+◌, ◌-◌, ◌/◌, ◌<◌, sym, length, arith, rules}
use Rattle.sctp_serial.proofs.lemmas.Halves.{halved, digits_left, one_more}
use Rattle.sctp_receiver.proofs.TsnRuns.{read-run, read-before}
use Rattle.sctp_receiver.proofs.receiver.tsn_filter.runs.spot_of.Goals as goal

pub loop-low-preserved-then-distance-far : goal.loop-low-preserved-then-distance-far
loop-low-preserved-then-distance-far c =
    let i = c.loop-low.invariant in
    let more = one_more c.args.turns.now c.loop-low.turns c.tick.new.self i.not_back c.tick.ensures in
    let middle = c.loop-low.low + (c.loop-low.high - c.loop-low.low) / 2 in
    let test = c.loop-low-test.true in
    let inside : middle < length c.args.runs.now.items = omega (arith, i.within, test) in
    record {
      order = omega (arith, test);
      within = i.within;
      before = read-before c.args.runs.now.items middle c.index-run.result.now inside c.index-run.ensures;
      after = i.after;
      begun = search rules;
      ahead = i.ahead;
      not_back = omega (arith, i.not_back, c.tick.ensures);
      cost_left = rw more (halved _ (c.loop-low.high - c.loop-low.low) _ _ i.cost_left (omega (arith, test)));
      cost = rw more (digits_left _ _ _ i.cost_left (omega (arith, test)));
    }

pub loop-low-preserved : goal.loop-low-preserved
loop-low-preserved c =
    let i = c.loop-low.invariant in
    let more = one_more c.args.turns.now c.loop-low.turns c.tick.new.self i.not_back c.tick.ensures in
    let middle = c.loop-low.low + (c.loop-low.high - c.loop-low.low) / 2 in
    let test = c.loop-low-test.true in
    let inside : middle < length c.args.runs.now.items = omega (arith, i.within, test) in
    record {
      order = omega arith;
      within = omega (arith, inside);
      before = i.before;
      after = sym (read-run c.args.runs.now.items middle c.index-run.result.now inside c.index-run.ensures);
      begun = i.begun;
      ahead = search rules;
      not_back = omega (arith, i.not_back, c.tick.ensures);
      cost_left = rw more (halved _ (c.loop-low.high - c.loop-low.low) _ _ i.cost_left (omega (arith, test)));
      cost = rw more (digits_left _ _ _ i.cost_left (omega (arith, test)));
    }
