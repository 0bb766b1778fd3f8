use Rattle.std.proofs.Common.{◌+◌, ◌-◌, ◌<◌, ◌/◌, length, sym, ◌∙◌, arith}
use Rattle.sctp_outbound.proofs.lemmas.payload_queue.Gaps.{rises_ahead, breaks_ahead, rising_on}
use Rattle.sctp_serial.proofs.lemmas.Halves.{halved, digits_left, one_more}
use Rattle.sctp_outbound.proofs.payload_queue.run_end_between.Goals as goal

pub loop-last-preserved-then-distance-middle : goal.loop-last-preserved-then-distance-middle
loop-last-preserved-then-distance-middle c =
    let xs = c.args.held.now.chunks in
    let last = c.loop-last.last in
    let partial = (c.loop-last.beyond - c.loop-last.last) / 2 in
    let more = one_more c.args.turns.now c.loop-last.turns c.tsn_at-ahead.new.turns c.loop-last.invariant.not_back c.tsn_at-ahead.ensures.turn in
    let short : last + partial < length xs = omega (arith, c.requires.in_range, c.loop-last.invariant.in_range) in
    let on = rises_ahead xs c.requires.serial last c.loop-last.tsn partial c.tsn_at-ahead.result short c.loop-last.invariant.number c.tsn_at-ahead.ensures.value
    (sym c.distance.ensures.value ∙ c.if-distance-middle.true ∙ omega arith) in
    record {
      from = omega arith;
      ordered = omega arith;
      in_range = c.loop-last.invariant.in_range;
      number = c.tsn_at-ahead.ensures.value;
      rising = rising_on xs c.args.place last (last + partial) c.loop-last.invariant.rising on;
      breaks = λ lt r. c.loop-last.invariant.breaks lt (rising_on xs last (last + partial) c.loop-last.beyond on r);
      seen = c.loop-last.invariant.seen;
      not_back = omega arith;
      cost_left = rw more (halved _ (c.loop-last.beyond - last - 1) _ _ c.loop-last.invariant.cost_left (omega arith));
      cost = rw more (digits_left _ _ _ c.loop-last.invariant.cost_left (omega arith));
    }

pub loop-last-preserved : goal.loop-last-preserved
loop-last-preserved c =
    let xs = c.args.held.now.chunks in
    let last = c.loop-last.last in
    let partial = (c.loop-last.beyond - c.loop-last.last) / 2 in
    let more = one_more c.args.turns.now c.loop-last.turns c.tsn_at-ahead.new.turns c.loop-last.invariant.not_back c.tsn_at-ahead.ensures.turn in
    let short : last + partial < length xs = omega (arith, c.requires.in_range, c.loop-last.invariant.in_range) in
    record {
      from = c.loop-last.invariant.from;
      ordered = omega arith;
      in_range = omega (arith, c.loop-last.invariant.in_range);
      number = c.loop-last.invariant.number;
      rising = c.loop-last.invariant.rising;
      breaks = λ lt.
          breaks_ahead xs c.requires.serial last c.loop-last.tsn partial c.tsn_at-ahead.result short c.loop-last.invariant.number c.tsn_at-ahead.ensures.value
          (λ e. c.if-distance-middle.false (c.distance.ensures.value ∙ e ∙ omega arith));
      seen = c.tsn_at-ahead.ensures.value;
      not_back = omega arith;
      cost_left = rw more (halved _ (c.loop-last.beyond - last - 1) _ _ c.loop-last.invariant.cost_left (omega arith));
      cost = rw more (digits_left _ _ _ c.loop-last.invariant.cost_left (omega arith));
    }
