use Rattle.std.proofs.Common.{arith}
use Rattle.std.proofs.lemmas.Grind.{common_steps}
use Rattle.sctp_reassembly.proofs.lemmas.reassembly_queue.Stretches.{rises_from, rises_after, back_within}
use Rattle.sctp_reassembly.proofs.reassembly_queue.sizes.bytes_up.Goals as goal

pub loop-place-init : goal.loop-place-init
loop-place-init c = record {
  small = omega arith;
  counted = grind (arith, common_steps);
  at_or_after = omega arith;
  in_range = c.requires;
  turns = omega arith;
  rises = rises_from c.args.unassembled.now.chunks c.args.from c.args.tsn c.requires;
}

pub loop-place-preserved : goal.loop-place-preserved
loop-place-preserved c =
    let i = c.loop-place.invariant in
    record {
      small = omega arith;
      counted = grind (arith, common_steps);
      at_or_after = omega (arith, i.at_or_after);
      in_range = omega arith;
      turns = omega (arith, i.turns, c.look-chunk.ensures.turn);
      rises = rises_after c.args.unassembled.now.chunks c.args.from c.args.tsn c.loop-place.place c.loop-place.last c.look-chunk.result.now i.at_or_after
          (omega arith) c.look-chunk.ensures.value c.if-chunk-last.false i.rises;
    }

pub returns-then-chunk-last-clause-cost : goal.returns-then-chunk-last-clause-cost
returns-then-chunk-last-clause-cost c x s t e w =
    let i = c.loop-place.invariant in
    let le = back_within c.args.unassembled.now.chunks c.args.from c.args.tsn c.loop-place.place c.loop-place.last i.at_or_after i.in_range i.rises x s t e w in
    omega (arith, le, i.turns, i.at_or_after, c.look-chunk.ensures.turn)

pub returns-then-chunk-clause-cost : goal.returns-then-chunk-clause-cost
returns-then-chunk-clause-cost c x s t e w =
    let i = c.loop-place.invariant in
    let le = back_within c.args.unassembled.now.chunks c.args.from c.args.tsn c.loop-place.place c.loop-place.last i.at_or_after i.in_range i.rises x s t e w in
    omega (arith, le, i.turns, i.at_or_after, c.look-chunk.ensures.turn)

pub returns-clause-cost : goal.returns-clause-cost
returns-clause-cost c x s t e w =
    let i = c.loop-place.invariant in
    let le = back_within c.args.unassembled.now.chunks c.args.from c.args.tsn c.loop-place.place c.loop-place.last i.at_or_after i.in_range i.rises x s t e w in
    omega (arith, le, i.turns, i.at_or_after)
