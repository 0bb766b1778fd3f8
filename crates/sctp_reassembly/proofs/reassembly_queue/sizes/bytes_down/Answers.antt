use Rattle.std.proofs.Common.{arith}
use Rattle.std.proofs.lemmas.Grind.{common_steps}
use Rattle.sctp_reassembly.proofs.lemmas.reassembly_queue.Stretches.{rises_at, rises_before, front_within}
use Rattle.sctp_reassembly.proofs.reassembly_queue.sizes.bytes_down.Goals as goal

pub loop-end-init : goal.loop-end-init
loop-end-init c = record {
  in_range = omega arith;
  small = omega arith;
  counted = grind (arith, common_steps);
  turns = omega arith;
  rises = rises_at c.args.unassembled.now.chunks c.args.end c.args.tsn c.requires;
  upto = omega arith;
}

pub loop-end-preserved : goal.loop-end-preserved
loop-end-preserved c =
    let i = c.loop-end.invariant in
    record {
      in_range = omega arith;
      small = omega arith;
      counted = grind (arith, common_steps);
      turns = omega (arith, i.turns, c.look-chunk.ensures.turn);
      rises = rises_before c.args.unassembled.now.chunks c.args.end c.args.tsn c.loop-end.end c.loop-end.next c.look-chunk.result.now c.requires (omega arith)
          i.upto (omega arith) c.look-chunk.ensures.value c.if-chunk-next.false i.rises;
      upto = omega (arith, i.upto);
    }

pub returns-then-chunk-next-clause-cost : goal.returns-then-chunk-next-clause-cost
returns-then-chunk-next-clause-cost c x s t e w =
    let i = c.loop-end.invariant in
    let le = front_within c.args.unassembled.now.chunks c.args.end c.args.tsn c.loop-end.end c.loop-end.next i.upto i.rises x s t e w in
    omega (arith, le, i.turns, i.upto, c.look-chunk.ensures.turn)

pub returns-then-chunk-clause-cost : goal.returns-then-chunk-clause-cost
returns-then-chunk-clause-cost c x s t e w =
    let i = c.loop-end.invariant in
    let le = front_within c.args.unassembled.now.chunks c.args.end c.args.tsn c.loop-end.end c.loop-end.next i.upto i.rises x s t e w in
    omega (arith, le, i.turns, i.upto, c.look-chunk.ensures.turn)

pub returns-clause-cost : goal.returns-clause-cost
returns-clause-cost c x s t e w =
    let i = c.loop-end.invariant in
    let le = front_within c.args.unassembled.now.chunks c.args.end c.args.tsn c.loop-end.end c.loop-end.next i.upto i.rises x s t e w in
    omega (arith, le, i.turns, i.upto)
