use Rattle.sctp_sender.proofs.Names.{◌<◌, ◌≤◌, length, get_or, inl, inr, arith, cases_lt}
use Rattle.sctp_sender.proofs.Listing.{IsStart, any_place, behind, left-to-end, left-to-place, none-on, none-past, swept-on, there-taken}
use Rattle.sctp_sender.proofs.Returns.{no_block}
use Rattle.sctp_sender.proofs.sender.flight.runs.parted.Goals as goal

pub put_twice-requires-clause-behind : goal.put_twice-requires-clause-behind
put_twice-requires-clause-behind c = λ n le.
    behind _ c.loop-next.left.reported.items c.loop-next.from c.loop-next.invariant.swept n (omega (arith, c.max-start.ensures, le))

pub put_twice-requires-in-loop-next-clause-behind : goal.put_twice-requires-in-loop-next-clause-behind
put_twice-requires-in-loop-next-clause-behind c = λ n le.
    behind _ c.loop-next.left.reported.items c.loop-next.from c.loop-next.invariant.swept n (omega (arith, c.max-start.ensures, le))

pub loop-next-preserved-then-place-end : goal.loop-next-preserved-then-place-end
loop-next-preserved-then-place-end c =
    let bs = c.args.blocks.now in
    let ps = c.args.backs.now in
    let from = c.loop-next.from in
    let i = c.loop-next.next in
    let j = c.loop-next.back in
    let inv = c.loop-next.invariant in
    let lt : i < length bs = omega (arith, c.loop-next-test.true) in
    let less : j < length ps = elim (cases_lt j (length ps)) [
      | inl less ↦ less
      | inr ge ↦ (let none = c.place_at-place.ensures.none ge in absurd (omega (arith, none, c.if-place-end.true)))
    ] in
    let place = c.place_at-place.result in
    let there = c.place_at-place.ensures.there any_place less in
    let short : place < (get_or bs i no_block).end = omega (arith, c.if-place-end.true) in
    let start : IsStart from (get_or bs i no_block).start c.max-start.result = record {
      low = omega (arith, c.max-start.ensures);
      on = omega (arith, c.max-start.ensures);
      least = λ n a b. omega (arith, c.max-start.ensures, a, b);
    } in
    let on : from ≤ c.max-from.result = omega (arith, c.max-from.ensures) in
    record {
      swept =
          swept-on _ c.loop-next.left.reported.items from inv.swept c.put_twice.new.left.reported.items c.max-start.result place c.max-from.result start.low on
          (omega (arith, c.max-from.ensures)) c.in_ok-put_twice.ensures.ascend c.in_ok-put_twice.ensures.same (λ k low high.
          left-to-place bs c.requires.ascend from i inv.swept.some inv.past lt ps c.requires.in_order j inv.gone c.max-start.result start less place there short
          k low (omega (arith, low, high, c.max-from.ensures)));
      past = none-on bs from i c.max-from.result on inv.past;
      twice = c.in_ok-put_twice.ensures.twice;
      gone = λ k le. there-taken ps j k less (omega (arith, le, c.max-from.ensures, there)) (inv.gone k (omega (arith, le, on)));
      blocks = inv.blocks;
      backs = omega (arith, less);
      not_back = omega (arith, c.tick.ensures, inv.not_back);
      turns = omega (arith, c.tick.ensures, inv.turns);
    }

pub loop-next-preserved : goal.loop-next-preserved
loop-next-preserved c =
    let bs = c.args.blocks.now in
    let ps = c.args.backs.now in
    let from = c.loop-next.from in
    let i = c.loop-next.next in
    let j = c.loop-next.back in
    let inv = c.loop-next.invariant in
    let lt : i < length bs = omega (arith, c.loop-next-test.true) in
    let start : IsStart from (get_or bs i no_block).start c.max-start.result = record {
      low = omega (arith, c.max-start.ensures);
      on = omega (arith, c.max-start.ensures);
      least = λ n a b. omega (arith, c.max-start.ensures, a, b);
    } in
    let on : from ≤ c.max-from-in-loop-next.result = omega (arith, c.max-from-in-loop-next.ensures) in
    let after : j < length ps → (get_or bs i no_block).end ≤ (get_or ps j any_place).place = λ less.
    (let there = c.place_at-place.ensures.there any_place less in omega (arith, c.if-place-end.false, there)) in
    record {
      swept = swept-on _ c.loop-next.left.reported.items from inv.swept c.put_twice-in-loop-next.new.left.reported.items c.max-start.result
          (get_or bs i no_block).end
          c.max-from-in-loop-next.result start.low on
          (omega (arith, c.max-from-in-loop-next.ensures)) c.in_ok-put_twice-2.ensures.ascend c.in_ok-put_twice-2.ensures.same (λ k low high.
          left-to-end bs c.requires.ascend from i inv.swept.some inv.past lt ps c.requires.in_order j inv.gone c.max-start.result start after
          k low (omega (arith, low, high, c.max-from-in-loop-next.ensures)));
      past =
          none-past bs c.requires.ascend from i inv.swept.some inv.past lt c.max-from-in-loop-next.result on (omega (arith, c.max-from-in-loop-next.ensures));
      twice = c.in_ok-put_twice-2.ensures.twice;
      gone = λ k le. inv.gone k (omega (arith, le, on));
      blocks = omega (arith, lt);
      backs = inv.backs;
      not_back = omega (arith, c.tick.ensures, inv.not_back);
      turns = omega (arith, c.tick.ensures, inv.turns);
    }
