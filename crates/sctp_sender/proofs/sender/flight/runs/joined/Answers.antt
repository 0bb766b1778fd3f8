use Rattle.std.proofs.Common.{◌≡◌, ◌+◌, ◌-◌, ◌<◌, ◌≤◌, length, get_or, arith}
use Rattle.sctp_sender.proofs.Listing.{IsStart, behind, none-on, none-past, ours-to-end, some-further, swept-on, theirs-to-end}
use Rattle.sctp_sender.proofs.Returns.{no_block}
use Rattle.sctp_sender.proofs.sender.flight.runs.joined.Goals.{then-next-sorted, else-next-sorted+then-old-listed}
use Rattle.sctp_sender.proofs.sender.flight.runs.joined.Goals as goal

pub put_run-requires-clause-behind : goal.put_run-requires-clause-behind
put_run-requires-clause-behind c = λ n le.
    behind _ c.loop-next.all.items c.loop-next.from c.loop-next.invariant.swept n (omega (arith, c.max.ensures, le))

pub put_run-requires-in-loop-next-clause-behind : goal.put_run-requires-in-loop-next-clause-behind
put_run-requires-in-loop-next-clause-behind c = λ n le.
    behind _ c.loop-next.all.items c.loop-next.from c.loop-next.invariant.swept n (omega (arith, c.max-in-loop-next.ensures, le))

pub loop-next-preserved-then-comes_first : goal.loop-next-preserved-then-comes_first
loop-next-preserved-then-comes_first c =
    let ss = c.args.sorted.now in
    let ls = c.args.listed.now in
    let from = c.loop-next.from in
    let i = c.loop-next.next in
    let j = c.loop-next.old in
    let inv = c.loop-next.invariant in
    let lt : i < length ss = c.comes_first.ensures.yes c.if-comes_first.true in
    let start : IsStart from (get_or ss i no_block).start c.max.result = record {
      low = omega (arith, c.max.ensures);
      on = omega (arith, c.max.ensures);
      least = λ n a b. omega (arith, c.max.ensures, a, b);
    } in
    let on : from ≤ c.max-from.result = omega (arith, c.max-from.ensures) in
    record {
      swept = swept-on _ c.loop-next.all.items from inv.swept c.put_run.new.blocks.items c.max.result (get_or ss i no_block).end c.max-from.result start.low on
          (omega (arith, c.max-from.ensures)) c.in_ok-put_run.ensures.ascend c.in_ok-put_run.ensures.same (λ k low high.
          ours-to-end ss c.requires.sorted ls c.requires.listed c.args.count from i j inv.swept.some inv.past inv.before lt
          (λ less. let b = c.comes_first.ensures.before c.if-comes_first.true no_block less in omega (arith, b)) c.max.result start
          k low (omega (arith, low, high, c.max-from.ensures)));
      past = none-past ss c.requires.sorted from i inv.swept.some inv.past lt c.max-from.result on (omega (arith, c.max-from.ensures));
      before = none-on ls (c.args.count + from) j (c.args.count + c.max-from.result) (omega (arith, on)) inv.before;
      ours = omega (arith, lt);
      theirs = inv.theirs;
      not_back = omega (arith, c.tick.ensures, inv.not_back);
      turns = omega (arith, c.tick.ensures, inv.turns);
    }

pub loop-next-preserved : goal.loop-next-preserved
loop-next-preserved c =
    let ss = c.args.sorted.now in
    let ls = c.args.listed.now in
    let from = c.loop-next.from in
    let i = c.loop-next.next in
    let j = c.loop-next.old in
    let inv = c.loop-next.invariant in
    let lt : j < length ls = elim c.if-next-sorted.branch [
      | then-next-sorted w ↦ c.comes_first.ensures.other c.if-comes_first.false w.if-next-sorted.true
      | else-next-sorted+then-old-listed w ↦ w.if-old-listed.true
    ] in
    let far : c.saturating_sub-end.result ≡ (get_or ls j no_block).end - c.args.count = omega (arith, c.saturating_sub-end.ensures) in
    let start : IsStart from ((get_or ls j no_block).start - c.args.count) c.max-in-loop-next.result = record {
      low = omega (arith, c.max-in-loop-next.ensures);
      on = omega (arith, c.max-in-loop-next.ensures, c.saturating_sub-start.ensures);
      least = λ n a b. omega (arith, c.max-in-loop-next.ensures, c.saturating_sub-start.ensures, a, b);
    } in
    let on : from ≤ c.max-from-in-loop-next.result = omega (arith, c.max-from-in-loop-next.ensures) in
    record {
      swept = swept-on _ c.loop-next.all.items from inv.swept c.put_run-in-loop-next.new.blocks.items c.max-in-loop-next.result c.saturating_sub-end.result
          c.max-from-in-loop-next.result start.low on
          (omega (arith, c.max-from-in-loop-next.ensures)) c.in_ok-put_run-2.ensures.ascend c.in_ok-put_run-2.ensures.same (λ k low high.
          theirs-to-end ss c.requires.sorted ls c.requires.listed c.args.count from i j inv.swept.some inv.past inv.before lt
          (λ less. let b = c.comes_first.ensures.no c.if-comes_first.false no_block less in omega (arith, b)) c.max-in-loop-next.result
          c.saturating_sub-end.result far start k low (omega (arith, low, high, c.max-from-in-loop-next.ensures)));
      past = none-on ss from i c.max-from-in-loop-next.result on inv.past;
      before =
          none-past ls c.requires.listed (c.args.count + from) j (some-further ss c.requires.sorted ls c.requires.listed c.args.count from i j inv.swept.some
          inv.past inv.before) inv.before lt (c.args.count + c.max-from-in-loop-next.result) (omega (arith, on))
          (omega (arith, c.max-from-in-loop-next.ensures, far));
      ours = inv.ours;
      theirs = omega (arith, lt);
      not_back = omega (arith, c.tick.ensures, inv.not_back);
      turns = omega (arith, c.tick.ensures, inv.turns);
    }
