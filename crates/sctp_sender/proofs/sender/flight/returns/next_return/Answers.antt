use Rattle.sctp_sender.proofs.Names.{◌≡◌, ℕ, ◌+◌, ◌<◌, List, length, get_or, ap, sym, ◌∙◌, arith, get_or_default, GapAckBlock}
use Rattle.sctp_sender.proofs.Returns.{AreListed, IsAtRun, at-run, block-at, ended, looked-at, no_block, one-on, past-block, past-run, to-end, unreached}
use Rattle.sctp_sender.proofs.WalkCosts.{block-paid, end-paid, look-cost, look-paid, none-paid, one-picked, run-paid}
use Rattle.sctp_sender.proofs.sender.flight.returns.next_return.Goals.{then-at-blocks+else-count-block+else-count-block-2, else-at-blocks}
use Rattle.sctp_sender.proofs.sender.flight.returns.next_return.Goals.{After-can_come_back, After-max-at, Start}
use Rattle.sctp_sender.proofs.sender.flight.returns.next_return.Goals as goal

are : (c : Start) → AreListed c.args.listed.now c.args.blocks.now c.args.queue.now.inflight.chunks
are c = record { ascend = c.requires.ascend; sorted = c.requires.sorted; covered = c.requires.covered }

-- The walk is at a run of what is listed.
at : (c : After-max-at) → AreListed c.args.listed.now c.args.blocks.now c.args.queue.now.inflight.chunks
    → IsAtRun c.args.count c.args.listed.now c.args.blocks.now c.args.queue.now.inflight.chunks c.args.at.now.place c.loop-at.at.place
    c.loop-at.at.listed c.loop-at.at.block c.max-at.result
at c are = at-run are c.loop-at.invariant.walked c.loop-at-test.true c.max-at.result (omega (arith, c.max-at.ensures)) (omega (arith, c.max-at.ensures))
    (λ k low high. omega (arith, c.max-at.ensures, low, high))

-- It looks at a place that no block reports.
record Looks (count : ℕ) (blocks : List GapAckBlock) (place j : ℕ) : Type 0 where
  next : (b : GapAckBlock) → j < length blocks → b ≡ get_or blocks j b → place + 1 < count + b.start
  open' : j < length blocks → place < count + (get_or blocks j no_block).end

looks : (c : After-can_come_back) → Looks c.args.count c.args.blocks.now c.max-at.result c.loop-at.at.block
looks c =
    let j = c.loop-at.at.block in
    record {
      next = λ b less same. elim c.if-at-blocks.branch [
        | then-at-blocks+else-count-block+else-count-block-2 w ↦
            let is : b ≡ get_or c.args.blocks.now j no_block = same ∙ get_or_default c.args.blocks.now j b no_block less in
            let start : b.start ≡ (get_or c.args.blocks.now j no_block).start = ap (λ (x : GapAckBlock). x.start) is in
            omega (arith, start, w.if-count-block-2.false)
        | else-at-blocks w ↦ absurd (omega (arith, less, w.if-at-blocks.false))
      ];
      open' = λ less. elim c.if-at-blocks.branch [
        | then-at-blocks+else-count-block+else-count-block-2 w ↦ omega (arith, w.if-count-block.false)
        | else-at-blocks w ↦ absurd (omega (arith, less, w.if-at-blocks.false))
      ];
    }

pub loop-at-init : goal.loop-at-init
loop-at-init c = record {
  walked = record {
    on = omega arith;
    least = c.requires.least;
    before = λ k low high. absurd (omega (arith, low, high));
    passed = c.requires.passed;
    reported = c.requires.reported;
  };
  paid = none-paid c.args.count c.args.listed.now c.args.blocks.now c.args.queue.now.inflight.chunks c.args.turns.now c.args.at.now.place
      c.args.at.now.listed c.args.at.now.block;
}

pub overflow_sub-run : goal.overflow_sub-run
overflow_sub-run c =
    let past = (block-at c.args.listed.now c.loop-at.at.listed (get_or c.args.listed.now c.loop-at.at.listed no_block) c.requires.ascend c.loop-at-test.true
    (get_or_default c.args.listed.now c.loop-at.at.listed no_block (get_or c.args.listed.now c.loop-at.at.listed no_block) c.loop-at-test.true)).past in
    omega (arith, past)

pub loop-at-preserved-then-at-run : goal.loop-at-preserved-then-at-run
loop-at-preserved-then-at-run c =
    let p = goal.at.loop-at-preserved-then-at-run c in
    let a = are p.Start in
    let t = at p.After-max-at a in
    let lt = c.loop-at-test.true in
    record {
      walked = past-run a t.walked (get_or c.args.listed.now c.loop-at.at.listed no_block) lt t.is c.if-at-run.true;
      paid = run-paid c.loop-at.invariant.paid c.tick.new.self c.max-at.result c.tick.ensures t.on lt;
    }

pub loop-at-preserved-then-count-block : goal.loop-at-preserved-then-count-block
loop-at-preserved-then-count-block c =
    let p = goal.at.loop-at-preserved-then-count-block c in
    let a = are p.Start in
    let t = at p.After-max-at a in
    let j = c.loop-at.at.block in
    let block : GapAckBlock = get_or c.args.blocks.now j no_block in
    let less = c.if-at-blocks.true in
    let same : block ≡ get_or c.args.blocks.now j block = get_or_default c.args.blocks.now j no_block block less in
    record {
      walked = past-block a t.walked block less same c.if-count-block.true;
      paid = block-paid c.loop-at.invariant.paid c.tick.new.self c.max-at.result c.tick.ensures t.on less;
    }

pub loop-at-preserved-then-count-block-2 : goal.loop-at-preserved-then-count-block-2
loop-at-preserved-then-count-block-2 c =
    let p = goal.at.loop-at-preserved-then-count-block-2 c in
    let a = are p.Start in
    let t = at p.After-max-at a in
    let j = c.loop-at.at.block in
    let block : GapAckBlock = get_or c.args.blocks.now j no_block in
    let less = c.if-at-blocks.true in
    let same : block ≡ get_or c.args.blocks.now j block = get_or_default c.args.blocks.now j no_block block less in
    let before : c.max-at.result < c.args.count + block.end = omega (arith, c.if-count-block.false) in
    let further = t.on in
    record {
      walked = to-end a t.walked block less same (c.args.count + block.end) c.if-count-block-2.true (omega (arith, before)) (omega arith);
      paid = end-paid c.loop-at.invariant.paid c.tick.new.self (c.args.count + block.end) c.tick.ensures (omega (arith, before, further)) less
          (omega (arith, before, further)) (omega arith);
    }

pub returns-then-can_come_back-clause-before : goal.returns-then-can_come_back-clause-before
returns-then-can_come_back-clause-before c =
    let p = goal.at.returns-then-can_come_back-clause-before c in (at p.After-max-at (are p.Start)).walked.before

pub returns-then-can_come_back-clause-found : goal.returns-then-can_come_back-clause-found
returns-then-can_come_back-clause-found c = λ e.
    let p = goal.at.returns-then-can_come_back-clause-found c in
    let a = are p.Start in
    looked-at a (at p.After-max-at a).walked (looks p.After-can_come_back).next ∙ sym c.can_come_back.ensures ∙ c.if-can_come_back.true

pub returns-then-can_come_back-clause-inside : goal.returns-then-can_come_back-clause-inside
returns-then-can_come_back-clause-inside c = c.loop-at.invariant.paid.inside

pub returns-then-can_come_back-clause-within : goal.returns-then-can_come_back-clause-within
returns-then-can_come_back-clause-within c = c.loop-at.invariant.paid.within

pub returns-then-can_come_back-clause-not_back : goal.returns-then-can_come_back-clause-not_back
returns-then-can_come_back-clause-not_back c = let h = c.loop-at.invariant.paid.not_back in omega (arith, h, c.tick.ensures)

pub returns-then-can_come_back-clause-cost : goal.returns-then-can_come_back-clause-cost
returns-then-can_come_back-clause-cost c =
    let p = goal.at.returns-then-can_come_back-clause-cost c in
    let a = are p.Start in
    let t = at p.After-max-at a in
    let l = looks p.After-can_come_back in
    look-cost c.loop-at.invariant.paid c.tick.new.self c.max-at.result c.tick.ensures t.on l.open' (t.lists (omega (arith, c.if-at-run.false)))
    (unreached a t.walked l.next)

pub returns-then-can_come_back-clause-picked : goal.returns-then-can_come_back-clause-picked
returns-then-can_come_back-clause-picked c = λ q picks e.
    let p = goal.at.returns-then-can_come_back-clause-picked c in
    let a = are p.Start in
    let t = at p.After-max-at a in
    let l = looks p.After-can_come_back in
    one-picked c.loop-at.invariant.paid c.tick.new.self c.max-at.result c.tick.ensures t.on l.open' (t.lists (omega (arith, c.if-at-run.false)))
    (unreached a t.walked l.next) q picks

pub loop-at-preserved : goal.loop-at-preserved
loop-at-preserved c =
    let p = goal.at.loop-at-preserved c in
    let a = are p.Start in
    let t = at p.After-max-at a in
    let l = looks p.After-can_come_back in
    record {
      walked = one-on a t.walked (looked-at a t.walked l.next ∙ sym c.can_come_back.ensures ∙ c.if-can_come_back.false);
      paid = look-paid c.loop-at.invariant.paid c.tick.new.self c.max-at.result c.tick.ensures t.on l.open' (t.lists (omega (arith, c.if-at-run.false)))
          (unreached a t.walked l.next);
    }

pub returns-clause-none : goal.returns-clause-none
returns-clause-none c = λ e k low. ended (are (goal.at.returns-clause-none c).Start) c.loop-at.invariant.walked c.loop-at-test.false k low

pub returns-clause-inside : goal.returns-clause-inside
returns-clause-inside c = c.loop-at.invariant.paid.inside

pub returns-clause-within : goal.returns-clause-within
returns-clause-within c = c.loop-at.invariant.paid.within

pub returns-clause-not_back : goal.returns-clause-not_back
returns-clause-not_back c = c.loop-at.invariant.paid.not_back

pub returns-clause-cost : goal.returns-clause-cost
returns-clause-cost c = c.loop-at.invariant.paid.cost
