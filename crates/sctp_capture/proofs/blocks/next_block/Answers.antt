use Rattle.std.proofs.Common.{◌<◌, ◌≤◌, length, arith}
use Rattle.std.proofs.lemmas.Grind.{common_steps}
use Rattle.sctp_capture.specs.declared.blocks.BlockHead.{BlockHead}
use Rattle.sctp_capture.specs.Blocks.{known_of, IsBlockHead}
use Rattle.sctp_capture.proofs.BlockPieces.{block_cut, block_bad, block_next}
use Rattle.sctp_capture.proofs.blocks.next_block.Goals as goal

pub returns-then-held-lt-BLOCK_HEADER-clause-takes : goal.returns-then-held-lt-BLOCK_HEADER-clause-takes
returns-then-held-lt-BLOCK_HEADER-clause-takes g c =
    let some : 0 < length c.fill.new.self.held.items = grind (arith, common_steps) in
    let few : length c.fill.new.self.held.items < 12 = grind (arith, common_steps) in
    block_cut (known_of c.args.section.now) _ (g.R.Read.remaining c.fill.new.self.reader) _ c.fill.new.self.held.items c.refused.result c.if-section.false
    c.in_ok-fill.ensures.keeps c.in_ok-fill.ensures.full some few c.refused.ensures.frame c.in_ok-skip.ensures.skips

pub returns-in-None-clause-takes : goal.returns-in-None-clause-takes
returns-in-None-clause-takes g c =
    let long : 12 ≤ length c.fill.new.self.held.items = grind (arith, common_steps) in
    let none : (h : BlockHead) → IsBlockHead c.args.section.now.order c.fill.new.self.held.items h → ⊥ = rw c.held-3.ensures at c.in-None.ensures.none in
    block_bad (known_of c.args.section.now) _ (g.R.Read.remaining c.fill.new.self.reader) c.fill.new.self.held.items c.refused-in-None.result c.if-section.false
    c.in_ok-fill.ensures.keeps long none c.refused-in-None.ensures.frame

pub returns-in-Some-found-clause-takes : goal.returns-in-Some-found-clause-takes
returns-in-Some-found-clause-takes g c =
    let is : IsBlockHead c.args.section.now.order c.fill.new.self.held.items c.in-Some.head = rw c.held-3.ensures at c.in-Some.ensures.some in
    block_next (known_of c.args.section.now) (known_of c.take_block.new.section) _ (g.R.Read.remaining c.fill.new.self.reader)
    (g.R.Read.remaining c.take_block.new.window.reader) _
    c.fill.new.self.held.items c.take_block.new.window.held.items c.in-Some.head _ c.if-section.false c.in_ok-fill.ensures.keeps is
    c.in_ok-found.ensures.keeps c.in_ok-found.ensures.full (rw c.in-Some-found.is at c.in_ok-found.ensures.gives) c.in_ok-skip-2.ensures.skips

pub returns-in-None-found-clause-takes : goal.returns-in-None-found-clause-takes
returns-in-None-found-clause-takes g c =
    let is : IsBlockHead c.args.section.now.order c.fill.new.self.held.items c.in-Some.head = rw c.held-3.ensures at c.in-Some.ensures.some in
    block_next (known_of c.args.section.now) (known_of c.take_block.new.section) _ (g.R.Read.remaining c.fill.new.self.reader)
    (g.R.Read.remaining c.take_block.new.window.reader) _
    c.fill.new.self.held.items c.take_block.new.window.held.items c.in-Some.head _ c.if-section.false c.in_ok-fill.ensures.keeps is
    c.in_ok-found.ensures.keeps c.in_ok-found.ensures.full (rw c.in-None-found.is at c.in_ok-found.ensures.gives) c.in_ok-skip-2.ensures.skips
