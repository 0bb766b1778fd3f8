use Rattle.std.proofs.Common.{◌≡◌, ◌<◌, ◌≤◌, length, arith}
use Rattle.std.proofs.lemmas.Grind.{common_steps}
use Rattle.sctp_capture.specs.Record.{line_in}
use Rattle.sctp_capture.proofs.Lines.{alike_first, alike_next, alike_cut, alike_end}
use Rattle.sctp_capture.proofs.record.skip_line.Goals as goal

pub loop-init : goal.loop-init
loop-init g c = alike_first _

pub returns-then-length-held-clause-skips : goal.returns-then-length-held-clause-skips
returns-then-length-held-clause-skips g c =
    let held = c.loop.window.held.items in
    let is : c.line_length-length.result ≡ length (line_in c.loop.window.held.items) = grind (arith, common_steps) in
    let lt : length (line_in c.loop.window.held.items) < length c.loop.window.held.items = grind (arith, common_steps) in
    alike_cut _ (g.R.Read.remaining c.loop.window.reader) _ held c.loop.invariant lt (rw is at c.advance.ensures.drops)

pub returns-then-not-branch-clause-skips : goal.returns-then-not-branch-clause-skips
returns-then-not-branch-clause-skips g c =
    let held = c.loop.window.held.items in
    let le : length c.loop.window.held.items ≤ length (line_in c.loop.window.held.items) = grind (arith, common_steps) in
    let next = alike_next _ (g.R.Read.remaining c.loop.window.reader) _ _ held c.loop.invariant le
    (rw c.held-held.ensures at c.advance-in-loop.ensures.drops) c.in_ok-read_more.ensures.keeps in
    let none : length c.read_more.new.self.held.items ≡ 0 = grind (arith, common_steps) in
    alike_end _ (g.R.Read.remaining c.read_more.new.self.reader) c.read_more.new.self.held.items next none
    (c.in_ok-read_more.ensures.end (grind (arith, common_steps)))

pub loop-preserved : goal.loop-preserved
loop-preserved g c =
    let held = c.loop.window.held.items in
    let le : length c.loop.window.held.items ≤ length (line_in c.loop.window.held.items) = grind (arith, common_steps) in
    alike_next _ (g.R.Read.remaining c.loop.window.reader) _ _ held c.loop.invariant le
    (rw c.held-held.ensures at c.advance-in-loop.ensures.drops) c.in_ok-read_more.ensures.keeps
