use Rattle.std.proofs.Common.{◌≡◌, ◌+◌, length, arith}
use Rattle.std.proofs.lemmas.Grind.{common_steps}
use Rattle.std.specs.Prelude.{min}
use Rattle.sctp_capture.proofs.Texts.{run_next, run_more, run_done, line_is_short}
use Rattle.sctp_capture.proofs.text.take_dump.Goals as goal

pub returns-then-is_ended-clause-takes : goal.returns-then-is_ended-clause-takes
returns-then-is_ended-clause-takes g c =
    let at = c.loop-taken.invariant in
    let first : c.loop-taken.taken ≡ 0 → c.next_width-width.result ≡ min (length c.take_line.new.dump.said.items) 256 =
    λ none. grind (arith, common_steps, c.next_width-width.ensures.first none) in
    let behind = run_next _ (g.R.Read.remaining c.loop-taken.window.reader) _ _ c.loop-taken.window.held.items c.loop-taken.taken c.loop-taken.width
    c.next_width-width.result c.loop-taken.dump.said.items _ c.loop-taken.dump.is_right _
    at.run at.holds at.short at.room c.in_ok-take_line.ensures.said c.in_ok-take_line.ensures.right first c.next_width-width.ensures.later
    c.in_ok-take_line.ensures.left c.in_ok-fill_line.ensures.keeps in
    let ended = rw c.held.ensures at (c.is_ended.ensures.yes c.if-is_ended.true) in
    run_done _ (g.R.Read.remaining c.fill_line.new.window.reader) c.fill_line.new.window.held.items
    (c.loop-taken.taken + 1) c.next_width-width.result c.take_line.new.dump.said.items c.take_line.new.dump.is_right
    c.args.lead _ behind (omega arith) c.in_ok-fill_line.ensures.full ended c.in_ok-dump_record.ensures

pub loop-taken-preserved : goal.loop-taken-preserved
loop-taken-preserved g c =
    let at = c.loop-taken.invariant in
    let first : c.loop-taken.taken ≡ 0 → c.next_width-width.result ≡ min (length c.take_line.new.dump.said.items) 256 =
    λ none. grind (arith, common_steps, c.next_width-width.ensures.first none) in
    let behind = run_next _ (g.R.Read.remaining c.loop-taken.window.reader) _ _ c.loop-taken.window.held.items c.loop-taken.taken c.loop-taken.width
    c.next_width-width.result c.loop-taken.dump.said.items _ c.loop-taken.dump.is_right _
    at.run at.holds at.short at.room c.in_ok-take_line.ensures.said c.in_ok-take_line.ensures.right first c.next_width-width.ensures.later
    c.in_ok-take_line.ensures.left c.in_ok-fill_line.ensures.keeps in
    let goes = rw c.held.ensures at (c.is_ended.ensures.no c.if-is_ended.false) in
    record {
      run = run_more _ (g.R.Read.remaining c.fill_line.new.window.reader) c.fill_line.new.window.held.items
          (c.loop-taken.taken + 1) c.next_width-width.result c.take_line.new.dump.said.items c.take_line.new.dump.is_right
          behind c.in_ok-fill_line.ensures.full goes.1;
      holds = c.in_ok-fill_line.ensures.full;
      short = line_is_short _ goes.1;
      few = c.next_width-width.ensures.few;
      room = goes.0;
    }
