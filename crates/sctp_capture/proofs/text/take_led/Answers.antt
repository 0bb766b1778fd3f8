use Rattle.std.proofs.Common.{◌≡◌, true, false, arith}
use Rattle.std.proofs.lemmas.Grind.{common_steps}
use Rattle.std.proofs.lemmas.Result.{IfOk-weaker}
use Rattle.sctp_capture.specs.Record.{line_in}
use Rattle.sctp_capture.specs.Dump as dumps
use Rattle.sctp_capture.proofs.Texts.{led_dump, led_none}
use Rattle.sctp_capture.proofs.text.take_led.Goals as goal

pub returns-then-is_dump-clause-takes : goal.returns-then-is_dump-clause-takes
returns-then-is_dump-clause-takes g c =
    let yes : dumps.is_dump (line_in c.fill_line.new.window.held.items) ≡ true = grind (arith, common_steps) in
    IfOk-weaker c.take_dump.result _ _
    (λ r is. led_dump _ _ (g.R.Read.remaining c.fill_line.new.window.reader) _ c.fill_line.new.window.held.items c.args.lead r
    c.in_ok-skip_line.ensures.skips c.in_ok-fill_line.ensures.keeps c.in_ok-fill_line.ensures.full yes is) c.take_dump.ensures.takes

pub returns-clause-takes : goal.returns-clause-takes
returns-clause-takes g c =
    let none : dumps.is_dump (line_in c.fill_line.new.window.held.items) ≡ false = grind (arith, common_steps) in
    led_none _ _ (g.R.Read.remaining c.fill_line.new.window.reader) c.fill_line.new.window.held.items c.args.lead c.line_record.result
    c.in_ok-skip_line.ensures.skips c.in_ok-fill_line.ensures.keeps c.in_ok-fill_line.ensures.full none c.line_record.ensures.frame
