use Rattle.std.proofs.Common.{◌≡◌, true, false, Some, None, arith}
use Rattle.std.proofs.lemmas.Grind.{common_steps}
use Rattle.std.proofs.lemmas.Result.{IfOk-weaker}
use Rattle.sctp_capture.specs.Record.{line_in}
use Rattle.sctp_capture.specs.Preamble.{preamble_of}
use Rattle.sctp_capture.specs.Dump as dumps
use Rattle.sctp_capture.proofs.Texts.{text_dump, text_led, text_line}
use Rattle.sctp_capture.proofs.text.take_text.Goals as goal

pub returns-then-is_dump-clause-takes : goal.returns-then-is_dump-clause-takes
returns-then-is_dump-clause-takes g c =
    let yes : dumps.is_dump (line_in c.args.window.now.held.items) ≡ true = grind (arith, common_steps) in
    text_dump (g.R.Read.remaining c.args.window.now.reader) _ c.args.window.now.held.items c.in_ok-take_dump.field-0 c.requires.1 c.requires.0 yes
    (rw c.no_lead.ensures at c.in_ok-take_dump.ensures.takes)

pub returns-in_ok-take_led-in-Some-clause-takes : goal.returns-in_ok-take_led-in-Some-clause-takes
returns-in_ok-take_led-in-Some-clause-takes g c =
    let none : dumps.is_dump (line_in c.args.window.now.held.items) ≡ false = grind (arith, common_steps) in
    let answered : preamble_of (line_in c.args.window.now.held.items) ≡ Some c.in-Some.lead = grind (arith, common_steps) in
    text_led (g.R.Read.remaining c.args.window.now.reader) _ c.args.window.now.held.items c.in-Some.lead c.in_ok-take_led-in-Some.field-0 c.requires.1
    c.requires.0 none answered
    c.in_ok-take_led-in-Some.ensures.takes

pub returns-in-None-clause-takes : goal.returns-in-None-clause-takes
returns-in-None-clause-takes g c =
    let none : dumps.is_dump (line_in c.args.window.now.held.items) ≡ false = grind (arith, common_steps) in
    let answered : preamble_of (line_in c.args.window.now.held.items) ≡ None = grind (arith, common_steps) in
    IfOk-weaker c.take_single.result _ _
    (λ found is. text_line (g.R.Read.remaining c.args.window.now.reader) _ c.args.window.now.held.items found c.requires.1 c.requires.0 none answered is)
    c.take_single.ensures.takes
