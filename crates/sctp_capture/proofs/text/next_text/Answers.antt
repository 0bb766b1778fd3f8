use Rattle.std.proofs.Common.{◌≡◌, length, arith}
use Rattle.std.proofs.lemmas.Grind.{common_steps}
use Rattle.sctp_capture.proofs.Lines.{line_none}
use Rattle.sctp_capture.proofs.Texts.{text_next}
use Rattle.sctp_capture.proofs.text.next_text.Goals as goal

pub returns-then-is_empty-clause-takes : goal.returns-then-is_empty-clause-takes
returns-then-is_empty-clause-takes g c =
    let none : length c.fill_line.new.window.held.items ≡ 0 = grind (arith, common_steps) in
    line_none _
    (g.R.Read.remaining c.fill_line.new.window.reader) c.fill_line.new.window.held.items c.in_ok-fill_line.ensures.keeps c.in_ok-fill_line.ensures.full none

pub returns-clause-takes : goal.returns-clause-takes
returns-clause-takes g c = rw c.taken_text.ensures (text_next _ _ _ c.in_ok-take_text.field-0 c.in_ok-fill_line.ensures.keeps c.in_ok-take_text.ensures.takes)
