use Rattle.std.proofs.Common.{◌≡◌, ◌<◌, length, take, ap, ◌∙◌, arith}
use Rattle.sctp_capture.specs.Fields.{lead_by}
use Rattle.std.proofs.lemmas.Grind.{common_steps}
use Rattle.sctp_capture.proofs.Lines.{line_front, none_when, blank_front, line_is}
use Rattle.sctp_capture.proofs.record.read_line.Goals as goal

pub slice_bounds-line-end : goal.slice_bounds-line-end
slice_bounds-line-end c = rw c.line_length-length.ensures (ap length (line_front c.args.held.now).1)

pub returns-then-is_empty : goal.returns-then-is_empty
returns-then-is_empty c =
    let none : length c.in_ok-digits.digits.items ≡ 0 = none_when _ _ c.is_empty.result c.is_empty.ensures c.if-is_empty.true c.in_ok-digits.digits.ok.0 in (
      omega (arith, c.line_length-length.ensures, c.if-length-gt-MAX_LINE.false),
      blank_front c.args.held.now c.in_ok-digits.digits.items c.line_length-length.result c.line_length-length.ensures c.in_ok-digits.ensures none,
    )

pub returns : goal.returns
returns c =
    let some : 0 < length c.in_ok-digits.digits.items = grind (arith, common_steps) in
    let same : c.deref.result.now ≡ c.in_ok-digits.digits.items = grind (arith, common_steps) in
    let is = c.fields_of-fields.ensures.is in
    let led = c.lead_by-lead.ensures.is ∙ ap (λ f. lead_by (take c.line_length-length.result c.args.held.now) f) is in
    line_is c.args.held.now c.in_ok-digits.digits.items c.line_length-length.result c.in_ok-said_record.field-0 c.ends_in-ends.result
    c.line_length-length.ensures (omega (arith, c.if-length-gt-MAX_LINE.false)) c.in_ok-digits.ensures some c.in_ok-said_record.ensures.lost
    (c.in_ok-said_record.ensures.time ∙ ap (λ l. l.time) led) (c.in_ok-said_record.ensures.direction ∙ ap (λ l. l.direction) led)
    (rw is at c.ends_in-ends.ensures) c.in_ok-said_record.ensures.link_type (rw same at c.in_ok-said_record.ensures.frame)
