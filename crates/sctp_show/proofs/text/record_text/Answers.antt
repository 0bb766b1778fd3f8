use Rattle.std.specs.String.{string_bytes}
use Rattle.sctp_show.proofs.Texts.{text_shown, text_refused}
use Rattle.sctp_show.proofs.text.record_text.Goals as goal

pub returns-in-Ok : goal.returns-in-Ok
returns-in-Ok g c = text_shown string_bytes c.frame_text.result c.args.options.now c.args.number c.args.record.now _ c.in-Ok.is c.frame_text.ensures

pub returns-in-Err : goal.returns-in-Err
returns-in-Err g c = text_refused string_bytes c.fault_line.result c.args.options.now c.args.number c.args.record.now _ c.in-Err.is c.fault_line.ensures
