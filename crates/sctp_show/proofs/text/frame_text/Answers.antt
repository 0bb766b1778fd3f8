use Rattle.std.proofs.Common.{sym}
use Rattle.std.specs.String.{string_bytes}
use Rattle.sctp_show.proofs.Texts.{frame_some, frame_none}
use Rattle.sctp_show.proofs.text.frame_text.Goals as goal

pub returns-in-Ok : goal.returns-in-Ok
returns-in-Ok g c =
    frame_some string_bytes c.packet_text.result c.args.options.now c.args.number c.args.record.now c.args.frame.now _ _ _
    (record {
      alone = λ e. (rw c.as_slice-bytes.ensures at (c.in-Ok.ensures.alone e).1, (c.in-Ok.ensures.alone e).2);
      carried = λ n. rw c.as_slice-bytes.ensures at (c.in-Ok.ensures.carried n);
    }) (record {
      alone = λ e. (c.in-Ok.ensures.alone e).0;
      carried = λ n. rw c.as_slice-bytes.ensures at (c.in-Ok.ensures.ends n);
    }) (rw (sym c.as_slice-bytes.ensures, sym c.size_of-size.ensures) c.packet_text.ensures)

pub returns-in-Err : goal.returns-in-Err
returns-in-Err g c =
    frame_none string_bytes c.fault_line.result c.args.options.now c.args.number c.args.record.now c.args.frame.now _
    (λ d missing h. (rw c.as_slice-bytes.ensures at c.in-Err.ensures.refused) d missing (h.carried (λ e. c.in-Err.ensures.alone e))) c.fault_line.ensures
