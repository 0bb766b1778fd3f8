use Rattle.std.specs.String.{string_bytes}
use Rattle.sctp_show.proofs.Texts.{packet_is}
use Rattle.sctp_show.proofs.text.packet_text.Goals as goal

pub returns : goal.returns
returns g c = packet_is string_bytes c.passed_text.result c.args.options.now c.args.number c.args.datagram.now.bytes.now c.args.datagram.now.missing
    c.args.datagram.now.ends c.args.record.now c.args.size c.in_ok-seen.seen c.in_ok-known.known.accepts_zero c.args.summary.now.start
    (rw c.sum_for-sum.ensures at c.in_ok-seen.ensures)
    c.passed_text.ensures.shown c.passed_text.ensures.hidden
