use Rattle.std.proofs.Common.{rules}
use Rattle.sctp_c.proofs.Resets.{is_incoming_reset}
use Rattle.sctp_c.proofs.reconfig.sctpr_read_incoming_reset.Goals as goal

pub returns-in-Ok-clause-read : goal.returns-in-Ok-clause-read
returns-in-Ok-clause-read c _ =
    let e = c.in-Ok.ensures in
    is_incoming_reset c.args.raw.now c.in-Ok.value.now _ c.args.streams.now _ e.is e.value e.long e.even (search rules) c.fill_shorts.ensures
