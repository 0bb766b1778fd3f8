use Rattle.std.proofs.Common.{◌<◌, length, arith}
use Rattle.std.proofs.lemmas.Bool.Decides.{nat_tests}
use Rattle.std.proofs.lemmas.Result.{err_from_is_err_and}
use Rattle.sctp_channels.proofs.Handing.{sent_is}
use Rattle.sctp_channels.proofs.Refusing.{write_refused}
use Rattle.sctp_channels.proofs.channels.Channels.write.Goals as goal

pub returns-in_err-write-clause-refused : goal.returns-in_err-write-clause-refused
returns-in_err-write-clause-refused c =
    let p = err_from_is_err_and c.from_residual.result c.from_residual.ensures.1 in
    let some : 0 < length c.args.bytes.now = grind (arith, nat_tests, c.is_empty.ensures, c.if-not-is_empty.true) in
    rw (p.1, p.2, sent_is c.args.bytes.now some) (write_refused c.args.stream c.args.self.now.channels.items _ _ c.in_err-write.ensures.refused)
