use Rattle.std.proofs.Common.{rules}
use Rattle.sctp_util.specs.Field.{AreBytes}
use Rattle.sctp_util.proofs.Bytes.{bytes_drop, bytes_take}
use Rattle.sctp_params.proofs.param.param_header.lend_value.Goals as goal

pub returns-clause-bytes : goal.returns-clause-bytes
returns-clause-bytes c =
    let all : AreBytes c.args.raw.now = λ i. search rules in
    bytes_take _ _ (bytes_drop 4 c.args.raw.now all)
