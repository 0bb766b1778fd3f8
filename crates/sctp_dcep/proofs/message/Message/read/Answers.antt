use Rattle.std.proofs.Common.{rules}
use Rattle.sctp_util.specs.Field.{AreBytes}
use Rattle.sctp_dcep.proofs.Rewritten.{own_answer}
use Rattle.sctp_dcep.proofs.message.Message.read.Goals as goal

pub returns-in_ok-read_open-in-3-clause-again : goal.returns-in_ok-read_open-in-3-clause-again
returns-in_ok-read_open-in-3-clause-again c =
    let small : AreBytes c.args.raw.now = λ i. search rules in
    own_answer c.args.raw.now c.in_ok-read_open-in-3.field-0 small c.in_ok-read_open-in-3.ensures
