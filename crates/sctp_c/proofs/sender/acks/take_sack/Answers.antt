use Rattle.std.proofs.Common.{length, ap, arith}
use Rattle.sctp_data.specs.SelectiveAck.{sack_of}
use Rattle.sctp_c.proofs.Filling.{released-few}
use Rattle.sctp_c.proofs.sender.acks.take_sack.Goals as goal

pub returns-in-Ok-clause-few : goal.returns-in-Ok-clause-few
returns-in-Ok-clause-few c _ =
    omega (arith, ap length c.in-Ok.ensures.answer, released-few (sack_of c.args.sack.now) c.args.own.now)
