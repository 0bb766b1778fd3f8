use Rattle.std.proofs.Common.{rules}
use Rattle.sctp_c.proofs.Messages.{tells-next}
use Rattle.sctp_c.proofs.receiver.messages.sctpr_receiver_next_length.Goals as goal

pub returns-in-Some-clause-ok : goal.returns-in-Some-clause-ok
returns-in-Some-clause-ok c _ =
    tells-next c.args.stream c.in-Some.len c.type_on.result _ c.args.receiver.now.value c.next_len.result c.in-Some.is (search rules) (search rules)
