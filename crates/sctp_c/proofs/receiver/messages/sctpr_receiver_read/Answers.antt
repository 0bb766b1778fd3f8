use Rattle.std.proofs.Common.{rules, length}
use Rattle.sctp_receiver.specs.Receiver.{message_on}
use Rattle.sctp_c.proofs.Messages.{not-short}
use Rattle.sctp_c.proofs.receiver.messages.sctpr_receiver_read.Goals as goal

pub unreachable-requires-in-Err : goal.unreachable-requires-in-Err
unreachable-requires-in-Err c =
    not-short (message_on c.args.stream c.args.receiver.now.value) c.next_len.result c.in-Some.len _ c.in-Ok-Some.field-0 c.in-Ok-Some.message
    (length c.args.out.now)
    c.in-Some.is (search rules) c.in-Ok-Some.field-0-is (search rules) (search rules) (search rules) (search rules)
