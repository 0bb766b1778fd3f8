use Rattle.sctp_delivery.proofs.Names.{None, SenderMakes, opens}
use Rattle.std.proofs.Common.{rules}
use Rattle.sctp_receiver.specs.Receiver.{at_first}
use Rattle.sctp_sender.specs.Sender.{with_nothing}
use Rattle.sctp_delivery.specs.ReceiverCalls as incoming
use Rattle.sctp_delivery.specs.ReceiverCalls.{ReceiverMakes}
use Rattle.sctp_delivery.proofs.PassedOn.{begun}
use Rattle.sctp_delivery.proofs.delivering.begin.Goals as goal

pub returns : goal.returns
returns c =
    let tsn = c.args.first_tsn in
    let opened : SenderMakes (opens c.args.stream) (with_nothing tsn c.args.fragment_size c.args.max_message_size) c.open.new.sender = search rules in
    let opened' : ReceiverMakes (incoming.opens c.args.stream) (at_first tsn c.args.max_message_size None) c.open-2.new.receiver = search rules in
    begun c.args.stream tsn c.args.fragment_size c.args.max_message_size c.args.max_message_size None (search rules) (search rules)
    c.open.new.sender c.open-2.new.receiver opened opened'
