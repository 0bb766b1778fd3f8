use Rattle.sctp_delivery.proofs.Names.{◌≡◌, Some, option_map, OutboundStream}
use Rattle.std.proofs.Common.{rules}
use Rattle.sctp_sender.specs.Sender.{stream_of}
use Rattle.sctp_delivery.proofs.AmountLaws.{amount-says}
use Rattle.sctp_delivery.proofs.amounts.buffered_amount.Goals as goal

pub returns-clause-left : goal.returns-clause-left
returns-clause-left c =
    let t = c.args.sender.now in
    let is : Some c.buffered_amount.result ≡ option_map (λ (l : OutboundStream). l.buffered_amount) (stream_of c.args.stream t) = search rules in
    amount-says t c.args.stream (Some c.buffered_amount.result) is
