use Rattle.std.proofs.Common.{ap, sym, ◌∙◌}
use Rattle.sctp_association.proofs.Opened.{apart, opened_is}
use Rattle.sctp_sender.specs.Sender.{is_open}
use Rattle.sctp_association.proofs.outbound.Outbound.set_mode.Goals as goal

pub unreachable-requires : goal.unreachable-requires
unreachable-requires c =
    let shut = c.in-Err.ensures.refused.1 in
    let opened = ap (λ o. is_open c.args.stream o.sender) c.in_ok-open.ensures.ok ∙ opened_is c.args.stream c.args.self.now.sender in
    apart (sym shut ∙ opened)
