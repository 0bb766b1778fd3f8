use Rattle.sctp_link.proofs.Names.{refl, sym, ◌∙◌}
use Rattle.sctp_receiver.specs.Receiver.{open_stream}
use Rattle.sctp_link.proofs.tsns.ReceiverTsns.{left}
use Rattle.sctp_link.proofs.link_receiver.LinkReceiver.open.Goals as goal

pub invariant_of-self : goal.invariant_of-self
invariant_of-self c =
    let r = c.self.inside.receiver in
    let s = left c.open.result r (open_stream c.args.stream r) c.open.new.self (record { filter = refl; limits = refl }) c.open.ensures.ok c.open.ensures.err in
    record { tsns = c.self.invariant.tsns ∙ sym s.filter; unlimited = s.limits ∙ c.self.invariant.unlimited }
