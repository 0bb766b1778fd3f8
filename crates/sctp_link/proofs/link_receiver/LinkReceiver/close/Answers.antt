use Rattle.sctp_link.proofs.Names.{refl, sym, ◌∙◌}
use Rattle.sctp_receiver.specs.Receiver.{close_stream}
use Rattle.sctp_link.proofs.tsns.ReceiverTsns.{left-by}
use Rattle.sctp_link.proofs.link_receiver.LinkReceiver.close.Goals as goal

pub invariant_of-self : goal.invariant_of-self
invariant_of-self c =
    let r = c.self.inside.receiver in
    let s = left-by r (close_stream c.args.stream r) c.close.new.self (record { filter = refl; limits = refl }) c.close.ensures in
    record { tsns = c.self.invariant.tsns ∙ sym s.filter; unlimited = s.limits ∙ c.self.invariant.unlimited }
