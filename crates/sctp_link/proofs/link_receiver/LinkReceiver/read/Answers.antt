use Rattle.sctp_link.proofs.Names.{refl, sym, ◌∙◌}
use Rattle.sctp_receiver.specs.Receiver.{after_read}
use Rattle.sctp_link.proofs.tsns.ReceiverTsns.{left}
use Rattle.sctp_link.proofs.link_receiver.LinkReceiver.read.Goals as goal

pub invariant_of-self : goal.invariant_of-self
invariant_of-self c =
    let r = c.self.inside.receiver in
    let s = left c.read.result r (after_read c.args.stream r) c.read.new.self (record { filter = refl; limits = refl }) c.read.ensures.ok c.read.ensures.err in
    record { tsns = c.self.invariant.tsns ∙ sym s.filter; unlimited = s.limits ∙ c.self.invariant.unlimited }
