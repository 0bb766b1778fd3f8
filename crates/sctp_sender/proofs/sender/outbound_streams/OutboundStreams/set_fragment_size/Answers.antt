use Rattle.sctp_sender.proofs.Names.{ap, sym, ◌∙◌, map-twice, number, numbers_of, with_size}
use Rattle.sctp_sender.proofs.sender.outbound_streams.OutboundStreams.set_fragment_size.Goals as goal

pub invariant_of-self : goal.invariant_of-self
invariant_of-self c = c.self.invariant ∙ sym (ap numbers_of c.set_sizes.ensures ∙ map-twice number (with_size c.args.size) c.self.inside.items.items)
