use Rattle.sctp_link.proofs.Names.{refl, ap, ◌∙◌, option_copied, option_map, InboundStream, Reception}
use Rattle.sctp_receiver.specs.Receiver.{stream_of}
use Rattle.sctp_link.proofs.sides.Changes.{inbound-answered}
use Rattle.sctp_link.proofs.upkeep.Accessors.{queue-is}
use Rattle.sctp_link.proofs.link.Link.reassembly.Goals as goal

pub returns : goal.returns
returns g c = rw (← c.self.view_is) (queue-is c.self.invariant.1 c.args.stream refl c.reassembly.result
    (inbound-answered c.self.invariant.0 (λ (l : InboundStream). l.queue) c.args.stream (option_copied c.reassembly.result) (c.reassembly.ensures
    ∙ ap (λ (r : Reception). option_map (λ (l : InboundStream). l.queue) (stream_of c.args.stream r)) c.receiver.ensures)))
