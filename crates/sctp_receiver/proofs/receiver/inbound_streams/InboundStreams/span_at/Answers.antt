use Rattle.sctp_receiver.proofs.Names.{◌<◌, length, arith}
use Rattle.sctp_receiver.proofs.Undone.{span-noted}
use Rattle.sctp_receiver.proofs.receiver.inbound_streams.InboundStreams.span_at.Goals as goal

pub span_at-requires : goal.span_at-requires
span_at-requires c =
    let lt : c.args.place < length c.self.inside.items.items = rw (← c.self.view_is) at c.requires in
    omega (arith, lt, c.self.invariant.visits.listed.places)

pub returns : goal.returns
returns c =
    let lt : c.args.place < length c.self.inside.items.items = rw (← c.self.view_is) at c.requires in
    rw (← c.self.view_is) (span-noted c.args.place c.self.inside.visits.spans c.self.inside.items.items c.span_at.result lt c.span_at.ensures
    c.self.invariant.visits.spans)
