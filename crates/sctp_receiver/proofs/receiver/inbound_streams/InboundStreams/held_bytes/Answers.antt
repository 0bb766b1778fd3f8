use Rattle.std.proofs.Common.{arith}
use Rattle.sctp_receiver.proofs.CostSums.{held-is}
use Rattle.sctp_receiver.proofs.receiver.inbound_streams.InboundStreams.held_bytes.Goals as goal

pub returns : goal.returns
returns c =
    rw (← c.self.view_is) (let e = c.min.ensures in let s = c.self.invariant.cost in let h = held-is c.self.inside.items.items in omega (arith, e, s, h))
