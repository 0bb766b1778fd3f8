use Rattle.sctp_receiver.proofs.Names.{arith, ◌<◌, slice_get_within}
use Rattle.sctp_receiver.proofs.VisitOrders.{read-at}
use Rattle.sctp_receiver.proofs.receiver.visits.Visits.at.Goals as goal

pub returns-clause-in_range : goal.returns-clause-in_range
returns-clause-in_range c =
    let order = c.self.inside.order.items in
    let first : c.args.spot < c.self.inside.count = rw (← c.self.view_is) at c.requires in
    let here = read-at order c.args.spot c.index.result.now (omega (arith, first, c.self.invariant.within)) c.index.ensures in
    let h = slice_get_within c.self.inside.spots.items c.index.result.now c.args.spot ((c.self.invariant.inverse c.args.spot c.index.result.now).0 here) in
    rw (← c.self.view_is) h
