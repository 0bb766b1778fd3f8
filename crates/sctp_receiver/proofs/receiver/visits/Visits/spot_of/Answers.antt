use Rattle.std.proofs.Common.{◌<◌, length}
use Rattle.sctp_receiver.proofs.VisitOrders.{read-at, spot-inside}
use Rattle.sctp_receiver.proofs.receiver.visits.Visits.spot_of.Goals as goal

pub returns-clause-spot : goal.returns-clause-spot
returns-clause-spot c =
    let lt : c.args.place < length c.self.inside.spots.items = rw (← c.self.view_is) at c.requires in
    rw (← c.self.view_is) (read-at c.self.inside.spots.items c.args.place c.index.result.now lt c.index.ensures)

pub returns-clause-in_range : goal.returns-clause-in_range
returns-clause-in_range c =
    let spots = c.self.inside.spots.items in
    let lt : c.args.place < length spots = rw (← c.self.view_is) at c.requires in
    let at = read-at spots c.args.place c.index.result.now lt c.index.ensures in
    rw (← c.self.view_is) (spot-inside c.self.inside.order.items spots c.index.result.now c.args.place c.self.invariant.inverse at)
