use Rattle.sctp_receiver.proofs.Names.{rules, slice_get_within}
use Rattle.sctp_receiver.proofs.VisitOrders.{read-at, swapped-order, swapped-spots}
use Rattle.sctp_receiver.proofs.receiver.visits.swap.Goals as goal

pub index_mut-requires-3 : goal.index_mut-requires-3
index_mut-requires-3 c =
    let here = read-at c.args.order.now.items c.args.i c.index-here.result.now c.requires.first c.index-here.ensures in
    let lt = slice_get_within c.args.spots.now.items c.index-here.result.now c.args.i ((c.requires.inverse c.args.i c.index-here.result.now).0 here) in
    search rules

pub index_mut-requires-4 : goal.index_mut-requires-4
index_mut-requires-4 c =
    let there = read-at c.args.order.now.items c.args.j c.index-there.result.now c.requires.second c.index-there.ensures in
    let lt = slice_get_within c.args.spots.now.items c.index-there.result.now c.args.j ((c.requires.inverse c.args.j c.index-there.result.now).0 there) in
    search rules

pub returns-clause-order : goal.returns-clause-order
returns-clause-order c = λ k.
    let order = c.args.order.now.items in
    swapped-order order c.args.i c.args.j c.index-here.result.now c.index-there.result.now k c.requires.first c.requires.second
    (read-at order c.args.i c.index-here.result.now c.requires.first c.index-here.ensures)
    (read-at order c.args.j c.index-there.result.now c.requires.second c.index-there.ensures)

pub returns-clause-spots : goal.returns-clause-spots
returns-clause-spots c = λ p.
    let order = c.args.order.now.items in
    swapped-spots order c.args.spots.now.items c.args.i c.args.j c.index-here.result.now c.index-there.result.now p c.requires.inverse
    (read-at order c.args.i c.index-here.result.now c.requires.first c.index-here.ensures)
    (read-at order c.args.j c.index-there.result.now c.requires.second c.index-there.ensures)
