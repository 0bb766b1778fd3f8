use Rattle.sctp_receiver.proofs.Names.{arith, ◌≡◌, ◌+◌, ◌<◌, Some, ap, ◌∙◌, length, slice_get, is_spot_before}
use Rattle.sctp_receiver.proofs.VisitOrders.{swapped-inverse, inserted}
use Rattle.sctp_receiver.proofs.receiver.visits.Visits.insert.Goals as goal

pub swap-requires-clause-second : goal.swap-requires-clause-second
swap-requires-clause-second c =
    let lt : c.spot_of-spot.result < length c.self.inside.order.items = rw (← c.self.view_is) at c.spot_of-spot.ensures.in_range in
    omega (arith, lt, c.if-spot-first.false)

pub invariant_of-self : goal.invariant_of-self
invariant_of-self c =
    let i = c.self.invariant in
    let lt : c.spot_of-spot.result < length c.self.inside.order.items = rw (← c.self.view_is) at c.spot_of-spot.ensures.in_range in
    record {
      inverse = swapped-inverse c.self.inside.order.items c.self.inside.spots.items c.swap.new.order.items c.swap.new.spots.items
          c.spot_of-spot.result c.self.inside.count i.inverse c.swap.ensures.order c.swap.ensures.spots;
      same = omega (arith, i.same, c.swap.ensures.same, c.swap.ensures.places);
      within = omega (arith, lt, c.if-spot-first.false, c.swap.ensures.same);
      spans = omega (arith, i.spans, c.swap.ensures.places);
    }

pub returns-clause-visited : goal.returns-clause-visited
returns-clause-visited c = λ p.
    let at : slice_get c.self.inside.spots.items c.args.place ≡ Some c.spot_of-spot.result = rw (← c.self.view_is) at c.spot_of-spot.ensures.spot in
    rw (← c.self.view_is) (ap (is_spot_before (c.self.inside.count + 1)) (c.swap.ensures.spots p)
    ∙ inserted c.self.inside.order.items c.self.inside.spots.items c.spot_of-spot.result c.args.place c.self.inside.count c.self.invariant.inverse
    at c.if-spot-first.false p)
