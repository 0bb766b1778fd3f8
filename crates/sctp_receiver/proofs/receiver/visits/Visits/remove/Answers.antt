use Rattle.sctp_receiver.proofs.Names.{arith, ◌≡◌, ◌+◌, ◌-◌, Some, ap, sym, ◌∙◌, false, slice_get, ◌==◌, if◌then◌else◌, some-same, is_spot_before}
use Rattle.sctp_receiver.proofs.VisitOrders.{removed}
use Rattle.sctp_receiver.proofs.receiver.visits.Visits.remove.Goals as goal

pub returns-clause-visited : goal.returns-clause-visited
returns-clause-visited c = λ p.
    let last = c.self.inside.count - 1 in
    let more : last + 1 ≡ c.self.inside.count = omega (arith, c.if-spot-self.false) in
    let at : slice_get c.self.inside.spots.items c.args.place ≡ Some c.spot_of-spot.result = rw (← c.self.view_is) at c.spot_of-spot.ensures.spot in
    rw (← c.self.view_is) (ap (is_spot_before last) (c.swap.ensures.spots p)
    ∙ removed c.self.inside.order.items c.self.inside.spots.items c.spot_of-spot.result c.args.place last c.self.invariant.inverse
    at (omega (arith, c.if-spot-self.false)) p
    ∙ ap (λ n. if p == c.args.place then false else is_spot_before n (slice_get c.self.inside.spots.items p)) more)

pub returns-clause-moved : goal.returns-clause-moved
returns-clause-moved c = λ i k at lt.
    let same : c.spot_of-spot.result ≡ i = some-same (sym c.spot_of-spot.ensures.spot ∙ at) in
    rw (← c.self.view_is, ← same) (c.swap.ensures.order k)
