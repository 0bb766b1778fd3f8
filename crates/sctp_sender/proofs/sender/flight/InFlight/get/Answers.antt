use Rattle.sctp_sender.proofs.Names.{◌≡◌, suc, ◌-◌, sym, ◌∙◌, arith, distance, Flight}
use Rattle.sctp_sender.proofs.Places.{at-place, not-in-flight}
use Rattle.sctp_sender.proofs.Seen.{flight_in}
use Rattle.sctp_sender.proofs.sender.flight.InFlight.get.Goals as goal

pub returns-then-ahead-eq0 : goal.returns-then-ahead-eq0
returns-then-ahead-eq0 c =
    let f : Flight = flight_in c.self.inside in
    rw (← c.self.view_is) (sym (not-in-flight f c.self.invariant.contiguous c.args.tsn (λ k lt far.
    let is : c.distance-ahead.result ≡ suc k = c.distance-ahead.ensures.value ∙ far in
    omega (arith, is, c.if-ahead-eq0.true))))

pub returns : goal.returns
returns c =
    let f : Flight = flight_in c.self.inside in
    let one : c.distance-ahead.result ≡ suc (c.distance-ahead.result - 1) = omega (arith, c.if-ahead-eq0.false) in
    let far : distance f.acked_tsn c.args.tsn ≡ suc (c.distance-ahead.result - 1) = sym c.distance-ahead.ensures.value ∙ one in
    rw (← c.self.view_is) (c.inflight_at.ensures
    ∙ at-place f c.self.invariant.contiguous c.args.tsn (c.distance-ahead.result - 1) c.distance-ahead.ensures.to_fits far)
