use Rattle.sctp_sender.proofs.Names.{◌≡◌, suc, ◌∙◌, arith, partially_sent, Flight, messages_of, number_of_half}
use Rattle.sctp_sender.proofs.InLine.{shorter}
use Rattle.sctp_sender.proofs.Places.{between, place-is}
use Rattle.sctp_sender.proofs.Seen.{flight_in}
use Rattle.sctp_sender.proofs.sender.flight.InFlight.places_of.Goals as goal

pub returns-then-ahead-eq0 : goal.returns-then-ahead-eq0
returns-then-ahead-eq0 c =
    let f : Flight = flight_in c.self.inside in
    rw (← c.self.view_is) (λ x found.
    let h = place-is f c.self.invariant.contiguous c.args.tsn x found in
    let far : c.distance-ahead.result ≡ suc h.0 = c.distance-ahead.ensures.value ∙ h.2 in
    absurd (omega (arith, far, h.1, c.if-ahead-eq0.true)))

pub returns-then-ahead-inflight_len : goal.returns-then-ahead-inflight_len
returns-then-ahead-inflight_len c =
    let f : Flight = flight_in c.self.inside in
    rw (← c.self.view_is) (λ x found.
    let h = place-is f c.self.invariant.contiguous c.args.tsn x found in
    let far : c.distance-ahead.result ≡ suc h.0 = c.distance-ahead.ensures.value ∙ h.2 in
    absurd (omega (arith, far, h.1, c.if-ahead-inflight_len.true, c.inflight_len.ensures)))

pub returns : goal.returns
returns c =
    let f : Flight = flight_in c.self.inside in
    let cs = f.queue.inflight.chunks in
    let beside = shorter (messages_of cs) (number_of_half (partially_sent f.queue.pending)) c.self.invariant.contiguous.side_by_side in
    rw (← c.self.view_is) (λ x found.
    let h = place-is f c.self.invariant.contiguous c.args.tsn x found in
    let far : c.distance-ahead.result ≡ suc h.0 = c.distance-ahead.ensures.value ∙ h.2 in
    between cs c.message_start-start.result c.message_end-end.result h.0 x (omega (arith, far, c.message_start-start.ensures.to))
    (omega (arith, far, c.message_end-end.ensures.from)) c.message_end-end.ensures.to (c.message_start-start.ensures.apart beside)
    (c.message_end-end.ensures.apart beside) h.3)
