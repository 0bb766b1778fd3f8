use Rattle.sctp_sender.proofs.Names.{Some, None, ap, sym, subst, ◌∙◌, if◌then◌else◌, to_abandon, Flight, IsContiguous, after_abandonment}
use Rattle.sctp_sender.proofs.Worn.{listed-same}
use Rattle.sctp_sender.proofs.Seen.{flight_in}
use Rattle.sctp_sender.proofs.sender.flight.InFlight.abandon_message.Goals as goal

pub returns-in_default-clause-listed : goal.returns-in_default-clause-listed
returns-in_default-clause-listed c =
    let f : Flight = flight_in c.self.inside in
    rw (← c.self.view_is) (listed-same f f c.self.invariant.contiguous c.args.tsn (ap (λ o. after_abandonment (to_abandon o) f) c.in_default.ensures))

pub returns-then-chunk-clause-listed : goal.returns-then-chunk-clause-listed
returns-then-chunk-clause-listed c =
    let f : Flight = flight_in c.self.inside in
    let x = c.in-Some.chunk.now in
    rw (← c.self.view_is) (listed-same f f c.self.invariant.contiguous c.args.tsn (ap (λ b. after_abandonment (if b then None else Some x.message_id) f)
    (sym c.if-chunk.true) ∙ ap (λ o. after_abandonment (to_abandon o) f) c.in-Some.ensures))

pub returns-clause-listed : goal.returns-clause-listed
returns-clause-listed c =
    listed-same c.args.self.now c.abandon.new.self (subst IsContiguous c.self.view_is c.self.invariant.contiguous) c.args.tsn c.in_ok-stream.ensures.ok
