use Rattle.sctp_sender.proofs.Names.{find, Flight, is_to_resend}
use Rattle.sctp_sender.proofs.Resends.{again, own, within-is}
use Rattle.sctp_sender.proofs.Seen.{flight_in}
use Rattle.sctp_sender.proofs.sender.flight.InFlight.tsn_to_resend.Goals as goal

pub returns-clause-own : goal.returns-clause-own
returns-clause-own c =
    let f : Flight = flight_in c.self.inside in
    rw (← c.self.view_is) (λ d e. own f c.self.invariant.contiguous is_to_resend d (within-is c.args.room (find is_to_resend f.queue.inflight.chunks) d e))

pub returns-clause-again : goal.returns-clause-again
returns-clause-again c =
    let f : Flight = flight_in c.self.inside in
    rw (← c.self.view_is) (λ d e. again f c.self.invariant.contiguous d (within-is c.args.room (find is_to_resend f.queue.inflight.chunks) d e))
