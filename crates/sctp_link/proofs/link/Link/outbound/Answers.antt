use Rattle.sctp_model.proofs.refinement.sending.Lent.{pending-shown, in-flight-shown}
use Rattle.sctp_link.proofs.Names.{record_in}
use Rattle.sctp_link.proofs.link.Link.outbound.Goals as goal

pub returns-clause-pending : goal.returns-clause-pending
returns-clause-pending g c = rw (c.outbound.ensures, ← c.self.view_is)
    (pending-shown (record_in c.self.inside) c.self.inside.sender.flight.queue.pending c.self.invariant.1.outbound.pending)

pub returns-clause-in_flight : goal.returns-clause-in_flight
returns-clause-in_flight g c =
    rw (c.outbound.ensures, ← c.self.view_is) (in-flight-shown (record_in c.self.inside) c.self.inside.sender.flight.queue c.self.invariant.1.outbound)

pub returns-clause-says : goal.returns-clause-says
returns-clause-says g c = rw (c.outbound.ensures, ← c.self.view_is) c.self.invariant.1.outbound.in_flight
