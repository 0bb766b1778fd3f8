use Rattle.sctp_link.proofs.Names.{ap, sym, ◌∙◌, arith, bytes_of, Outbound, ledger_of}
use Rattle.sctp_outbound.specs.pending_queue.PendingQueue.{total_bytes}
use Rattle.sctp_link.proofs.upkeep.Accessors.{ledger-now, same-ledger}
use Rattle.sctp_link.proofs.link.Link.ledger.Goals as goal

pub returns : goal.returns
returns g c =
    let now = ledger-now c.self.invariant.1 in
    rw (← c.self.view_is) (same-ledger c.self.invariant.1.written (c.pending_bytes-pending.ensures
    ∙ ap (λ (q : Outbound). total_bytes q.pending) (c.outbound.ensures)) (c.inflight_bytes-in_flight.ensures ∙ ap (λ (q : Outbound).
    bytes_of q.inflight.chunks) (c.outbound-2.ensures)) (omega (arith, c.saturating_sub-2.ensures, c.saturating_sub.ensures)) ∙ sym (ap ledger_of now))
