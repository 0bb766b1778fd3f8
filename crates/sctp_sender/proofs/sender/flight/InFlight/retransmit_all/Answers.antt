use Rattle.sctp_sender.proofs.Names.{ap, refl, ◌∙◌, true, subst, sym, is_outstanding, with_retransmit, Outbound, tsns, Flight, AreKnown}
use Rattle.sctp_sender.proofs.Runs.{changed-run}
use Rattle.sctp_sender.proofs.InLine.{marked-in-line}
use Rattle.sctp_sender.proofs.Flights.{kept}
use Rattle.sctp_sender.proofs.Known.{changed-known}
use Rattle.sctp_sender.proofs.Seen.{flight_in}
use Rattle.sctp_sender.proofs.Unmarked.{none-passed}
use Rattle.sctp_sender.proofs.sender.flight.InFlight.retransmit_all.Goals as goal

pub invariant_of-self : goal.invariant_of-self
invariant_of-self c =
    let f : Flight = flight_in c.self.inside in
    record {
      contiguous =
          (kept f (record f { queue = c.mark_all_to_retransmit.new.self }) (ap (λ (o : Outbound). tsns o.inflight.chunks) c.mark_all_to_retransmit.ensures
          ∙ changed-run is_outstanding (with_retransmit true) (λ d. refl) f.queue.inflight.chunks) refl refl
          (marked-in-line f.queue c.mark_all_to_retransmit.new.self is_outstanding (with_retransmit true)
          (λ d. refl) c.mark_all_to_retransmit.ensures c.self.invariant.contiguous.side_by_side) c.self.invariant.contiguous);
      ascend = c.self.invariant.ascend;
      known = subst (λ (o : Outbound). AreKnown c.self.inside.known.items o.inflight.chunks) (sym c.mark_all_to_retransmit.ensures)
          (changed-known c.self.inside.known.items f.queue.inflight.chunks c.self.invariant.known is_outstanding (with_retransmit true) (λ d. refl));
      unmarked = none-passed c.mark_all_to_retransmit.new.self.inflight.chunks;
    }
