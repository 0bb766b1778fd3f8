use Rattle.sctp_sender.proofs.Names.{ap, refl, ◌∙◌, subst, sym, Outbound, tsns, Flight, can_miss, missed, AreKnown, AreUnmarked}
use Rattle.sctp_sender.proofs.MarkedRuns.{part-run}
use Rattle.sctp_sender.proofs.InLine.{part-marked-in-line}
use Rattle.sctp_sender.proofs.Flights.{kept}
use Rattle.sctp_sender.proofs.Known.{part-changed-known}
use Rattle.sctp_sender.proofs.Seen.{flight_in}
use Rattle.sctp_sender.proofs.Unmarked.{counted-unmarked}
use Rattle.sctp_sender.proofs.sender.flight.InFlight.add_miss_indications_counted.Goals as goal

pub invariant_of-self : goal.invariant_of-self
invariant_of-self c =
    let f : Flight = flight_in c.self.inside in
    record {
      contiguous =
          (kept f (record f { queue = c.count_missing-thirds.new.queue }) (ap (λ (o : Outbound). tsns o.inflight.chunks) c.count_missing-thirds.ensures.missed
          ∙ part-run can_miss missed (λ d. refl) f.queue.inflight.chunks c.count_before-count.result) refl refl
          (part-marked-in-line f.queue c.count_missing-thirds.new.queue can_miss missed c.count_before-count.result
          (λ d. refl) c.count_missing-thirds.ensures.missed c.self.invariant.contiguous.side_by_side) c.self.invariant.contiguous);
      ascend = c.self.invariant.ascend;
      known = subst (λ (o : Outbound). AreKnown c.self.inside.known.items o.inflight.chunks) (sym c.count_missing-thirds.ensures.missed)
          (part-changed-known c.self.inside.known.items f.queue.inflight.chunks c.self.invariant.known can_miss missed (λ d. refl) c.count_before-count.result);
      unmarked = subst (λ (o : Outbound). AreUnmarked c.earlier-self-inside.result o.inflight.chunks) (sym c.count_missing-thirds.ensures.missed)
          (counted-unmarked c.self.inside.unmarked c.count_before-count.result c.count_missing-thirds.result.0 c.count_missing-thirds.result.1
          c.earlier-self-inside.result f.queue.inflight.chunks c.self.invariant.unmarked c.count_missing-thirds.ensures.thirds
          c.count_missing-thirds.ensures.before
          c.earlier-self-inside.ensures.none c.earlier-self-inside.ensures.some);
    }
