use Rattle.sctp_sender.proofs.Names.{refl, ap, subst, sym, ◌∙◌, Outbound, tsns, Flight, AreKnown, AreUnmarked}
use Rattle.sctp_sender.proofs.Expiries.{so-many, times-chunks, times-in-line, times-known}
use Rattle.sctp_sender.proofs.Flights.{kept}
use Rattle.sctp_sender.proofs.InLine.{IsInLine}
use Rattle.sctp_sender.proofs.Seen.{flight_in}
use Rattle.sctp_sender.proofs.sender.flight.InFlight.expire_run.Goals as goal

pub invariant_of-self : goal.invariant_of-self
invariant_of-self c =
    let f : Flight = flight_in c.self.inside in
    let new = c.expire_pending_run.new.self in
    let n = so-many c.args.now f.queue new c.expire_pending_run.result c.expire_pending_run.ensures.expired c.expire_pending_run.ensures.none in
    record {
      contiguous =
          kept f (record f { queue = new }) (ap (λ (o : Outbound). tsns o.inflight.chunks) n.1 ∙ ap tsns (times-chunks c.args.now f.queue n.0)) refl refl
          (subst IsInLine (sym n.1) (times-in-line c.args.now f.queue n.0 c.self.invariant.contiguous.side_by_side)) c.self.invariant.contiguous;
      ascend = c.self.invariant.ascend;
      known = subst (λ (o : Outbound). AreKnown c.self.inside.known.items o.inflight.chunks) (sym n.1)
          (times-known c.args.now f.queue n.0 c.self.inside.known.items c.self.invariant.known);
      unmarked = subst (AreUnmarked c.self.inside.unmarked) (sym (ap (λ (o : Outbound). o.inflight.chunks) n.1 ∙ times-chunks c.args.now f.queue n.0))
          c.self.invariant.unmarked;
    }
