use Rattle.sctp_sender.proofs.Names.{ap, refl, ◌∙◌, subst, sym, with_nsent, Outbound, has_tsn, tsns, Flight, AreKnown}
use Rattle.sctp_sender.proofs.Runs.{changed-run}
use Rattle.sctp_sender.proofs.InLine.{marked-in-line}
use Rattle.sctp_sender.proofs.Flights.{kept}
use Rattle.sctp_sender.proofs.Known.{changed-known}
use Rattle.sctp_sender.proofs.Seen.{flight_in}
use Rattle.sctp_sender.proofs.Unmarked.{changed-on}
use Rattle.sctp_sender.proofs.sender.flight.InFlight.count_resend.Goals as goal

pub invariant_of-self : goal.invariant_of-self
invariant_of-self c =
    let f : Flight = flight_in c.self.inside in
    record {
      contiguous = (kept f (record f { queue = c.set_nsent.new.self }) (ap (λ (o : Outbound). tsns o.inflight.chunks) c.set_nsent.ensures.changed
          ∙ changed-run (has_tsn c.args.tsn) (with_nsent c.saturating_add-nsent.result) (λ d. refl) f.queue.inflight.chunks) refl refl
          (marked-in-line f.queue c.set_nsent.new.self (has_tsn c.args.tsn) (with_nsent c.saturating_add-nsent.result)
          (λ d. refl) c.set_nsent.ensures.changed c.self.invariant.contiguous.side_by_side) c.self.invariant.contiguous);
      ascend = c.self.invariant.ascend;
      known = subst (λ (o : Outbound). AreKnown c.self.inside.known.items o.inflight.chunks) (sym c.set_nsent.ensures.changed) (changed-known
          c.self.inside.known.items f.queue.inflight.chunks c.self.invariant.known (has_tsn c.args.tsn) (with_nsent c.saturating_add-nsent.result) (λ d. refl));
      unmarked = changed-on c.self.inside.unmarked f.queue c.set_nsent.new.self (has_tsn c.args.tsn) (with_nsent c.saturating_add-nsent.result) (λ d e. e)
          c.set_nsent.ensures.changed c.self.invariant.unmarked;
    }
