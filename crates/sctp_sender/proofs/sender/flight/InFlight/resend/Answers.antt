use Rattle.sctp_sender.proofs.Names.{ap, refl, sym, ◌∙◌, Some, subst, find, ChunkPayloadData, Outbound, has_tsn, tsns, Flight, sent_again, AreKnown}
use Rattle.sctp_sender.proofs.Walks.{found-changed}
use Rattle.sctp_sender.proofs.Runs.{changed-run}
use Rattle.sctp_sender.proofs.InLine.{marked-in-line}
use Rattle.sctp_sender.proofs.Flights.{kept}
use Rattle.sctp_sender.proofs.Known.{changed-known}
use Rattle.sctp_sender.proofs.Seen.{flight_in}
use Rattle.sctp_sender.proofs.Unmarked.{changed-on}
use Rattle.sctp_sender.proofs.sender.flight.InFlight.resend.Goals as goal

pub invariant_of-self : goal.invariant_of-self
invariant_of-self c =
    let f : Flight = flight_in c.self.inside in
    record {
      contiguous = (kept f (record f { queue = c.note_sent_again.new.queue }) (ap (λ (o : Outbound). tsns o.inflight.chunks) c.note_sent_again.ensures
          ∙ changed-run (has_tsn c.args.tsn) (sent_again c.saturating_add-count.result c.args.now) (λ d. refl) f.queue.inflight.chunks) refl refl
          (marked-in-line f.queue c.note_sent_again.new.queue (has_tsn c.args.tsn) (sent_again c.saturating_add-count.result c.args.now)
          (λ d. refl) c.note_sent_again.ensures c.self.invariant.contiguous.side_by_side) c.self.invariant.contiguous);
      ascend = c.self.invariant.ascend;
      known = subst (λ (o : Outbound). AreKnown c.self.inside.known.items o.inflight.chunks) (sym c.note_sent_again.ensures)
          (changed-known c.self.inside.known.items f.queue.inflight.chunks c.self.invariant.known (has_tsn c.args.tsn)
          (sent_again c.saturating_add-count.result c.args.now) (λ d. refl));
      unmarked = c.first_marked-self-inside.ensures.unmarked (changed-on c.self.inside.unmarked f.queue c.note_sent_again.new.queue (has_tsn c.args.tsn)
          (sent_again c.saturating_add-count.result c.args.now) (λ d e. refl) c.note_sent_again.ensures c.self.invariant.unmarked);
    }

pub returns-clause-noted : goal.returns-clause-noted
returns-clause-noted c =
    let f : Flight = flight_in c.self.inside in
    let p = has_tsn c.args.tsn in
    let g = sent_again c.saturating_add-count.result c.args.now in
    ap (λ (o : Outbound). find p o.inflight.chunks) c.note_sent_again.ensures
    ∙ found-changed p g (λ x. refl) f.queue.inflight.chunks c.in-Some.chunk.now (sym c.in-Some.ensures)
    ∙ ap (λ (y : ChunkPayloadData). Some (g y)) (sym c.in_ok-again.ensures.ok)
