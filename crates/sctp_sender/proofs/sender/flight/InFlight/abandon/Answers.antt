use Rattle.sctp_sender.proofs.Names.{◌≡◌, true, Some, refl, sym, subst, arith, find, ChunkPayloadData, IsBetween, has_tsn, following_tsn, has_tail, to_abandon}
use Rattle.sctp_sender.proofs.Names.{Flight, may_send}
use Rattle.sctp_sender.proofs.InLine.{abandoned-in-line, found-partial}
use Rattle.sctp_sender.proofs.Flights.{fresh, window, after-abandoning}
use Rattle.sctp_sender.proofs.Known.{abandoned-known}
use Rattle.sctp_sender.proofs.Seen.{flight_in}
use Rattle.sctp_sender.proofs.Unmarked.{abandoned-unmarked}
use Rattle.sctp_sender.proofs.sender.flight.InFlight.abandon.Goals as goal

pub abandon_between-requires-clause-fresh : goal.abandon_between-requires-clause-fresh
abandon_between-requires-clause-fresh c =
    let f : Flight = flight_in c.self.inside in
    fresh f c.self.invariant.contiguous

pub abandon_between-requires-clause-window : goal.abandon_between-requires-clause-window
abandon_between-requires-clause-window c =
    let f : Flight = flight_in c.self.inside in
    window f c.self.invariant.contiguous

pub invariant_of-self-2 : goal.invariant_of-self-2
invariant_of-self-2 c =
    let f : Flight = flight_in c.self.inside in
    let room : has_tail (to_abandon (find (has_tsn c.args.tsn) f.queue.inflight.chunks)) f.queue ≡ true
    → may_send f ≡ true = rw (← c.self.view_is) at c.requires in
    record {
      contiguous = (after-abandoning f _ c.abandon_between.new.self c.abandon_between.new.next_tsn c.self.invariant.contiguous room c.in_ok-abandoned.ensures.ok
          c.in_ok-abandoned.ensures.raised
          (abandoned-in-line f.queue (following_tsn f.acked_tsn)
          (omega arith) c.self.invariant.contiguous.few c.self.invariant.contiguous.run c.are_whole.ensures
          c.self.invariant.contiguous.side_by_side (to_abandon (find (has_tsn c.args.tsn) f.queue.inflight.chunks)) f.next_tsn (let next =
          c.self.invariant.contiguous.next in
          omega (arith, next)) (found-partial f.queue c.are_whole.ensures c.args.tsn (find (has_tsn c.args.tsn) f.queue.inflight.chunks) refl)
          c.abandon_between.new.self c.in_ok-abandoned.ensures.ok));
      ascend = c.self.invariant.ascend;
      known = abandoned-known c.self.inside.known.items f c.self.invariant.contiguous c.self.invariant.known
          (to_abandon (find (has_tsn c.args.tsn) f.queue.inflight.chunks)) c.abandon_between.new.self c.in_ok-abandoned.ensures.ok;
      unmarked = abandoned-unmarked c.self.inside.unmarked f c.self.invariant.contiguous c.self.invariant.unmarked
          (to_abandon (find (has_tsn c.args.tsn) f.queue.inflight.chunks)) c.abandon_between.new.self c.in_ok-abandoned.ensures.ok;
    }

pub abandon_between-requires-clause-between : goal.abandon_between-requires-clause-between
abandon_between-requires-clause-between c =
    subst (λ (g : Flight). (x : ChunkPayloadData) → find (has_tsn c.args.tsn) g.queue.inflight.chunks ≡ Some x
    → IsBetween x.message_id c.places_of-start.result.0 c.places_of-start.result.1 g.queue.inflight.chunks) (sym c.self.view_is) c.places_of-start.ensures

pub returns-clause-known : goal.returns-clause-known
returns-clause-known c =
    let f : Flight = flight_in c.self.inside in
    rw (← c.self.view_is) (λ bs k. abandoned-known bs f c.self.invariant.contiguous k (to_abandon (find (has_tsn c.args.tsn) f.queue.inflight.chunks))
    c.abandon_between.new.self c.in_ok-abandoned.ensures.ok)
