use Rattle.sctp_sender.proofs.Names.{◌≡◌, true, refl, arith, is_some, expiring_tail, message_of, next_pending, following_tsn, Flight, may_send}
use Rattle.sctp_sender.proofs.InLine.{abandoned-in-line, tail-partial}
use Rattle.sctp_sender.proofs.Flights.{fresh, window, after-abandoning, tail-there}
use Rattle.sctp_sender.proofs.Known.{abandoned-known}
use Rattle.sctp_sender.proofs.Seen.{flight_in}
use Rattle.sctp_sender.proofs.Unmarked.{abandoned-unmarked}
use Rattle.sctp_sender.proofs.sender.flight.InFlight.expire_tail.Goals as goal

pub expire_pending_tail-requires-clause-fresh : goal.expire_pending_tail-requires-clause-fresh
expire_pending_tail-requires-clause-fresh c =
    let f : Flight = flight_in c.self.inside in
    fresh f c.self.invariant.contiguous

pub expire_pending_tail-requires-clause-window : goal.expire_pending_tail-requires-clause-window
expire_pending_tail-requires-clause-window c =
    let f : Flight = flight_in c.self.inside in
    window f c.self.invariant.contiguous

pub invariant_of-self-2 : goal.invariant_of-self-2
invariant_of-self-2 c =
    let f : Flight = flight_in c.self.inside in
    let room : is_some (expiring_tail c.args.now f.queue) ≡ true → may_send f ≡ true = rw (← c.self.view_is) at c.requires in
    record {
      contiguous = (after-abandoning f _ c.expire_pending_tail.new.self c.expire_pending_tail.new.next_tsn c.self.invariant.contiguous
          (λ tail. room (tail-there (expiring_tail c.args.now f.queue) f.queue tail)) c.in_ok-abandoned.ensures.ok c.in_ok-abandoned.ensures.raised
          (abandoned-in-line f.queue (following_tsn f.acked_tsn)
          (omega arith) c.self.invariant.contiguous.few c.self.invariant.contiguous.run c.are_whole.ensures c.self.invariant.contiguous.side_by_side
          (message_of (expiring_tail c.args.now f.queue)) f.next_tsn (let next = c.self.invariant.contiguous.next in omega (arith, next)) (λ m h w.
          tail-partial f.queue c.are_whole.ensures c.args.now (next_pending f.queue.pending) refl m h) c.expire_pending_tail.new.self
          c.in_ok-abandoned.ensures.ok));
      ascend = c.self.invariant.ascend;
      known = abandoned-known c.self.inside.known.items f c.self.invariant.contiguous c.self.invariant.known
          (message_of (expiring_tail c.args.now f.queue)) c.expire_pending_tail.new.self c.in_ok-abandoned.ensures.ok;
      unmarked = abandoned-unmarked c.self.inside.unmarked f c.self.invariant.contiguous c.self.invariant.unmarked
          (message_of (expiring_tail c.args.now f.queue)) c.expire_pending_tail.new.self c.in_ok-abandoned.ensures.ok;
    }

pub returns-clause-known : goal.returns-clause-known
returns-clause-known c =
    let f : Flight = flight_in c.self.inside in
    rw (← c.self.view_is) (λ bs k. abandoned-known bs f c.self.invariant.contiguous k (message_of (expiring_tail c.args.now f.queue))
    c.expire_pending_tail.new.self c.in_ok-abandoned.ensures.ok)
