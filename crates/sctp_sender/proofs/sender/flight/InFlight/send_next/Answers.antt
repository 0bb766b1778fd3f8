use Rattle.sctp_sender.proofs.Names.{◌≡◌, true, ap, ◌∙◌, arith, find, Outbound, has_tsn, following_tsn, Flight, may_send}
use Rattle.sctp_sender.proofs.InLine.{sent-in-line}
use Rattle.sctp_sender.proofs.Flights.{fresh, window, sent}
use Rattle.sctp_sender.proofs.Sent.{noted-next}
use Rattle.sctp_sender.proofs.Known.{sent-known}
use Rattle.sctp_sender.proofs.Seen.{flight_in}
use Rattle.sctp_sender.proofs.Unmarked.{sent-unmarked}
use Rattle.sctp_sender.proofs.sender.flight.InFlight.send_next.Goals as goal

pub send_next-requires-clause-fresh : goal.send_next-requires-clause-fresh
send_next-requires-clause-fresh c =
    let f : Flight = flight_in c.self.inside in
    fresh f c.self.invariant.contiguous

pub send_next-requires-clause-window : goal.send_next-requires-clause-window
send_next-requires-clause-window c =
    let f : Flight = flight_in c.self.inside in
    window f c.self.invariant.contiguous

pub invariant_of-self-2 : goal.invariant_of-self-2
invariant_of-self-2 c =
    let f : Flight = flight_in c.self.inside in
    let room : may_send f ≡ true = rw (← c.self.view_is) at c.requires in
    record {
      contiguous =
          (sent f c.args.now c.send_next.new.self c.send_next.new.next_tsn c.self.invariant.contiguous room c.in_ok-sent.ensures.ok c.in_ok-sent.ensures.raised
          (sent-in-line f.queue (following_tsn f.acked_tsn)
          (omega arith) c.self.invariant.contiguous.few c.self.invariant.contiguous.run c.are_whole.ensures c.self.invariant.contiguous.side_by_side
          c.args.now f.next_tsn (let next = c.self.invariant.contiguous.next in omega (arith, next)) c.send_next.new.self c.in_ok-sent.ensures.ok));
      ascend = c.self.invariant.ascend;
      known = sent-known c.self.inside.known.items f c.self.invariant.contiguous c.self.invariant.known c.args.now c.send_next.new.self c.in_ok-sent.ensures.ok;
      unmarked = sent-unmarked c.self.inside.unmarked f c.self.invariant.contiguous c.self.invariant.unmarked c.args.now c.send_next.new.self
          c.in_ok-sent.ensures.ok;
    }

pub returns-clause-noted : goal.returns-clause-noted
returns-clause-noted c =
    let f : Flight = flight_in c.self.inside in
    rw (← c.self.view_is)
    (ap (λ (o : Outbound). find (has_tsn f.next_tsn) o.inflight.chunks) c.in_ok-sent.ensures.ok ∙ noted-next f c.self.invariant.contiguous c.args.now)

pub returns-clause-known : goal.returns-clause-known
returns-clause-known c =
    let f : Flight = flight_in c.self.inside in
    rw (← c.self.view_is) (λ bs k. sent-known bs f c.self.invariant.contiguous k c.args.now c.send_next.new.self c.in_ok-sent.ensures.ok)
