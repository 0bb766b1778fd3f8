use Rattle.sctp_sender.proofs.Names.{refl, Flight}
use Rattle.sctp_sender.proofs.Flights.{kept}
use Rattle.sctp_sender.proofs.InLine.{started-chunks, started-in-line}
use Rattle.sctp_sender.proofs.Known.{started-known}
use Rattle.sctp_sender.proofs.Seen.{flight_in}
use Rattle.sctp_sender.proofs.Unmarked.{started-unmarked}
use Rattle.sctp_sender.proofs.sender.flight.InFlight.start.Goals as goal

pub invariant_of-self : goal.invariant_of-self
invariant_of-self c =
    let f : Flight = flight_in c.self.inside in
    record {
      contiguous = (kept f (record f { queue = c.start_timed_messages.new.self })
          (started-chunks c.args.now f.queue c.start_timed_messages.new.self c.start_timed_messages.ensures) refl refl
          (started-in-line c.args.now f.queue c.start_timed_messages.new.self c.start_timed_messages.ensures c.self.invariant.contiguous.side_by_side)
          c.self.invariant.contiguous);
      ascend = c.self.invariant.ascend;
      known = started-known c.self.inside.known.items f.queue c.start_timed_messages.new.self c.args.now c.start_timed_messages.ensures c.self.invariant.known;
      unmarked = started-unmarked c.self.inside.unmarked f.queue c.start_timed_messages.new.self c.args.now c.start_timed_messages.ensures
          c.self.invariant.unmarked;
    }
