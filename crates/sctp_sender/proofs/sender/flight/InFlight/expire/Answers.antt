use Rattle.sctp_sender.proofs.Names.{refl, expiring, Flight}
use Rattle.sctp_sender.proofs.Flights.{kept}
use Rattle.sctp_sender.proofs.InLine.{expired-chunks, expired-in-line}
use Rattle.sctp_sender.proofs.Known.{expired-known}
use Rattle.sctp_sender.proofs.Seen.{flight_in}
use Rattle.sctp_sender.proofs.Unmarked.{expired-unmarked}
use Rattle.sctp_sender.proofs.sender.flight.InFlight.expire.Goals as goal

pub invariant_of-self : goal.invariant_of-self
invariant_of-self c =
    let f : Flight = flight_in c.self.inside in
    let o = expiring c.args.now f.queue in
    record {
      contiguous = (kept f (record f { queue = c.expire_pending.new.self })
          (expired-chunks o f.queue c.expire_pending.new.self c.expire_pending.ensures.expired) refl refl
          (expired-in-line o f.queue c.expire_pending.new.self c.expire_pending.ensures.expired c.self.invariant.contiguous.side_by_side)
          c.self.invariant.contiguous);
      ascend = c.self.invariant.ascend;
      known = expired-known c.self.inside.known.items f.queue c.expire_pending.new.self o c.expire_pending.ensures.expired c.self.invariant.known;
      unmarked = expired-unmarked c.self.inside.unmarked f.queue c.expire_pending.new.self o c.expire_pending.ensures.expired c.self.invariant.unmarked;
    }
