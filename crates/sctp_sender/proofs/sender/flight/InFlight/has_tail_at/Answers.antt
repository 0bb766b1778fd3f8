use Rattle.sctp_sender.proofs.Names.{sym, found_in}
use Rattle.sctp_sender.proofs.sender.flight.InFlight.has_tail_at.Goals as goal

pub rest_waits-requires : goal.rest_waits-requires
rest_waits-requires c = λ w.
    let x = c.in-Some.chunk.now in
    c.are_whole.ensures.sent x.message_id (found_in c.args.tsn c.self.inside.queue.inflight.chunks x (sym c.in-Some.ensures)) w
