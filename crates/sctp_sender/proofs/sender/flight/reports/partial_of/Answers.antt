use Rattle.sctp_sender.proofs.Names.{sym, partial_in_front}
use Rattle.sctp_sender.proofs.sender.flight.reports.partial_of.Goals as goal

pub returns : goal.returns
returns c =
    let q = c.args.queue.now in
    sym (partial_in_front q.pending q.inflight.chunks q.next_message_id c.in-Some.chunk.now c.are_whole.ensures (sym c.in-Some.ensures.value) c.if-chunk.false)
