use Rattle.std.proofs.Common.{◌<◌, ◌≤◌, arith}
use Rattle.sctp_association.proofs.Noting.{message_open, open_below}
use Rattle.sctp_association.proofs.inbound.Inbound.note_readable.Goals as goal

-- a stream of which a message can be read is open, and so among those that were agreed on
pub returns-clause-noted : goal.returns-clause-noted
returns-clause-noted c = λ s m lt.
    let i = c.args.self.now in
    let below : s < i.streams = open_below i.streams s i.receiver i.limited (message_open s i.receiver m) in
    let past : i.streams ≤ c.loop-stream.stream = c.loop-stream-test.false in
    c.loop-stream.invariant.noted s (omega (arith, below, past)) m lt
