use Rattle.sctp_sender.proofs.Names.{take, filter, Name, is_named}
use Rattle.sctp_sender.proofs.sender.flight.skips.pairs_of.Given as goal

abbrev pub invariant-loop-place : goal.invariant-loop-place
invariant-loop-place l = Name l.pairs (filter is_named (take l.place l.queue.inflight.chunks))
