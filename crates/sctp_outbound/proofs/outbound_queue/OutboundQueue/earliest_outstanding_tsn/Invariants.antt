use Rattle.std.proofs.Common.{◌≡◌, drop}
use Rattle.std.specs.List.{find}
use Rattle.sctp_outbound.specs.Marks.{is_outstanding}
use Rattle.sctp_outbound.proofs.outbound_queue.OutboundQueue.earliest_outstanding_tsn.Given as goal

abbrev pub invariant-loop-place : goal.invariant-loop-place
invariant-loop-place l = find is_outstanding l.self-inside.inflight.chunks ≡ find is_outstanding (drop l.place l.self-inside.inflight.chunks)
