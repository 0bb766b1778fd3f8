use Rattle.std.proofs.Common.{◌≡◌, map, take}
use Rattle.std.specs.List.{filter}
use Rattle.sctp_outbound.specs.outbound_queue.OutboundQueue.{is_late}
use Rattle.sctp_outbound.proofs.outbound_queue.OutboundQueue.expired_inflight.Given as goal

abbrev pub invariant-loop-place : goal.invariant-loop-place
invariant-loop-place l = l.tsns.items ≡ map (λ c. c.tsn) (filter (is_late l.now l.self-inside.pending) (take l.place l.self-inside.inflight.chunks))
