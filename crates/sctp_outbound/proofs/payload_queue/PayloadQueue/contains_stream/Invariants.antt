use Rattle.std.proofs.Common.{◌≡◌, ◌==◌, false, take}
use Rattle.std.specs.List.{list_any}
use Rattle.sctp_outbound.proofs.payload_queue.PayloadQueue.contains_stream.Given as goal

abbrev pub invariant-loop-place : goal.invariant-loop-place
invariant-loop-place l = list_any (λ c. c.stream_identifier == l.stream_identifier) (take l.place l.self-inside.held.chunks) ≡ false
