use Rattle.std.proofs.Common.{◌+◌}
use Rattle.bench.specs.Near.{AreBelow}
use Rattle.bench.proofs.outbound.send_each.Given as goal

abbrev pub invariant-loop-place : goal.invariant-loop-place
invariant-loop-place l = AreBelow (l.place + 1) l.queue.inflight.chunks
