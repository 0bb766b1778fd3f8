use Rattle.std.proofs.Common.{◌^◌}
use Rattle.bench.specs.Near.{AreBelow}
use Rattle.bench.proofs.payload.with_runs.Given as goal

abbrev pub invariant-loop-place : goal.invariant-loop-place
invariant-loop-place l = AreBelow (2 ^ 31) l.queue.chunks
