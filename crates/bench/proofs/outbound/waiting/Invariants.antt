use Rattle.std.proofs.Common.{◌≡◌, []}
use Rattle.bench.proofs.outbound.waiting.Given as goal

abbrev pub invariant-loop : goal.invariant-loop
invariant-loop l = l.queue.inflight.chunks ≡ []
