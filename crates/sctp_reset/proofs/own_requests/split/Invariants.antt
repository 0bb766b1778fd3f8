use Rattle.std.proofs.Common.{ℕ, Bool}
use Rattle.sctp_reset.specs.Own.{Tells}
use Rattle.sctp_reset.proofs.Splits.{IsSplit}
use Rattle.sctp_reset.proofs.own_requests.split.Given as goal

abbrev pub invariant-loop-stream : goal.invariant-loop-stream
invariant-loop-stream g l =
    goal.F-IsAlwaysCallable g l.is_drained
    × ((drained : ℕ → Bool) → Tells (goal.F-post g l.is_drained) drained
    → IsSplit drained l.most l.waiting l.streams.items l.left.items l.stream-index)
