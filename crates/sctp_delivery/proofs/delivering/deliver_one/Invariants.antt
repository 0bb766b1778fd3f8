use Rattle.std.proofs.Common.{ℕ, ◌+◌, ◌*◌, ◌^◌, ◌<◌}
use Rattle.sctp_delivery.specs.Delivering.{Exchanges}
use Rattle.sctp_delivery.specs.Stand.{AreIn, Stand, given_in}
use Rattle.sctp_delivery.proofs.delivering.deliver_one.Given as goal

abbrev pub invariant-loop-round : goal.invariant-loop-round
invariant-loop-round l = (stream : ℕ) (st : Stand) → AreIn l.initial.sender l.initial.receiver st → given_in st + 2 * l._round < 2 ^ 31
    → Exchanges stream (2 * l._round) st l.sender l.receiver
