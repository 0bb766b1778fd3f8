use Rattle.std.proofs.Common.{◌≡◌, ℕ}
use Rattle.sctp_c.specs.Types.{SeesWaiting, type_of}
use Rattle.sctp_c.proofs.sender.types.Types.see_waiting.Given as goal

abbrev pub invariant-loop-place : goal.invariant-loop-place
invariant-loop-place l = record {
  same : (m : ℕ) → type_of m l.self ≡ type_of m l.initial.self;
  seen : SeesWaiting l.stamp l.self l.queue l.place;
}
