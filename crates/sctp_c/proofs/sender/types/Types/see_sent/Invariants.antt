use Rattle.std.proofs.Common.{◌≡◌, ℕ, true}
use Rattle.sctp_c.specs.Types.{SeesSent, is_stamped, type_of}
use Rattle.sctp_c.proofs.sender.types.Types.see_sent.Given as goal

abbrev pub invariant-loop-place : goal.invariant-loop-place
invariant-loop-place l = record {
  same : (m : ℕ) → type_of m l.self ≡ type_of m l.initial.self;
  seen : SeesSent l.stamp l.self l.queue l.place;
  kept : (m : ℕ) → is_stamped l.stamp m l.initial.self ≡ true → is_stamped l.stamp m l.self ≡ true;
}
