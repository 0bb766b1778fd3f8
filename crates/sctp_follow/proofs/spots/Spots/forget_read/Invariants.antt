use Rattle.std.proofs.Common.{◌≡◌, ℕ, take, None, if◌then◌else◌}
use Rattle.sctp_follow.specs.Spots.{at, is_of_any}
use Rattle.sctp_follow.proofs.spots.Spots.forget_read.Given as goal

abbrev pub invariant-loop-message : goal.invariant-loop-message
invariant-loop-message l = (t : ℕ) → at l.self t ≡ (if is_of_any (take l.message-index l.messages) t then None else at l.initial.self t)
