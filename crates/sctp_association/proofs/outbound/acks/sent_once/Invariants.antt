use Rattle.std.proofs.Common.{◌≡◌, drop, None}
use Rattle.sctp_association.specs.Paths.{sent_after}
use Rattle.sctp_association.proofs.outbound.acks.sent_once.Given as goal

-- the last of those that are left, or else of those before, is the last of all
abbrev pub invariant-loop-one : goal.invariant-loop-one
invariant-loop-one l = record { same : sent_after l.sent (drop l.one-index l.released) ≡ sent_after None l.released }
