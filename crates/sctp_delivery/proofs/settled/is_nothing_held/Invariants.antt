use Rattle.sctp_delivery.proofs.Names.{◌≡◌, drop, ◌==◌, list_all, held_chunks, holds_nothing}
use Rattle.sctp_delivery.proofs.settled.is_nothing_held.Given as goal

-- nothing was found so far
abbrev pub invariant-loop-inbound : goal.invariant-loop-inbound
invariant-loop-inbound l = holds_nothing l.fn.receiver ≡ list_all (λ s. held_chunks s.queue.held == 0) (drop l.inbound-index l.inbound-items)
