use Rattle.sctp_delivery.proofs.Names.{◌≡◌, drop, is_some, list_all, message_read, reads_nothing}
use Rattle.std.specs.Prelude.{not}
use Rattle.sctp_delivery.proofs.settled.is_nothing_readable.Given as goal

-- nothing was found so far
abbrev pub invariant-loop-inbound : goal.invariant-loop-inbound
invariant-loop-inbound l = reads_nothing l.fn.receiver ≡ list_all (λ s. not (is_some (message_read s.queue.held))) (drop l.inbound-index l.inbound-items)
