use Rattle.std.proofs.Common.{◌+◌, ◌*◌}
use Rattle.sctp_delivery.proofs.PassedOn.{DeliverEach}
use Rattle.sctp_delivery.proofs.delivering.deliver_each.Given as goal

abbrev pub invariant-loop-bytes : goal.invariant-loop-bytes
invariant-loop-bytes l =
    DeliverEach l.fn.stream (2 * l.fn.rounds + 1) l.bytes-index l.fn.messages l.fn.sender l.fn.receiver l.sender l.receiver l.read.items
