use Rattle.std.proofs.Common.{arith}
use Rattle.sctp_reassembly.proofs.reassembly_queue.unordered_size.Goals as goal

pub returns-clause-cost : goal.returns-clause-cost
returns-clause-cost c s t serial w =
    omega (arith, c.size_before-before.ensures.cost s t serial w, c.size_after-after.ensures.cost s t serial w, w.holds_from, w.holds_to)
