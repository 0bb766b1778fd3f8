use Rattle.sctp_receiver.proofs.PushCosts.{push-within}
use Rattle.sctp_receiver.proofs.receiver.inbound_streams.refusal_without_memory.Goals as goal

pub returns-then-large-clause-cost : goal.returns-then-large-clause-cost
returns-then-large-clause-cost c =
    let e = c.is_too_large_counted-large.ensures in
    push-within c.args.chunk.now c.args.queue.now c.args.queue.now c.args.turns.now c.is_too_large_counted-large.new.turns (λ off old then. old)
    (λ off old new. e.ordered_cost off old) e.ordered_walk e.unordered_cost e.unordered_few e.unordered_walk

pub returns-else-large-clause-cost : goal.returns-else-large-clause-cost
returns-else-large-clause-cost c =
    let e = c.is_too_large_counted-large.ensures in
    push-within c.args.chunk.now c.args.queue.now c.args.queue.now c.args.turns.now c.is_too_large_counted-large.new.turns (λ off old then. old)
    (λ off old new. e.ordered_cost off old) e.ordered_walk e.unordered_cost e.unordered_few e.unordered_walk
