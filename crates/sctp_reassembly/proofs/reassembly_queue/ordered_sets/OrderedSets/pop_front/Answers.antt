use Rattle.std.proofs.Common.{drop, map, sym, subst, ◌∙◌}
use Rattle.sctp_data.specs.ChunkSet.{ChunkSet}
use Rattle.sctp_serial.specs.Ascending.{IsAscending, IsOrder, upper_half}
use Rattle.sctp_reassembly.specs.reassembly_queue.Orders.{IsOffOnlyOutOfOrder}
use Rattle.sctp_serial.proofs.lemmas.AscendingEdits.{ascending, ascends_drop, order_on}
use Rattle.sctp_reassembly.proofs.reassembly_queue.ordered_sets.OrderedSets.pop_front.Goals as goal

pub invariant_of-self : goal.invariant_of-self
invariant_of-self c =
    let num = (λ (s : ChunkSet). upper_half s.ssn) in
    let flag = c.still_ascending-self-inside.result in
    record {
      order = subst (λ ys. IsOrder flag (map num ys)) c.as_deque-sets.ensures c.still_ascending-self-inside.ensures.order;
      exact = subst (λ ys. IsOffOnlyOutOfOrder flag (map num ys)) c.as_deque-sets.ensures c.still_ascending-self-inside.ensures.exact;
    }

pub still_ascending-self-inside-requires : goal.still_ascending-self-inside-requires
still_ascending-self-inside-requires c on =
    let num = (λ (s : ChunkSet). upper_half s.ssn) in
    let xs = c.self.inside.sets.items in
    subst (λ ys. IsAscending (map num ys)) (sym (c.as_deque-sets.ensures ∙ c.pop_front-set.ensures.rest))
    (ascending num (drop 1 xs) (ascends_drop num 1 xs (order_on num c.self.inside.ascending xs on c.self.invariant.order)))
