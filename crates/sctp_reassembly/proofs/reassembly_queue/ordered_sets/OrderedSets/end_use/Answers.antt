use Rattle.std.proofs.Common.{map, sym, subst, ◌∙◌}
use Rattle.sctp_data.specs.ChunkSet.{ChunkSet}
use Rattle.sctp_serial.specs.Ascending.{IsAscending, IsOrder, upper_half}
use Rattle.sctp_reassembly.specs.reassembly_queue.Orders.{IsOffOnlyOutOfOrder}
use Rattle.std.specs.List.{filter}
use Rattle.sctp_reassembly.specs.reassembly_queue.Resets.{rest_past, is_some_left}
use Rattle.sctp_reassembly.proofs.lemmas.reassembly_queue.Resets.{numbers_of_rests}
use Rattle.sctp_serial.proofs.lemmas.AscendingEdits.{ascending, ascends, ascends_those}
use Rattle.sctp_reassembly.proofs.lemmas.reassembly_queue.ExactFlags.{ascending_on}
use Rattle.sctp_reassembly.proofs.reassembly_queue.ordered_sets.OrderedSets.end_use.Goals as goal

pub invariant_of-self : goal.invariant_of-self
invariant_of-self c =
    let num = (λ (s : ChunkSet). upper_half s.ssn) in
    let flag = c.still_ascending-self-inside.result in
    record {
      order = subst (λ ys. IsOrder flag (map num ys)) c.as_deque-sets.ensures c.still_ascending-self-inside.ensures.order;
      exact = subst (λ ys. IsOffOnlyOutOfOrder flag (map num ys)) c.as_deque-sets.ensures c.still_ascending-self-inside.ensures.exact;
    }

pub still_ascending-self-inside-requires : goal.still_ascending-self-inside-requires
still_ascending-self-inside-requires c on =
    let num = (λ (s : ChunkSet). upper_half s.ssn) in
    let xs = c.self.inside.sets.items in
    let left = (λ (s : ChunkSet). is_some_left s.chunks) in
    let rests = map (rest_past c.args.last_tsn) xs in
    let held = ascending_on c.self.inside.ascending (map num xs) on c.self.invariant.order in
    subst (λ ys. IsAscending (map num ys)) (sym (c.as_deque-sets.ensures ∙ c.end_use-gone.ensures.rest))
    (ascending num (filter left rests) (ascends_those num left rests (ascends num rests (subst IsAscending (sym (numbers_of_rests c.args.last_tsn xs)) held))))
