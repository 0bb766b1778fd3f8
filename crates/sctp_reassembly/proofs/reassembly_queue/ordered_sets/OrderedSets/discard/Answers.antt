use Rattle.std.proofs.Common.{length, not, map, sym, ap, subst, ◌∙◌, arith}
use Rattle.sctp_data.specs.ChunkSet.{ChunkSet}
use Rattle.sctp_serial.specs.Ascending.{IsAscending, IsOrder, upper_half}
use Rattle.sctp_reassembly.specs.reassembly_queue.Orders.{IsInOrder, IsOffOnlyOutOfOrder}
use Rattle.std.specs.List.{All, filter}
use Rattle.sctp_reassembly.specs.reassembly_queue.Counts.{set_chunks}
use Rattle.sctp_reassembly.proofs.lemmas.reassembly_queue.ExactFlags.{flag_on}
use Rattle.sctp_reassembly.proofs.lemmas.reassembly_queue.SkipCosts.{fewer}
use Rattle.sctp_reassembly.specs.reassembly_queue.Skips.{is_discarded}
use Rattle.sctp_serial.proofs.lemmas.AscendingEdits.{ascending, ascends_those, order_on}
use Rattle.sctp_reassembly.proofs.reassembly_queue.ordered_sets.OrderedSets.discard.Goals as goal

pub invariant_of-self : goal.invariant_of-self
invariant_of-self c =
    let num = (λ (s : ChunkSet). upper_half s.ssn) in
    let flag = c.still_ascending-self-inside.result in
    record {
      order = subst (λ ys. IsOrder flag (map num ys)) c.as_deque-sets.ensures c.still_ascending-self-inside.ensures.order;
      exact = subst (λ ys. IsOffOnlyOutOfOrder flag (map num ys)) c.as_deque-sets.ensures c.still_ascending-self-inside.ensures.exact;
    }

pub still_ascending-self-inside-requires : goal.still_ascending-self-inside-requires
still_ascending-self-inside-requires c on =
    let num = (λ (s : ChunkSet). upper_half s.ssn) in
    let xs = c.self.inside.sets.items in
    let p = (λ (s : ChunkSet). not (is_discarded c.args.passed c.args.bound s)) in
    subst (λ ys. IsAscending (map num ys)) (sym (c.as_deque-sets.ensures ∙ c.discard-gone.ensures.rest))
    (ascending num (filter p xs) (ascends_those num p xs (order_on num c.self.inside.ascending xs on c.self.invariant.order)))

pub returns-clause-few : goal.returns-clause-few
returns-clause-few c e o =
    let num = (λ (s : ChunkSet). upper_half s.ssn) in
    let xs = c.self.inside.sets.items in
    let same = c.self.view_is in
    let on = flag_on c.self.inside.ascending (map num xs) c.self.invariant.exact (subst (λ ys. IsAscending (map num ys)) (sym same) o.numbers) in
    omega (
      arith,
      ap length same,
      c.discard-gone.ensures.few e (subst (All IsInOrder) (sym same) o.fragments),
      c.still_ascending-self-inside.ensures.none on,
    )

pub returns-clause-walk : goal.returns-clause-walk
returns-clause-walk c =
    let xs = c.self.inside.sets.items in
    let left = fewer (λ (s : ChunkSet). not (is_discarded c.args.passed c.args.bound s)) xs in
    omega (
      arith,
      ap length c.self.view_is,
      ap set_chunks c.self.view_is,
      left,
      ap length (c.as_deque-sets.ensures ∙ c.discard-gone.ensures.rest),
      c.discard-gone.ensures.walk,
      c.still_ascending-self-inside.ensures.cost,
    )
