use Rattle.std.proofs.Common.{length, not, sym, ap, subst, arith}
use Rattle.std.specs.List.{All}
use Rattle.sctp_data.specs.ChunkSet.{ChunkSet}
use Rattle.sctp_reassembly.specs.reassembly_queue.Counts.{SetDeque, set_chunks}
use Rattle.sctp_reassembly.specs.reassembly_queue.Orders.{IsInOrder}
use Rattle.sctp_reassembly.specs.reassembly_queue.Skips.{is_discarded}
use Rattle.sctp_reassembly.proofs.lemmas.reassembly_queue.SkipCosts.{fewer}
use Rattle.sctp_reassembly.proofs.reassembly_queue.counted_sets.CountedSets.discard.Goals as goal

pub returns-clause-few : goal.returns-clause-few
returns-clause-few c e h =
    let xs = c.self.inside.sets.items in
    let same = ap (λ (s : SetDeque). s.items) c.self.view_is in
    let left = fewer (λ (s : ChunkSet). not (is_discarded c.args.passed c.args.bound s)) xs in
    omega (
      arith,
      ap length same,
      left,
      ap length c.discard-gone.ensures.rest,
      c.discard-gone.ensures.few e (subst (All IsInOrder) (sym same) h),
      c.chunks_in-self-inside.ensures.turns,
    )

pub returns-clause-walk : goal.returns-clause-walk
returns-clause-walk c =
    let xs = c.self.inside.sets.items in
    let same = ap (λ (s : SetDeque). s.items) c.self.view_is in
    let left = fewer (λ (s : ChunkSet). not (is_discarded c.args.passed c.args.bound s)) xs in
    omega (
      arith,
      ap length same,
      ap set_chunks same,
      left,
      ap length c.discard-gone.ensures.rest,
      c.discard-gone.ensures.walk,
      c.chunks_in-self-inside.ensures.turns,
    )
