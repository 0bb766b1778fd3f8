use Rattle.std.proofs.Common.{ℕ, ◌≡◌, rules, tests, arith, leb, nat_lt, ap, ◌∙◌}
use Rattle.std.proofs.lemmas.List.Sorted.{IsPartitionPoint-from_clause, IsPartitionedBy-leb}
use Rattle.sctp_data.specs.declared.chunk.chunk_selective_ack.GapAckBlock.{GapAckBlock}
use Rattle.sctp_follow.proofs.Halving.{last_has, none_has}
use Rattle.sctp_follow.proofs.blocks.is_in_some.Goals as goal

pub returns-then-count-gt0 : goal.returns-then-count-gt0
returns-then-count-gt0 c =
    last_has c.args.blocks.now c.args.offset c.partition_point-count.result _ c.requires c.partition_point-count.ensures.bound c.if-count-gt0.true
    (IsPartitionPoint-from_clause (λ (b : GapAckBlock). leb b.start c.args.offset) c.args.blocks.now _ c.partition_point-count.ensures.partitioned
    (IsPartitionedBy-leb (λ b. b.start) _ _ c.requires.starts) (λ a r f k. search (rules, tests)))

pub returns-else-count-gt0 : goal.returns-else-count-gt0
returns-else-count-gt0 c =
    let zero : c.partition_point-count.result ≡ 0 = omega (arith, c.if-count-gt0.false) in
    ap (λ (n : ℕ). nat_lt 0 n) zero
    ∙ none_has c.args.blocks.now c.args.offset c.partition_point-count.result zero
    (IsPartitionPoint-from_clause (λ (b : GapAckBlock). leb b.start c.args.offset) c.args.blocks.now _ c.partition_point-count.ensures.partitioned
    (IsPartitionedBy-leb (λ b. b.start) _ _ c.requires.starts) (λ a r f k. search (rules, tests)))
