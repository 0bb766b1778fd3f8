use Rattle.std.proofs.Common.{List, rules, sym, subst, ◌∙◌}
use Rattle.std.specs.List.Sorted.{IsNonDecreasingBy, IsPermutation}
use Rattle.std.proofs.lemmas.List.Sorted.{IsNonDecreasingBy-from_sort_by_key, list_any-IsPermutation}
use Rattle.std.proofs.lemmas.Result.{IfOk-weaker}
use Rattle.sctp_data.specs.declared.chunk.chunk_selective_ack.GapAckBlock.{GapAckBlock}
use Rattle.sctp_follow.specs.Outstanding.{is_in_block}
use Rattle.sctp_follow.proofs.blocks.ascending.Goals as goal

pub reaching-requires : goal.reaching-requires
reaching-requires c =
    subst (λ (xs : List GapAckBlock). IsNonDecreasingBy (λ b. b.start) xs) (sym c.deref.ensures.value)
    (IsNonDecreasingBy-from_sort_by_key (λ (b : GapAckBlock). b.start) c.sort_by_key.new.self.items c.in_ok-sort_by_key.ensures.sorted (λ a r f k. search rules))

pub returns-clause-same : goal.returns-clause-same
returns-clause-same c =
    let sorted : IsPermutation c.args.blocks.now c.deref.result.now =
    subst (λ (xs : List GapAckBlock). IsPermutation c.args.blocks.now xs) (sym c.deref.ensures.value)
    (subst (λ (xs : List GapAckBlock). IsPermutation xs c.sort_by_key.new.self.items) c.in_ok-sorted.ensures.items c.sort_by_key.ensures.permutation) in
    IfOk-weaker c.reaching.result _ _
    (λ v same offset. same offset ∙ sym (list_any-IsPermutation (is_in_block offset) c.args.blocks.now c.deref.result.now sorted)) c.reaching.ensures.same
