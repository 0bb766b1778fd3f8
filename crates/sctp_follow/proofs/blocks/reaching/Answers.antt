use Rattle.std.proofs.Common.{rules, ◌≡◌, ℕ, ◌+◌, ◌<◌, List, [], ◌∷◌, ◌++◌, max, length, get_or, arith, sym, subst}
use Rattle.std.proofs.lemmas.List.{get_or_default}
use Rattle.sctp_data.specs.declared.chunk.chunk_selective_ack.GapAckBlock.{GapAckBlock}
use Rattle.sctp_follow.proofs.Halving.{Reaching, reaching_none, reaching_more}
use Rattle.sctp_follow.proofs.blocks.reaching.Goals as goal

pub loop-block-init : goal.loop-block-init
loop-block-init c = subst (λ (done : List GapAckBlock). Reaching done c.args.blocks.now 0 0) (sym c.new-reaching.ensures.items) (reaching_none c.args.blocks.now)

pub loop-block-preserved : goal.loop-block-preserved
loop-block-preserved c =
    let blocks = c.args.blocks.now in
    let i = c.loop-block.block-index in
    let within : i < length blocks = omega (arith, c.loop-block-test.true) in
    let x : GapAckBlock = get_or blocks i record { start = 0; end = 0 } in
    let end : c.max-end.result ≡ max c.loop-block.end x.end = search rules in
    let items : c.push.new.self.items ≡ c.loop-block.reaching.items ++ record { start = x.start; end = c.max-end.result } ∷ [] = c.in_ok-push.ensures.items in
    let more = reaching_more c.loop-block.reaching.items blocks i c.loop-block.end x within (λ d. get_or_default blocks i d _ within) c.requires c.loop-block.invariant in
    subst (λ (done : List GapAckBlock). Reaching done blocks (i + 1) c.max-end.result) (sym items)
    (subst (λ (e : ℕ). Reaching (c.loop-block.reaching.items ++ record { start = x.start; end = e } ∷ []) blocks (i + 1) e) (sym end) more)
