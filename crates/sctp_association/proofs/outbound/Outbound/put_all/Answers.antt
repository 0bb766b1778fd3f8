use Rattle.sctp_association.proofs.Congested.{news_skip, resends_skip, within_again, within_both, within_same, within_told}
use Rattle.std.proofs.Common.{None, arith, refl, ◌∙◌}
use Rattle.sctp_association.proofs.Idle.{both_wait, on_ok, on_ok_so}
use Rattle.sctp_association.proofs.Putting.{adds_then, skip_then, still_so}
use Rattle.sctp_association.proofs.Skips.{skip_first}
use Rattle.sctp_association.proofs.Fewer.{fewer_then}
use Rattle.sctp_association.proofs.outbound.Outbound.put_all.Goals as goal
use Rattle.sctp_association.proofs.Ordered as ordered
use Rattle.std.proofs.Common.{◌∷◌, []}

pub returns-in_err-put_lost-clause-made : goal.returns-in_err-put_lost-clause-made
returns-in_err-put_lost-clause-made c = still_so _ _ _ _ _ _ _ (resends_skip c.args.now _ _ _ _ _ c.put_lost.ensures.again)
    (skip_then _ _ _ _ _ _ _ _ c.put_skip.ensures.made c.put_lost.ensures.made)

pub returns-clause-made : goal.returns-clause-made
returns-clause-made c = still_so _ _ _ _ _ _ _
    (news_skip c.args.now _ _ _ c.put_new.ensures.within ∙ resends_skip c.args.now _ _ _ _ _ c.put_lost.ensures.again)
    (skip_then _ _ _ _ _ _ _ _ (skip_then _ _ _ _ _ _ _ _ c.put_skip.ensures.made c.put_lost.ensures.made) c.put_new.ensures.made)

pub returns-in_err-put_skip-clause-within : goal.returns-in_err-put_skip-clause-within
returns-in_err-put_skip-clause-within c = within_told c.args.now c.args.self.now c.put_skip.new.self c.put_skip.new.self c.put_skip.ensures.rest
    (within_same c.args.now c.put_skip.new.self c.put_skip.new.self refl)

pub returns-in_err-put_lost-clause-within : goal.returns-in_err-put_lost-clause-within
returns-in_err-put_lost-clause-within c =
    within_told c.args.now c.args.self.now c.put_skip.new.self c.put_lost.new.self c.put_skip.ensures.rest
    (within_again c.args.now c.put_skip.new.self c.put_lost.new.self c.put_lost.ensures.again c.put_lost.ensures.counts.along.rto)

pub returns-clause-within : goal.returns-clause-within
returns-clause-within c =
    within_told c.args.now c.args.self.now c.put_skip.new.self c.put_new.new.self c.put_skip.ensures.rest
    (within_both c.args.now c.put_skip.new.self c.put_lost.new.self c.put_new.new.self c.put_lost.ensures.again c.put_lost.ensures.counts.along.rto
    c.put_new.ensures.within c.put_new.ensures.counts.rto)

pub returns-clause-idle : goal.returns-clause-idle
returns-clause-idle c = on_ok_so c.put_new.result (λ held head short.
    let skip = c.put_skip.ensures in
    let lost = c.put_lost.ensures in
    let rest = c.put_new.ensures in
    both_wait c.args.packet.now.limit _ _ c.put_skip.new.self c.put_lost.new.self c.put_new.new.self
    (c.in_ok-put_lost.ensures.idle (omega (arith, head, skip.grows)) (omega (arith, short, rest.grows)))
    (held (omega (arith, head, skip.grows, lost.grows)) short)
    (omega (arith, head, short, skip.grows, lost.grows, rest.grows, skip.limit))
    (omega (arith, head, short, skip.grows, lost.grows, rest.grows, skip.limit, lost.limit))) c.put_new.ensures.idle

-- ## What can still leave

pub returns-in_err-put_lost-clause-fewer : goal.returns-in_err-put_lost-clause-fewer
returns-in_err-put_lost-clause-fewer c = fewer_then _ _ _ _ _ _ c.put_skip.ensures.fewer c.put_lost.ensures.fewer

pub returns-clause-fewer : goal.returns-clause-fewer
returns-clause-fewer c = fewer_then _ _ _ _ _ _ (fewer_then _ _ _ _ _ _ c.put_skip.ensures.fewer c.put_lost.ensures.fewer) c.put_new.ensures.fewer

-- ## Whether a FORWARD-TSN is due

pub returns-clause-skip : goal.returns-clause-skip
returns-clause-skip c = on_ok c.put_new.result (λ head short.
    let lost = c.put_lost.ensures in
    let rest = c.put_new.ensures in
    news_skip c.args.now _ _ _ rest.within ∙ resends_skip c.args.now _ _ _ _ _ lost.again
    ∙ c.in_ok-put_skip.ensures.skip head (omega (arith, short, lost.grows, rest.grows)))

pub returns-in_err-put_lost-clause-leaves : goal.returns-in_err-put_lost-clause-leaves
returns-in_err-put_lost-clause-leaves c head =
    let lost = c.put_lost.ensures in
    skip_first c.args.packet.now.limit c.args.self.now.sender c.args.self.now.is_skip_due c.put_skip.new.self.is_skip_due c.put_lost.new.self.is_skip_due
    _ _ _ _ (c.put_skip.ensures.leaves head) (lost.made None).added (resends_skip c.args.now _ _ _ _ _ lost.again)

pub returns-clause-leaves : goal.returns-clause-leaves
returns-clause-leaves c head =
    let lost = c.put_lost.ensures in
    let rest = c.put_new.ensures in
    skip_first c.args.packet.now.limit c.args.self.now.sender c.args.self.now.is_skip_due c.put_skip.new.self.is_skip_due c.put_new.new.self.is_skip_due
    _ _ _ _ (c.put_skip.ensures.leaves head) (adds_then _ _ _ _ _ (lost.made None).added (rest.made None).added)
    (news_skip c.args.now _ _ _ rest.within ∙ resends_skip c.args.now _ _ _ _ _ lost.again)

-- ## In their order

pub returns-in_err-put_skip-clause-order : goal.returns-in_err-put_skip-clause-order
returns-in_err-put_skip-clause-order c = ordered.order_data (192 ∷ []) _ _ c.put_skip.ensures.order

pub returns-in_err-put_lost-clause-order : goal.returns-in_err-put_lost-clause-order
returns-in_err-put_lost-clause-order c =
    let lost = c.put_lost.ensures.made None in
    ordered.order_behind (192 ∷ []) _ _ _ lost.chunks (ordered.order_data (192 ∷ []) _ _ c.put_skip.ensures.order) lost.added lost.plain

pub returns-clause-order : goal.returns-clause-order
returns-clause-order c =
    let lost = c.put_lost.ensures.made None in
    let rest = c.put_new.ensures.made None in
    ordered.order_behind (192 ∷ []) _ _ _ rest.chunks
    (ordered.order_behind (192 ∷ []) _ _ _ lost.chunks (ordered.order_data (192 ∷ []) _ _ c.put_skip.ensures.order) lost.added lost.plain)
    rest.added rest.plain
