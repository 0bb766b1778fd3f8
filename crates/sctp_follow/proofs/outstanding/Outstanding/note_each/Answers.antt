use Rattle.std.proofs.Common.{rules}
use Rattle.std.proofs.lemmas.Map.Made.{map_same_pairs}
use Rattle.sctp_follow.specs.Outstanding.{after_sack}
use Rattle.sctp_follow.proofs.outstanding.Outstanding.note_each.Goals as goal

pub returns-clause-noted : goal.returns-clause-noted
returns-clause-noted c =
    map_same_pairs _ (after_sack c.args.sack.now c.args.newly.now c.args.arrived) _ (λ k v b w f' t. search rules) _ _ c.retain.ensures.filtered
