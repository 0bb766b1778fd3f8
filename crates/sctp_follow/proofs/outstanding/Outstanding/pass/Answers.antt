use Rattle.std.proofs.Common.{rules, not}
use Rattle.std.proofs.lemmas.Map.Made.{filter_same_pairs}
use Rattle.sctp_follow.specs.Outstanding.{is_passed}
use Rattle.sctp_follow.proofs.outstanding.Outstanding.pass.Goals as goal

pub returns-clause-left : goal.returns-clause-left
returns-clause-left c =
    filter_same_pairs _ (λ e. not (is_passed c.args.tsn e.1)) _ (λ k v b w f' t. search rules) _ _ c.retain.ensures.filtered
