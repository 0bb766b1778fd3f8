use Rattle.std.proofs.Common.{rules}
use Rattle.std.proofs.lemmas.Map.Made.{map_same_pairs}
use Rattle.sctp_follow.specs.Channels.{stream_closed}
use Rattle.sctp_follow.proofs.channels.Channels.close_all.Goals as goal

pub returns : goal.returns
returns c =
    map_same_pairs _ (stream_closed c.args.closing) _ (λ k v b w f' t. search rules) _ _ c.retain.ensures.filtered
