use Rattle.std.proofs.Common.{rules, tests}
use Rattle.std.proofs.lemmas.Iterator.{YieldsList-from_slice}
use Rattle.std.proofs.lemmas.Iterator.Search.{any_from_yields_List}
use Rattle.sctp_follow.specs.Outstanding.{is_behind}
use Rattle.sctp_follow.proofs.outstanding.has_behind.Goals as goal

pub returns : goal.returns
returns c =
    any_from_yields_List (is_behind c.args.sent.now) _ _ _ c.any.ensures.ran (YieldsList-from_slice c.args.others.now cc) (λ x b q k. search (rules, tests))
