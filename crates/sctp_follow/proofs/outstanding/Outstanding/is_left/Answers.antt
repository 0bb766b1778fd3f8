use Rattle.std.proofs.Common.{rules, tests}
use Rattle.std.specs.BTreeMap.{values}
use Rattle.std.proofs.lemmas.Iterator.Consumers.{YieldsList-from_rest}
use Rattle.std.proofs.lemmas.Iterator.Search.{any_from_yields_List}
use Rattle.sctp_follow.specs.Outstanding.{is_left}
use Rattle.sctp_follow.proofs.outstanding.Outstanding.is_left.Goals as goal

pub returns : goal.returns
returns c =
    any_from_yields_List is_left _ _ _ c.any.ensures.ran (YieldsList-from_rest (values c.args.self.now.chunks) c.values.ensures.rest) (λ x b q k. search (rules, tests))
