use Rattle.std.proofs.Common.{rules, tests}
use Rattle.std.proofs.lemmas.Iterator.{YieldsList-from_slice}
use Rattle.std.proofs.lemmas.Iterator.Search.{any_from_yields_List}
use Rattle.sctp_show.specs.Filter.{is_in_range}
use Rattle.sctp_show.proofs.filter.is_in_some.Goals as goal

pub returns : goal.returns
returns c =
    any_from_yields_List (is_in_range c.args.tsn) _ _ _ c.any.ensures.ran (YieldsList-from_slice c.args.ranges.now cc) (λ x b q k. search (rules, tests))
