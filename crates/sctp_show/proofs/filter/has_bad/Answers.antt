use Rattle.std.proofs.Common.{rules, tests}
use Rattle.std.proofs.lemmas.Iterator.{YieldsList-from_slice}
use Rattle.std.proofs.lemmas.Iterator.Search.{any_from_yields_List}
use Rattle.sctp_show.specs.Filter.{is_bad}
use Rattle.sctp_show.proofs.filter.has_bad.Goals as goal

pub returns : goal.returns
returns c =
    any_from_yields_List (is_bad c.args.missing) _ _ _ c.any.ensures.ran (YieldsList-from_slice c.args.items.now cc) (λ x b q k. search (rules, tests))
