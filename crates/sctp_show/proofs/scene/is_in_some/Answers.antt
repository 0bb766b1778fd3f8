use Rattle.std.proofs.Common.{rules, tests}
use Rattle.std.proofs.lemmas.Iterator.{YieldsList-from_slice}
use Rattle.std.proofs.lemmas.Iterator.Search.{any_from_yields_List}
use Rattle.sctp_show.specs.Scene.{is_in_span}
use Rattle.sctp_show.proofs.scene.is_in_some.Goals as goal

pub returns : goal.returns
returns c =
    any_from_yields_List (is_in_span c.args.number) _ _ _ c.any.ensures.ran (YieldsList-from_slice c.args.spans.now cc) (λ x b q k. search (rules, tests))
