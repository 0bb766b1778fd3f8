use Rattle.std.proofs.Common.{rules, tests}
use Rattle.std.proofs.lemmas.Iterator.{YieldsList-from_slice}
use Rattle.std.proofs.lemmas.Iterator.Search.{any_from_yields_List}
use Rattle.sctp_show.specs.Choice.{is_met_by}
use Rattle.sctp_show.proofs.choice.Either.is_met_by.Goals as goal

pub returns : goal.returns
returns c =
    any_from_yields_List (is_met_by c.args.scene.now c.args.seen.now) _ _ _ c.any.ensures.ran (YieldsList-from_slice c.args.self.now.terms.items cc) (λ x b q k. search (rules, tests))
