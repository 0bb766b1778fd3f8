use Rattle.std.proofs.Common.{rules, tests}
use Rattle.std.proofs.lemmas.Iterator.{YieldsList-from_slice}
use Rattle.std.proofs.lemmas.Iterator.Search.{all_from_yields_List}
use Rattle.sctp_show.specs.Choice.{has_one}
use Rattle.sctp_show.proofs.choice.Choice.is_met_by.Goals as goal

pub returns : goal.returns
returns c =
    all_from_yields_List (has_one c.args.scene.now c.args.seen.now) _ _ _ c.all.ensures.ran (YieldsList-from_slice c.args.self.now.any.items cc) (λ x b q k. search (rules, tests))
