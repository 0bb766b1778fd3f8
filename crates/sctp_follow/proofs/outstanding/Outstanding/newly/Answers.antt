use Rattle.std.proofs.Common.{rules, tests}
use Rattle.std.specs.BTreeMap.{values}
use Rattle.std.proofs.lemmas.Iterator.{items_from_collect}
use Rattle.std.proofs.lemmas.Iterator.Consumers.{YieldsList-from_rest, YieldsList-from_copied, YieldsList-from_filter}
use Rattle.sctp_follow.specs.Outstanding.{is_newly}
use Rattle.sctp_follow.proofs.outstanding.Outstanding.newly.Goals as goal

pub returns : goal.returns
returns c =
    items_from_collect _ c.collect.ensures.ran
    (YieldsList-from_filter _ (is_newly c.args.sack.now) (YieldsList-from_copied (YieldsList-from_rest (values c.args.self.now.chunks) (cc))) c.filter.ensures.closure
    (λ x r q k. search (rules, tests)))
