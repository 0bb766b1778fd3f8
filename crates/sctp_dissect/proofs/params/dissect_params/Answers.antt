use Rattle.std.proofs.Common.{arith}
use Rattle.std.proofs.lemmas.Grind.{common_steps}
use Rattle.sctp_util.proofs.Walks.{walks_none, walks_next}
use Rattle.sctp_params.specs.ParamFraming.{after_param}
use Rattle.sctp_dissect.specs.Params.{ShowsParam}
use Rattle.sctp_dissect.proofs.ParamWalk.{params_join, left_after_param, param_some}
use Rattle.sctp_dissect.proofs.params.dissect_params.Goals as goal

pub walk-init : goal.walk-init
walk-init c = rw c.new-items.ensures.items (walks_none ShowsParam after_param c.args.raw)

pub advance-requires : goal.advance-requires
advance-requires c = (param_some c.walk.rest c.in_ok-item.item c.len-length.result c.in_ok-item.ensures c.len-length.ensures.value).1

pub walk-smaller : goal.walk-smaller
walk-smaller c =
    let some = param_some c.walk.rest c.in_ok-item.item c.len-length.result c.in_ok-item.ensures c.len-length.ensures.value in
    grind (arith, common_steps, some.0, some.1)

pub walk-preserved : goal.walk-preserved
walk-preserved c =
    let left = left_after_param c.walk.rest c.in_ok-item.item c.len-length.result c.in_ok-item.ensures c.len-length.ensures.value in
    let next = walks_next ShowsParam after_param c.args.raw c.walk.items.items c.walk.rest c.in_ok-item.item c.walk.invariant c.in_ok-item.ensures in
    rw (c.in_ok-push.ensures.items, c.advance.ensures, left) next

pub returns-clause-joins : goal.returns-clause-joins
returns-clause-joins c = params_join c.args.raw c.walk.items.items c.walk.rest c.walk.invariant
