use Rattle.std.proofs.Common.{arith}
use Rattle.std.proofs.lemmas.Grind.{common_steps}
use Rattle.sctp_util.proofs.Walks.{walks_none, walks_next}
use Rattle.sctp_dissect.specs.Causes.{after_padded_cause, ShowsCause}
use Rattle.sctp_dissect.proofs.CauseWalk.{causes_join, left_after_cause, cause_some}
use Rattle.sctp_dissect.proofs.causes.dissect_causes.Goals as goal

pub walk-init : goal.walk-init
walk-init c = rw c.new-items.ensures.items (walks_none ShowsCause after_padded_cause c.args.raw)

pub advance-requires : goal.advance-requires
advance-requires c =
    let shows : ShowsCause c.walk.rest c.in-Some.item = rw c.in-Some.is at c.in_ok-item.ensures.some in
    (cause_some c.walk.rest c.in-Some.item c.len-length.result shows c.len-length.ensures.value).1

pub walk-smaller : goal.walk-smaller
walk-smaller c =
    let shows : ShowsCause c.walk.rest c.in-Some.item = rw c.in-Some.is at c.in_ok-item.ensures.some in
    let some = cause_some c.walk.rest c.in-Some.item c.len-length.result shows c.len-length.ensures.value in
    grind (arith, common_steps, some.0, some.1)

pub walk-preserved : goal.walk-preserved
walk-preserved c =
    let shows : ShowsCause c.walk.rest c.in-Some.item = rw c.in-Some.is at c.in_ok-item.ensures.some in
    let left = left_after_cause c.walk.rest c.in-Some.item c.len-length.result shows c.len-length.ensures.value in
    let next = walks_next ShowsCause after_padded_cause c.args.raw c.walk.items.items c.walk.rest c.in-Some.item c.walk.invariant shows in
    rw (c.in_ok-push.ensures.items, c.advance.ensures, left) next

pub returns-clause-joins : goal.returns-clause-joins
returns-clause-joins c = causes_join c.args.raw c.walk.items.items c.walk.rest c.walk.invariant
