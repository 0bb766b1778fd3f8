use Rattle.std.proofs.Common.{arith}
use Rattle.std.proofs.lemmas.Grind.{common_steps}
use Rattle.sctp_util.proofs.Walks.{walks_none, walks_next}
use Rattle.sctp_packets.specs.Packet.{after}
use Rattle.sctp_dissect.specs.Dissection.{Shows}
use Rattle.sctp_dissect.proofs.Walk.{left_after, taken_some}
use Rattle.sctp_dissect.proofs.dissection.read_items.Goals as goal

pub walk-init : goal.walk-init
walk-init c = rw c.new-items.ensures.items (walks_none Shows after c.args.raw)

pub advance-requires : goal.advance-requires
advance-requires c = (taken_some c.walk.rest c.in_ok-item.item c.len-length.result c.in_ok-item.ensures c.len-length.ensures.value).1

pub walk-smaller : goal.walk-smaller
walk-smaller c =
    let some = taken_some c.walk.rest c.in_ok-item.item c.len-length.result c.in_ok-item.ensures c.len-length.ensures.value in
    grind (arith, common_steps, some.0, some.1)

pub walk-preserved : goal.walk-preserved
walk-preserved c =
    let left = left_after c.walk.rest c.in_ok-item.item c.len-length.result c.in_ok-item.ensures c.len-length.ensures.value in
    let next = walks_next Shows after c.args.raw c.walk.items.items c.walk.rest c.in_ok-item.item c.walk.invariant c.in_ok-item.ensures in
    rw (c.in_ok-push.ensures.items, c.advance.ensures, left) next
