use Rattle.sctp_receiver.proofs.Names.{◌≡◌, ◌+◌, ◌≤◌, sum_by, cost_within, skip_forwarded}
use Rattle.sctp_receiver.specs.SkipCosts.{walks_by_place}
use Rattle.sctp_receiver.proofs.SkipCosts.{spent, total}
use Rattle.sctp_receiver.proofs.Listing.{any, incomplete, outside}
use Rattle.sctp_receiver.proofs.Forwarding.{Going}
use Rattle.sctp_receiver.proofs.receiver.visit.forward_each.Given as goal

abbrev pub invariant-loop-left : goal.invariant-loop-left
invariant-loop-left l = record {
  going : Going (skip_forwarded l.skip l.tsn) any incomplete outside l.initial.visits l.initial.streams.items l.left l.visits l.streams.items;
  few : l.left ≤ l.initial.visits.count;
  cost : l.cost ≡ sum_by cost_within l.streams.items;
  turns : l.turns + l.left ≡ l.initial.turns + l.initial.visits.count;
  not_back : l.initial.skips ≤ l.skips;
  walk : l.skips + spent l.left l.initial.visits.order (walks_by_place l.skip l.tsn l.initial.visits.spans l.initial.streams.items)
      ≤ l.initial.skips + total (walks_by_place l.skip l.tsn l.initial.visits.spans l.initial.streams.items);
}

abbrev pub decreases-loop-left : goal.decreases-loop-left
decreases-loop-left l = l.left
