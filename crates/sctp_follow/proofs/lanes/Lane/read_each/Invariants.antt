use Rattle.std.proofs.Common.{◌≡◌, Some}
use Rattle.std.specs.BTreeMap.{btree_map_len}
use Rattle.sctp_follow.specs.Lanes.{Reads}
use Rattle.sctp_follow.proofs.lanes.Lane.read_each.Given as goal

abbrev pub invariant-reading : goal.invariant-reading
invariant-reading l = record {
  reads : Reads l.stream l.messages.items l.initial.self l.self;
  next : l.self.next ≡ Some l.number;
}

abbrev pub decreases-reading : goal.decreases-reading
decreases-reading l = btree_map_len l.self.parts
