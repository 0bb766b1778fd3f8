use Rattle.std.proofs.Common.{◌≡◌, ℕ, false, []}
use Rattle.std.specs.BTreeMap.{btree_map_len}
use Rattle.sctp_util.specs.Serial.{at_or_before}
use Rattle.sctp_follow.specs.Forgetting.{Leaves}
use Rattle.sctp_follow.specs.Lanes.{held_at}
use Rattle.sctp_follow.proofs.lanes.Lane.lose_each.Given as goal

abbrev pub invariant-losing : goal.invariant-losing
invariant-losing l = record {
  later : (n : ℕ) → at_or_before n l.name.number ≡ false → held_at l.self n ≡ held_at l.initial.self n;
  next : l.self.next ≡ l.initial.self.next;
  notes : Leaves (held_at l.initial.self) (held_at l.self) [] l.initial.spots l.spots;
}

abbrev pub decreases-losing : goal.decreases-losing
decreases-losing l = btree_map_len l.self.parts
