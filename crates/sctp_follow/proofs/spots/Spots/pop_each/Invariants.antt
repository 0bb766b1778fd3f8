use Rattle.std.proofs.Common.{◌≡◌, ℕ, ◌<◌, ◌⊎◌, true, false, length, get_or, Some, IsSome}
use Rattle.std.specs.List.{All, AllPairs, Contains}
use Rattle.std.specs.BTreeMap.{btree_map_len}
use Rattle.sctp_util.specs.Serial.{at_or_before, comes_before}
use Rattle.sctp_follow.specs.Spots.{at}
use Rattle.sctp_follow.specs.declared.spots.Spot.{Spot}
use Rattle.sctp_follow.proofs.spots.Spots.pop_each.Given as goal

abbrev pub invariant-popping : goal.invariant-popping
invariant-popping l = record {
  only : All (λ e. (at l.initial.self e.0 ≡ Some e.1) × (at_or_before e.0 l.tsn ≡ true)) l.due.items;
  all : (t : ℕ) (s : Spot) → t < 4294967296 → at l.initial.self t ≡ Some s → at_or_before t l.tsn ≡ true
      → Contains l.due.items (t, s) ⊎ (at l.self t ≡ Some s);
  was : (t : ℕ) (s : Spot) → at l.self t ≡ Some s → at l.initial.self t ≡ Some s;
  stay : (t : ℕ) → at_or_before t l.tsn ≡ false → at l.self t ≡ at l.initial.self t;
  order : AllPairs (λ e f. comes_before e.0 f.0 ≡ true) l.due.items;
  later : (k : ℕ) (d : ℕ × Spot) → k < length l.due.items → (t : ℕ) → t < 4294967296 → IsSome (at l.self t) → at_or_before t l.tsn ≡ true
      → comes_before (get_or l.due.items k d).0 t ≡ true;
}

abbrev pub decreases-popping : goal.decreases-popping
decreases-popping l = btree_map_len l.self.by_tsn
