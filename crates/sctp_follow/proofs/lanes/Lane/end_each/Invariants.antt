use Rattle.std.proofs.Common.{◌≡◌, ℕ, ◌<◌, ◌⊎◌, true, false, [], length, get_or}
use Rattle.std.specs.List.{All, AllPairs, Any}
use Rattle.std.specs.BTreeMap.{btree_map_len}
use Rattle.sctp_util.specs.Serial.{at_or_before, comes_before}
use Rattle.sctp_follow.specs.Forgetting.{Leaves}
use Rattle.sctp_follow.specs.Interleave.{IsMessage}
use Rattle.sctp_follow.specs.Lanes.{held_at, came}
use Rattle.sctp_follow.specs.Passing.{IsEnded}
use Rattle.sctp_follow.specs.declared.interleave.Whole.{Whole}
use Rattle.sctp_follow.proofs.lanes.Lane.end_each.Given as goal

abbrev pub invariant-ending : goal.invariant-ending
invariant-ending l = record {
  only : All (IsEnded l.stream l.last l.initial.self) l.messages.items;
  all : (n : ℕ) → n < 4294967296 → at_or_before n l.last ≡ true → IsMessage (came l.initial.self n)
      → Any (λ m. m.name.number ≡ n) l.messages.items ⊎ (held_at l.self n ≡ held_at l.initial.self n);
  still : (n : ℕ) → (held_at l.self n ≡ held_at l.initial.self n) ⊎ (held_at l.self n ≡ []);
  stay : (n : ℕ) → at_or_before n l.last ≡ false → held_at l.self n ≡ held_at l.initial.self n;
  order : AllPairs (λ m k. comes_before m.name.number k.name.number ≡ true) l.messages.items;
  later : (k : ℕ) (d : Whole) → k < length l.messages.items → (n : ℕ) → n < 4294967296 → 0 < length (held_at l.self n)
      → at_or_before n l.last ≡ true → comes_before (get_or l.messages.items k d).name.number n ≡ true;
  next : l.self.next ≡ l.initial.self.next;
  notes : Leaves (held_at l.initial.self) (held_at l.self) l.messages.items l.initial.spots l.spots;
}

abbrev pub decreases-ending : goal.decreases-ending
decreases-ending l = btree_map_len l.self.parts
