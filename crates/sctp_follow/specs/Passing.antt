-- What is read and dropped of messages of which fragments will not come any more, since their TSNs were passed (RFC 8260 2.3.1).
use Rattle.std.specs.Prelude.{◌≡◌, ℕ, ◌<◌, ◌+◌, ◌-◌, ◌%◌, Bool, true, false, ◌&&◌, not, nat_lt, nat_eq, is_some, if◌then◌else◌, List, [], ◌∷◌, ◌++◌, ◌==◌, Option, Some, None}
use Rattle.std.specs.List.{All, AllPairs, Any}
use Rattle.std.specs.BTreeMap as trees
use Rattle.std.specs.BTreeMap.{BTreeMap}
use Rattle.std.specs.Ordering.{nat_cmp}
use Rattle.sctp_util.specs.Serial.{comes_before, at_or_before}
use Rattle.sctp_follow.specs.Interleave.{IsMessage}
use Rattle.sctp_follow.specs.Lanes.{held_at, came, ordered, passed_next, Reads, NoneNext, key_of}
use Rattle.sctp_follow.specs.Spots.{AreDue}
use Rattle.sctp_follow.specs.declared.interleave.Whole.{Whole}
use Rattle.sctp_follow.specs.declared.lanes.Part.{Part}
use Rattle.sctp_follow.specs.declared.lanes.Lane.{Lane}
use Rattle.sctp_follow.specs.declared.lanes.Interleaved.{Interleaved}
use Rattle.sctp_follow.specs.declared.spots.Spot.{Spot}

-- an ordered message that was held is read: it is one of those up to a number, and its fragments are all that came of it
abbrev pub IsEnded : ℕ → ℕ → Lane → Whole → Type 0
IsEnded stream last old m =
    (m.name ≡ ordered stream m.name.number) × (at_or_before m.name.number last ≡ true)
    × (m.fragments.entries ≡ held_at old m.name.number)

-- the ordered messages up to a number are over: those that are complete are read, in order, and the others are dropped
pub record Ends (stream last : ℕ) (messages : List Whole) (old new : Lane) : Type 0 where
  pub only : All (IsEnded stream last old) messages
  pub all : (n : ℕ) → n < 4294967296 → at_or_before n last ≡ true → IsMessage (came old n)
      → Any (λ m. m.name.number ≡ n) messages
  pub order : AllPairs (λ m l. comes_before m.name.number l.name.number ≡ true) messages
  pub gone : (n : ℕ) → n < 4294967296
      → held_at new n ≡ (if at_or_before n last then [] else held_at old n)
  pub next : new.next ≡ passed_next old.next last

-- before a fragment of a message another one is missing
abbrev pub lacks_before : Option Part → ℕ → Bool
lacks_before None place = false
lacks_before (Some part) place =
    nat_lt 0 place && not (is_some (trees.get nat_cmp part.fragments (place - 1)))

-- what is held of a message is dropped, and it is passed
pub record IsLost (number : ℕ) (old new : Lane) : Type 0 where
  pub held : (n : ℕ) → held_at new n ≡ (if n == number then [] else held_at old n)
  pub next : new.next ≡ passed_next old.next number

-- the number before another
abbrev pub before : ℕ → ℕ
before number = (number + 4294967295) % 4294967296

-- A fragment of a message that is held is looked at, where no TSN before its own one will come. Ordered messages before its message are over. If
-- the fragment before it is missing, it will not come, and the message is dropped. Then the ordered ones from the next on are read that are complete.
pub record Sees (spot : Spot) (messages : List Whole) (old new : Lane) : Type 0 where
  pub ended : List Whole
  pub mid : Lane
  pub unordered : spot.name.unordered ≡ true → (ended ≡ []) × (mid ≡ old)
  pub ordered : spot.name.unordered ≡ false
      → Ends spot.name.stream (before spot.name.number) ended old mid
  pub left : Lane
  pub lost : lacks_before (trees.get nat_cmp mid.parts spot.name.number) spot.place ≡ true
      → IsLost spot.name.number mid left
  pub kept : lacks_before (trees.get nat_cmp mid.parts spot.name.number) spot.place ≡ false
      → left ≡ mid
  pub next : List Whole
  pub reads : Reads spot.name.stream next left new
  pub none : NoneNext new
  pub are : messages ≡ ended ++ next

-- of a message that is not held nothing changes
pub record Looks (spot : Spot) (messages : List Whole) (old new : Lane) : Type 0 where
  pub held : is_some (trees.get nat_cmp old.parts spot.name.number) ≡ true
      → Sees spot messages old new
  pub not_held : is_some (trees.get nat_cmp old.parts spot.name.number) ≡ false
      → (messages ≡ []) × (new ≡ old)

-- the lane of a fragment, which it may have no more
abbrev pub LooksIn : Spot → List Whole → Option Lane → Option Lane → Type 0
LooksIn spot messages None new = (messages ≡ []) × (new ≡ None)
LooksIn spot messages (Some old) new =
    (after : Lane) × (new ≡ Some after) × Looks spot messages old after

pub record LooksAt (spot : Spot) (messages : List Whole) (old new : BTreeMap ℕ Lane) : Type 0 where
  pub own : LooksIn spot messages (trees.get nat_cmp old (key_of spot.name))
      (trees.get nat_cmp new (key_of spot.name))
  pub others : (k : ℕ) → nat_eq k (key_of spot.name) ≡ false
      → trees.get nat_cmp new k ≡ trees.get nat_cmp old k

-- fragments are looked at, one after the other
unfoldable pub LooksAtEach : List (ℕ × Spot) → List Whole → BTreeMap ℕ Lane → BTreeMap ℕ Lane → Type 0
LooksAtEach [] messages old new = (messages ≡ []) × (new ≡ old)
LooksAtEach (e ∷ es) messages old new =
    (mid : BTreeMap ℕ Lane) × (first : List Whole) × (rest : List Whole)
    × LooksAt e.1 first old mid × LooksAtEach es rest mid new × (messages ≡ first ++ rest)

-- TSNs up to this one are passed: each fragment up to right behind it that was not looked at is, the one of the first TSN first
pub record Passes (tsn : ℕ) (messages : List Whole) (old new : Interleaved) : Type 0 where
  pub due : List (ℕ × Spot)
  pub are : (mid : _) × AreDue ((tsn + 1) % 4294967296) due old.spots mid
  pub look : LooksAtEach due messages old.lanes new.lanes
