-- Which messages are read of the fragments that came (RFC 8260 2.2.3).
use Rattle.std.specs.Prelude.{◌≡◌, ℕ, ◌<◌, ◌+◌, ◌*◌, ◌%◌, Bool, true, false, if◌then◌else◌, List, [], ◌∷◌, map, ◌==◌, Option, Some, None}
use Rattle.std.specs.BTreeMap as trees
use Rattle.std.specs.Ordering.{nat_cmp}
use Rattle.sctp_util.specs.Serial.{comes_before, at_or_before}
use Rattle.sctp_follow.specs.Interleave.{IsMessage}
use Rattle.sctp_follow.specs.declared.interleave.Fragment.{Fragment}
use Rattle.sctp_follow.specs.declared.interleave.Name.{Name}
use Rattle.sctp_follow.specs.declared.interleave.Whole.{Whole}
use Rattle.sctp_follow.specs.declared.lanes.Part.{Part}
use Rattle.sctp_follow.specs.declared.lanes.Lane.{Lane}

-- the fragments of a message that are held, by their places
abbrev pub held : Option Part → List (ℕ × Fragment)
held None = []
held (Some p) = p.fragments.entries

abbrev pub held_at : Lane → ℕ → List (ℕ × Fragment)
held_at lane number = held (trees.get nat_cmp lane.parts number)

abbrev pub came : Lane → ℕ → List Fragment
came lane number = map (λ e. e.1) (held_at lane number)

-- a fragment comes: where one of its place came before, the later one stays
pub record Comes (number : ℕ) (f : Fragment) (old new : Lane) : Type 0 where
  pub held : (n : ℕ) → held_at new n
      ≡ (if n == number then trees.insert_entry nat_cmp (held_at old n) f.place f else held_at old n)
  pub next : new.next ≡ old.next

-- a message is read: its fragments are all that came of it, and leave
pub record IsRead (name : Name) (m : Whole) (old new : Lane) : Type 0 where
  pub called : m.name ≡ name
  pub fragments : m.fragments.entries ≡ held_at old name.number
  pub left : (n : ℕ) → held_at new n ≡ (if n == name.number then [] else held_at old n)

abbrev pub ordered : ℕ → ℕ → Name
ordered stream number = record { stream = stream; unordered = false; number = number }

-- an ordered message is read: it is the next one, and then the number behind it is next
pub record IsNext (stream : ℕ) (m : Whole) (old new : Lane) : Type 0 where
  pub number : ℕ
  pub was : old.next ≡ Some number
  pub read : IsRead (ordered stream number) m old new
  pub next : new.next ≡ Some ((number + 1) % 4294967296)

-- ordered messages are read, one after the other
unfoldable pub Reads : ℕ → List Whole → Lane → Lane → Type 0
Reads stream [] old new = new ≡ old
Reads stream (m ∷ ms) old new = (mid : Lane) × IsNext stream m old mid × Reads stream ms mid new

-- the next ordered message is not complete
abbrev pub NoneNext : Lane → Type 0
NoneNext lane = (number : ℕ) → lane.next ≡ Some number → IsMessage (came lane number) → ⊥

-- a message is read if it is complete, whatever is next
abbrev pub ReadsOne : Name → List Whole → Lane → Lane → Type 0
ReadsOne name [] old new = (IsMessage (came old name.number) → ⊥) × (new ≡ old)
ReadsOne name (m ∷ ms) old new = IsRead name m old new × (new.next ≡ old.next) × (ms ≡ [])

-- an ordered message was read or passed: its number lies before the next one
abbrev pub is_passed : Option ℕ → ℕ → Bool
is_passed None number = false
is_passed (Some next) number = comes_before number next

-- what is read once a fragment came: an unordered message if it is complete, or the ordered ones from the next on that are
pub record ReadsAll (name : Name) (messages : List Whole) (old new : Lane) : Type 0 where
  pub one : name.unordered ≡ true → ReadsOne name messages old new
  pub each : name.unordered ≡ false → Reads name.stream messages old new × NoneNext new

-- a fragment of a message comes, and what can be read is read
pub record Takes (name : Name) (f : Fragment) (messages : List Whole) (old new : Lane) : Type 0 where
  pub mid : Lane
  pub comes : Comes name.number f old mid
  pub read : ReadsAll name messages mid new

-- where the messages up to a number are passed, the number behind it is next, unless a later one was
abbrev pub passed_next : Option ℕ → ℕ → Option ℕ
passed_next None number = None
passed_next (Some next) number =
    Some (if at_or_before next number then (number + 1) % 4294967296 else next)

-- the messages up to one are passed: what is held of them is dropped, of others it stays, and then the ordered ones from the next on are read that are
-- complete
pub record Skips (name : Name) (messages : List Whole) (old new : Lane) : Type 0 where
  pub mid : Lane
  pub gone : (n : ℕ) → n < 4294967296
      → held_at mid n ≡ (if at_or_before n name.number then [] else held_at old n)
  pub next : mid.next ≡ passed_next old.next name.number
  pub read : Reads name.stream messages mid new
  pub none : NoneNext new

-- ---- whose messages these are

-- the key of the ordered messages of a stream, or of its unordered ones
abbrev pub key_of : Name → ℕ
key_of name = name.stream * 2 + (if name.unordered then 1 else 0)

-- the first number of ordered messages: 0, or, where the beginning was not captured, that of the first message of which the beginning may come
abbrev pub first_next : Bool → Name → ℕ → Option ℕ
first_next is_whole name place =
    if name.unordered then None
    else if is_whole then Some 0
    else Some ((name.number + (if place == 0 then 0 else 1)) % 4294967296)

-- what is known before a fragment comes: of the first one nothing is held
abbrev pub Knows : Option ℕ → Option Lane → Lane → Type 0
Knows next None lane = (lane.next ≡ next) × ((n : ℕ) → held_at lane n ≡ [])
Knows next (Some known) lane = lane ≡ known

-- a fragment of a message that was read or passed changes nothing, and there is no answer; else it is taken
abbrev pub Becomes : Name → Fragment → Option (List Whole) → Lane → Lane → Type 0
Becomes name f None old new = (is_passed old.next name.number ≡ true) × (new ≡ old)
Becomes name f (Some messages) old new =
    (is_passed old.next name.number ≡ false) × Takes name f messages old new

pub record Answers (is_whole : Bool) (name : Name) (f : Fragment) (answer : Option (List Whole))
    (old new : Option Lane) : Type 0 where
  pub before : Lane
  pub after : Lane
  pub known : Knows (first_next is_whole name f.place) old before
  pub becomes : Becomes name f answer before after
  pub is : new ≡ Some after

-- the messages of a stream up to one are passed, which an I-FORWARD-TSN names
pub record IsSkipped (is_whole : Bool) (name : Name) (messages : List Whole) (old new : Option Lane)
    : Type 0 where
  pub before : Lane
  pub after : Lane
  pub known : Knows (first_next is_whole name 1) old before
  pub skips : Skips name messages before after
  pub is : new ≡ Some after
