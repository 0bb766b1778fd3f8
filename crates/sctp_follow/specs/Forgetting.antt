-- What stays noted of fragments where messages leave that were held.
use Rattle.std.specs.Prelude.{◌≡◌, ℕ, ◌<◌, ◌⊎◌, Bool, true, false, List, [], map, Option, None, Some}
use Rattle.std.specs.List.{All}
use Rattle.std.specs.BTreeMap as trees
use Rattle.std.specs.BTreeMap.{BTreeMap}
use Rattle.std.specs.Ordering.{nat_cmp}
use Rattle.sctp_follow.specs.Lanes.{held_at}
use Rattle.sctp_follow.specs.Spots.{at, is_of, is_of_any}
use Rattle.sctp_follow.specs.declared.interleave.Fragment.{Fragment}
use Rattle.sctp_follow.specs.declared.interleave.Whole.{Whole}
use Rattle.sctp_follow.specs.declared.lanes.Lane.{Lane}
use Rattle.sctp_follow.specs.declared.spots.Spots.{Spots}

-- the fragments of a message that are held: of a lane, by its number, and of all lanes, by the key of its lane and by its number
abbrev pub held_in : Option Lane → ℕ → List (ℕ × Fragment)
held_in None number = []
held_in (Some lane) number = held_at lane number

abbrev pub held_of : BTreeMap ℕ Lane → ℕ × ℕ → List (ℕ × Fragment)
held_of lanes message = held_in (trees.get nat_cmp lanes message.0) message.1

-- a TSN is that of one of these fragments
abbrev pub has_tsn : List (ℕ × Fragment) → ℕ → Bool
has_tsn held tsn = is_of (map (λ e. e.1) held) tsn

-- What is noted where messages leave. No TSN is that is due. None is of a fragment that was held of a message of which nothing is held now. What else was
-- noted is, as it was.
pub record Forgets {K : Type 0} (is_due : ℕ → Bool) (old new : K → List (ℕ × Fragment)) (was is : Spots)
    : Type 0 where
  pub due : (t : ℕ) → t < 4294967296 → is_due t ≡ true → at is t ≡ None
  pub gone : (t : ℕ) (k : K) → has_tsn (old k) t ≡ true → new k ≡ [] → at is t ≡ None
  pub stay : (t : ℕ) → is_due t ≡ false → ((k : K) → has_tsn (old k) t ≡ true → new k ≡ old k)
      → at is t ≡ at was t

-- nothing is due
abbrev pub none_due : ℕ → Bool
none_due tsn = false

-- the same, before the fragments of messages that are read are forgotten. A message leaves as a whole, or stays
pub record Leaves {K : Type 0} (old new : K → List (ℕ × Fragment)) (messages : List Whole)
    (was is : Spots) : Type 0 where
  pub still : (k : K) → (new k ≡ old k) ⊎ (new k ≡ [])
  pub read : All (λ m. (k : K) × (m.fragments.entries ≡ old k) × (new k ≡ [])) messages
  pub gone : (t : ℕ) (k : K) → has_tsn (old k) t ≡ true → new k ≡ []
      → (at is t ≡ None) ⊎ (is_of_any messages t ≡ true)
  pub stay : (t : ℕ) → ((k : K) → has_tsn (old k) t ≡ true → new k ≡ old k) → at is t ≡ at was t
  pub none : (t : ℕ) → at was t ≡ None → at is t ≡ None
