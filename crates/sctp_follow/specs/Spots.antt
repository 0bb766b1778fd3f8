-- Which fragments are looked at where TSNs are passed.
use Rattle.std.specs.Prelude.{◌≡◌, ◌≢◌, ℕ, ◌<◌, Bool, true, false, if◌then◌else◌, List, ◌==◌, Option, Some, None, IsSome}
use Rattle.std.specs.List.{All, AllPairs, Contains, list_any}
use Rattle.std.specs.BTreeMap as trees
use Rattle.std.specs.Ordering.{nat_cmp}
use Rattle.sctp_util.specs.Serial.{comes_before, at_or_before}
use Rattle.sctp_follow.specs.declared.interleave.Fragment.{Fragment}
use Rattle.sctp_follow.specs.declared.interleave.Name.{Name}
use Rattle.sctp_follow.specs.declared.interleave.Whole.{Whole}
use Rattle.sctp_follow.specs.declared.spots.Spot.{Spot}
use Rattle.sctp_follow.specs.declared.spots.Spots.{Spots}

-- where the fragment of a TSN stands
abbrev pub at : Spots → ℕ → Option Spot
at spots tsn = trees.get nat_cmp spots.by_tsn tsn

abbrev pub of : Name → Fragment → Spot
of name f = record { name = name; place = f.place }

-- a TSN is that of one of these fragments, or of a fragment of one of these messages
abbrev pub is_of : List Fragment → ℕ → Bool
is_of fragments tsn = list_any (λ f. tsn == f.tsn) fragments

abbrev pub is_of_any : List Whole → ℕ → Bool
is_of_any messages tsn = list_any (λ m. is_of (trees.values m.fragments) tsn) messages

-- A fragment that is taken is noted; of a message that was passed it is not. The fragments of messages that are read then are forgotten.
abbrev pub Notes : Name → Fragment → Option (List Whole) → Spots → Spots → Type 0
Notes name f None old new = (t : ℕ) → at new t ≡ (if t == f.tsn then None else at old t)
Notes name f (Some messages) old new =
    (t : ℕ) → at new t
    ≡ (if is_of_any messages t then None else if t == f.tsn then Some (of name f) else at old t)

-- no TSN that is known lies no later than this one
abbrev pub NoneUpTo : ℕ → Spots → Type 0
NoneUpTo tsn spots =
    (t : ℕ) → t < 4294967296 → IsSome (at spots t) → at_or_before t tsn ≡ false

-- of those that lie no later than a TSN, this is the first
abbrev pub IsFirst : ℕ → ℕ → Spots → Type 0
IsFirst first tsn spots =
    (t : ℕ) → t < 4294967296 → IsSome (at spots t) → at_or_before t tsn ≡ true → first ≢ t
    → comes_before first t ≡ true

-- the fragments whose TSNs lie no later than this one, each once, in the order of their TSNs; the others stay
pub record AreDue (tsn : ℕ) (due : List (ℕ × Spot)) (old new : Spots) : Type 0 where
  pub only : All (λ e. (at old e.0 ≡ Some e.1) × (at_or_before e.0 tsn ≡ true)) due
  pub all : (t : ℕ) (s : Spot) → t < 4294967296 → at old t ≡ Some s → at_or_before t tsn ≡ true
      → Contains due (t, s)
  pub order : AllPairs (λ e f. comes_before e.0 f.0 ≡ true) due
  pub gone : NoneUpTo tsn new
  pub stay : (t : ℕ) → at_or_before t tsn ≡ false → at new t ≡ at old t
