-- Sets of TSNs.
use Rattle.std.specs.Prelude.{◌≡◌, ℕ, zero, suc, Bool, false, true, leb, ◌==◌, if◌then◌else◌, is_some, Option, None, Some}
use Rattle.std.specs.BTreeMap as trees
use Rattle.std.specs.Ordering.{nat_cmp}
use Rattle.sctp_follow.specs.declared.tsns.Tsns.{Tsns}

-- the last TSN of a run, by the first one
abbrev pub run_at : Tsns → ℕ → Option ℕ
run_at set first = trees.get nat_cmp set.runs first

-- of the runs that begin no later than a TSN, the one that begins last: its last TSN
unfoldable pub reach : (ℕ → Option ℕ) → ℕ → Option ℕ
reach runs zero = runs 0
reach runs (suc tsn) = if is_some (runs (suc tsn)) then runs (suc tsn) else reach runs tsn

-- a run reaches to a TSN
abbrev pub reaches : Option ℕ → ℕ → Bool
reaches None tsn = false
reaches (Some last) tsn = leb tsn last

-- the TSN is in the set
abbrev pub contains : Tsns → ℕ → Bool
contains set tsn = reaches (reach (run_at set) tsn) tsn

-- no TSN is in the set
abbrev pub IsEmpty : Tsns → Type 0
IsEmpty set = (tsn : ℕ) → contains set tsn ≡ false

-- the set with one more TSN, and nothing else
abbrev pub Adds : Tsns → Tsns → ℕ → Type 0
Adds old new tsn = (t : ℕ) → contains new t ≡ (if t == tsn then true else contains old t)

-- the same TSNs are in both sets
pub record IsSame (old new : Tsns) : Type 0 where
  pub tsns : (t : ℕ) → contains new t ≡ contains old t
  pub count : new.count ≡ old.count
