-- Sets and fragments whose numbers ascend, and how often so many can be halved.
use Rattle.std.specs.Prelude.{ℕ, zero, suc, ◌+◌, ◌/◌, Bool, true, false, List, map}
use Rattle.std.specs.List.{All}
use Rattle.sctp_data.specs.ChunkSet.{ChunkSet}
use Rattle.sctp_serial.specs.Ascending.{IsAscending, upper_half}

-- how many binary digits n has, of which 0 has none, or the limit where it has more
abbrev pub digits_upto : ℕ → ℕ → ℕ
digits_upto zero n = 0
digits_upto (suc limit) zero = 0
digits_upto (suc limit) (suc n) = digits_upto limit (suc n / 2) + 1

-- how many it has
abbrev pub digits : ℕ → ℕ
digits n = digits_upto n n

-- while the mark is off the numbers do not ascend
abbrev pub IsOffOnlyOutOfOrder : Bool → List ℕ → Type 0
IsOffOnlyOutOfOrder true ns = Unit {0}
IsOffOnlyOutOfOrder false ns = IsAscending ns → ⊥

-- the TSNs of a set ascend, within half a circle
abbrev pub IsInOrder : ChunkSet → Type 0
IsInOrder set = IsAscending (map (λ c. c.tsn) set.chunks)

-- the TSNs of each set ascend, and so do the stream sequence numbers of the sets
pub record IsOrderly (sets : List ChunkSet) : Type 0 where
  pub numbers : IsAscending (map (λ s. upper_half s.ssn) sets)
  pub fragments : All IsInOrder sets
