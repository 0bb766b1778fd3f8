-- Numbers in serial order (RFC 1982 3.2): each comes before every later one.
use Rattle.std.specs.Prelude.{◌≡◌, ℕ, ◌*◌, ◌^◌, ◌<◌, ◌≤◌, Bool, true, false, IsTrue, List, map, length}
use Rattle.std.specs.List.{All, AllPairs, list_any, insert}
use Rattle.sctp_util.specs.Serial.{comes_before}
use Rattle.sctp_util.specs.Lists.{insert_before}

-- so they lie within half a circle of the first, each farther than those in front of it
pub record IsAscending (ns : List ℕ) : Type 0 where
  pub in_range : All (λ n. n < 2 ^ 32) ns
  pub ascending : AllPairs (λ a b. IsTrue (comes_before a b)) ns

-- while the mark is on they ascend
abbrev pub IsOrder : Bool → List ℕ → Type 0
IsOrder true ns = IsAscending ns
IsOrder false ns = Unit {0}

-- a number of 16 bits as the upper half of one of 32, where it has the same order
unfoldable pub upper_half : ℕ → ℕ
upper_half n = n * 2 ^ 16

-- no element has the number; one that has it goes to this place, and the numbers are in order with it
pub record IsInsertion {X : Type 0} (has : X → Bool) (num : X → ℕ) (before : X → X → Bool)
    (xs : List X) (place : ℕ) (ascending : Bool) : Type 0 where
  pub absent : list_any has xs ≡ false
  pub in_range : place ≤ length xs
  pub goes : (x : X) → IsTrue (has x) → insert xs place x ≡ insert_before before x xs
  pub order : (x : X) → IsTrue (has x) → IsOrder ascending (map num (insert xs place x))
