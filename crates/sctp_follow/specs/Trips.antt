-- The round trips of a way: the least, the median and the most.
use Rattle.std.specs.Prelude.{◌≡◌, ℕ, zero, suc, ◌+◌, ◌*◌, ◌/◌, ◌<◌, ◌≤◌, nat_lt, if◌then◌else◌, min, max, unwrap_or, Some, List, ◌∷◌, ◌++◌, sum_by}
use Rattle.std.specs.Map.{values_of}
use Rattle.std.specs.BTreeMap as trees
use Rattle.std.specs.Ordering.{nat_cmp}
use Rattle.sctp_follow.specs.Flow.{counted}
use Rattle.sctp_follow.specs.declared.trips.Trips.{Trips}

-- a number with its first three digits, and zeros for at most so many others
unfoldable pub rounded : ℕ → ℕ → ℕ
rounded zero number = number
rounded (suc digits) number =
    if nat_lt number 1000 then number else 10 * rounded digits (number / 10)

-- there is none yet
pub record IsEmpty (trips : Trips) : Type 0 where
  pub total : trips.total ≡ 0
  pub least : trips.least ≡ 18446744073709551615
  pub most : trips.most ≡ 0
  pub counts : trees.IsEmpty trips.counts

-- a round trip of so many nanoseconds is one more
pub record IsNoted (trip : ℕ) (old new : Trips) : Type 0 where
  pub total : new.total ≡ counted old.total 1
  pub least : new.least ≡ min old.least trip
  pub most : new.most ≡ max old.most trip
  pub counts : trees.Updates nat_cmp old.counts new.counts (rounded 20 trip)
      (Some (counted (unwrap_or (trees.get nat_cmp old.counts (rounded 20 trip)) 0) 1))

-- how many round trips are counted of these lengths
abbrev pub count_of : List (ℕ × ℕ) → ℕ
count_of counts = sum_by (λ n. n) (values_of counts)

-- each round trip is counted under its length
abbrev pub AreCounted : Trips → Type 0
AreCounted trips = trips.total ≤ count_of trips.counts.entries

-- A length is the median of so many round trips, which are counted under their lengths in ascending order: fewer than half of them are shorter, and at
-- least half are no longer.
pub record IsMedian (total : ℕ) (counts : List (ℕ × ℕ)) (length : ℕ) : Type 0 where
  pub shorter : List (ℕ × ℕ)
  pub count : ℕ
  pub longer : List (ℕ × ℕ)
  pub split : counts ≡ shorter ++ (length, count) ∷ longer
  pub fewer : 2 * count_of shorter < total
  pub half : total ≤ 2 * (count_of shorter + count)
