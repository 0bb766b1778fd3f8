-- How far a slot lies from a cumulative TSN.
use Rattle.sctp_model.proofs.Names.{◌≡◌, ℕ, ◌+◌, ◌-◌, ◌<◌, ◌≤◌, ◌^◌, false, arith, nat_lt, comes_before, LinkRecord, tsn_of, cumulative_tsn, nat_tests}
use Rattle.sctp_util.specs.Serial.{distance, at_or_before}
use Rattle.sctp_util.proofs.Distances.{not_before_from, before_irrefl}

-- from the last TSN before a place to that of a slot
pub far : (w : LinkRecord) (top k : ℕ) → w.setup.first < 2 ^ 32 → top ≤ k → k < 2 ^ 31 → distance (cumulative_tsn w top) (tsn_of w k) ≡ k + 1 - top
unfolding distance
far w top k first le short = omega (arith, first, le, short)

-- from one cumulative TSN to a later one
pub between : (w : LinkRecord) (from top : ℕ) → w.setup.first < 2 ^ 32 → from ≤ top → top < 2 ^ 31
    → distance (cumulative_tsn w from) (cumulative_tsn w top) ≡ top - from
unfolding distance
between w from top first le short = omega (arith, first, le, short)

pub back : (w : LinkRecord) (from top : ℕ) → w.setup.first < 2 ^ 32 → from < top → top < 2 ^ 31
    → 2 ^ 31 ≤ distance (cumulative_tsn w top) (cumulative_tsn w from)
unfolding distance
back w from top first lt short = omega (arith, first, lt, short)

-- the later one is not out of date
pub up-to-date : (w : LinkRecord) (from top : ℕ) → w.setup.first < 2 ^ 32 → from ≤ top → top < 2 ^ 31
    → comes_before (cumulative_tsn w top) (cumulative_tsn w from) ≡ false
up-to-date w from top first le short = grind (arith, nat_tests, not_before_from, back, before_irrefl)

pub at-top : (w : LinkRecord) (top k : ℕ) → w.setup.first < 2 ^ 32 → top < 2 ^ 31 → k < 2 ^ 31 → at_or_before (tsn_of w k) (cumulative_tsn w top) ≡ nat_lt k top
unfolding at_or_before distance
at-top w top k first short near = grind (arith, nat_tests)
