use Rattle.std.proofs.Common.{◌≡◌, ℕ, ◌<◌, List, ◌++◌}
use Rattle.std.specs.Prelude.{min}
use Rattle.sctp_follow.specs.Trips.{count_of}
use Rattle.sctp_follow.proofs.trips.Trips.median.Given as goal

abbrev pub invariant-loop-length : goal.invariant-loop-length
invariant-loop-length l = record {
  shorter : List (ℕ × ℕ);
  split : l.self.counts.entries ≡ shorter ++ l.length-iterator;
  passed : l.passed ≡ min (count_of shorter) 18446744073709551615;
  fewer : 0 < l.self.total → l.passed < l.half;
}
