use Rattle.std.proofs.Common.{◌≡◌, ◌+◌, ◌≤◌, drop}
use Rattle.std.specs.Prelude.{min, sum_by}
use Rattle.sctp_association.specs.Acks.{size_of}
use Rattle.sctp_association.proofs.outbound.acks.size_acked.Given as goal

-- what was added, and what is left, are all
abbrev pub invariant-loop-one : goal.invariant-loop-one
invariant-loop-one l = record {
  fits : l.sum ≤ 18446744073709551615;
  same : min (l.sum + sum_by size_of (drop l.one-index l.released)) 18446744073709551615
      ≡ min (sum_by size_of l.released) 18446744073709551615;
}
