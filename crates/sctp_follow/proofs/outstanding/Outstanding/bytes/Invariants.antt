use Rattle.std.proofs.Common.{◌≡◌, ◌+◌, ◌≤◌}
use Rattle.std.specs.Prelude.{min, sum_by}
use Rattle.std.specs.BTreeMap.{values}
use Rattle.sctp_follow.specs.Outstanding.{bytes_of, outstanding_bytes}
use Rattle.sctp_follow.proofs.outstanding.Outstanding.bytes.Given as goal

abbrev pub invariant-loop-sent : goal.invariant-loop-sent
invariant-loop-sent l = record {
  fits : l.bytes ≤ 18446744073709551615;
  same : min (l.bytes + sum_by bytes_of l.sent-iterator) 18446744073709551615
      ≡ min (outstanding_bytes (values l.self.chunks)) 18446744073709551615;
}
