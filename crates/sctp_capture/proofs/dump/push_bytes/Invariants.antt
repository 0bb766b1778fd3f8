use Rattle.std.proofs.Common.{◌≡◌, ◌+◌, ◌-◌, ◌*◌, ◌≤◌, ◌++◌}
use Rattle.sctp_capture.specs.Dump as dumps
use Rattle.sctp_capture.proofs.dump.push_bytes.Given as goal

abbrev pub invariant-loop-taken : goal.invariant-loop-taken
invariant-loop-taken l = record {
  near : l.place ≤ l.at + 4 * l.taken;
  are : l.fn.said.items ++ dumps.bytes_at l.is_joined 0 l.width l.line l.at
      ≡ l.said.items ++ dumps.bytes_at l.is_joined l.taken (l.width - l.taken) l.line l.place;
}
