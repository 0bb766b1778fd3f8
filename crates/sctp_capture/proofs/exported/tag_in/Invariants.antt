use Rattle.std.proofs.Common.{◌≡◌, ◌-◌, ◌≤◌, length}
use Rattle.sctp_capture.specs.Exported.{tag_at}
use Rattle.sctp_capture.proofs.exported.tag_in.Given as goal

abbrev pub invariant-loop-passed : goal.invariant-loop-passed
invariant-loop-passed l = record {
  within : l.at ≤ length l.frame;
  same : tag_at 64 l.number l.frame 0 ≡ tag_at (64 - l._passed) l.number l.frame l.at;
}
