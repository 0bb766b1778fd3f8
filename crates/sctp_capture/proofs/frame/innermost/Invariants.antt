use Rattle.std.proofs.Common.{ℕ, ◌-◌, ◌<◌, ◌^◌, List}
use Rattle.sctp_capture.specs.Frame.{IsInner}
use Rattle.sctp_capture.proofs.frame.innermost.Given as goal

-- what is behind the tunnels that are left is behind those of the packet
abbrev pub invariant-loop-passed : goal.invariant-loop-passed
invariant-loop-passed l = record {
  outward : (q : List ℕ) (c : ℕ) → IsInner (4 - l._passed) l.inner l.cut q c → IsInner 4 l.fn.packet l.fn.lost q c;
  few : l.cut < 2 ^ 32;
}
