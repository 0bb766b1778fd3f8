use Rattle.std.proofs.Common.{◌≡◌, ℕ, ◌+◌, ◌*◌, ◌%◌, ◌<◌, ◌≤◌, length}
use Rattle.std.specs.Prelude.{slice_index}
use Rattle.sctp_capture.proofs.frame.mpls_place.Given as goal

-- no label before this one says bottom of stack
abbrev pub invariant-loop-k : goal.invariant-loop-k
invariant-loop-k l = record {
  within : l.from + 4 * l.k ≤ length l.frame;
  above : (k : ℕ) → k < l.k → slice_index l.frame (l.from + 4 * k + 2) % 2 ≡ 0;
}
