use Rattle.std.proofs.Common.{◌-◌, ◌≤◌, drop, IfSome, Some}
use Rattle.std.specs.Io.KnownBytes.{Keeps, prepend_known}
use Rattle.sctp_capture.proofs.window.Window.skip.Given as goal

abbrev pub invariant-skip : goal.invariant-skip
invariant-skip g l = record {
  within : l.left ≤ l.count;
  skipped : IfSome (prepend_known l.fn.self.held.items (g.R.Read.remaining l.fn.self.reader)) (λ xs.
      Keeps (Some (drop (l.count - l.left) xs)) (prepend_known l.self.held.items (g.R.Read.remaining l.self.reader)));
}

abbrev pub decreases-skip : goal.decreases-skip
decreases-skip g l = l.left
