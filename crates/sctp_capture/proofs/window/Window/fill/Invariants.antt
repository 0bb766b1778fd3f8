use Rattle.std.proofs.Common.{length, ◌-◌}
use Rattle.std.specs.Io.KnownBytes.{Keeps, prepend_known}
use Rattle.sctp_capture.proofs.window.Window.fill.Given as goal

abbrev pub invariant-fill : goal.invariant-fill
invariant-fill g l =
    Keeps (prepend_known l.fn.self.held.items (g.R.Read.remaining l.fn.self.reader)) (prepend_known l.self.held.items (g.R.Read.remaining l.self.reader))

abbrev pub decreases-fill : goal.decreases-fill
decreases-fill g l = l.count - length l.self.held.items
