use Rattle.std.proofs.Common.{◌-◌, length}
use Rattle.std.specs.Io.KnownBytes.{Keeps, prepend_known}
use Rattle.sctp_capture.proofs.record.fill_line.Given as goal

abbrev pub invariant-fill : goal.invariant-fill
invariant-fill g l = Keeps (prepend_known l.fn.window.held.items (g.R.Read.remaining l.fn.window.reader))
    (prepend_known l.window.held.items (g.R.Read.remaining l.window.reader))

abbrev pub decreases-fill : goal.decreases-fill
decreases-fill g l = 524289 - length l.window.held.items
