use Rattle.std.specs.Io.KnownBytes.{prepend_known}
use Rattle.sctp_capture.proofs.Lines.{IsLeftAlike}
use Rattle.sctp_capture.proofs.record.skip_line.Given as goal

abbrev pub invariant-loop : goal.invariant-loop
invariant-loop g l = IsLeftAlike (prepend_known l.fn.window.held.items (g.R.Read.remaining l.fn.window.reader))
    (prepend_known l.window.held.items (g.R.Read.remaining l.window.reader))
