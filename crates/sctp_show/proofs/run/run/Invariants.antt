use Rattle.std.proofs.Common.{◌≤◌}
use Rattle.std.specs.Io.KnownBytes.{prepend_known}
use Rattle.sctp_capture.specs.Blocks.{known_of}
use Rattle.sctp_show.proofs.Runs.{SoFar, HasRoom}
use Rattle.sctp_show.proofs.run.run.Given as goal

abbrev pub invariant-pieces : goal.invariant-pieces
invariant-pieces g l = record {
  limited : l.initial.course.counts.shown ≤ l.options.limit → l.course.counts.shown ≤ l.options.limit;
  so_far : SoFar l.options l.format (known_of l.initial.section) (prepend_known l.initial.window.held.items (g.R.Read.remaining l.initial.window.reader))
      (known_of l.section) (prepend_known l.window.held.items (g.R.Read.remaining l.window.reader)) (g.W.Write.contents l.fn.output)
      (g.W.Write.contents l.output) l.fn.course.counts l.course.counts;
  room : HasRoom (known_of l.initial.section) (prepend_known l.initial.window.held.items (g.R.Read.remaining l.initial.window.reader)) l.turn
      (known_of l.section) (prepend_known l.window.held.items (g.R.Read.remaining l.window.reader));
}
