use Rattle.std.proofs.Common.{◌≤◌, length}
use Rattle.std.specs.Prelude.{◌⊎◌}
use Rattle.std.specs.Io.KnownBytes.{IsAtEnd, prepend_known}
use Rattle.sctp_capture.specs.Record.{line_in, HoldsLine}
use Rattle.sctp_capture.proofs.Texts.{IsRun}
use Rattle.sctp_capture.proofs.text.take_dump.Given as goal

abbrev pub invariant-loop-taken : goal.invariant-loop-taken
invariant-loop-taken g l = record {
  run : IsRun (prepend_known l.fn.window.held.items (g.R.Read.remaining l.fn.window.reader))
      (prepend_known l.window.held.items (g.R.Read.remaining l.window.reader))
      l.taken l.width l.dump.said.items l.dump.is_right;
  holds : HoldsLine l.window.held.items ⊎ IsAtEnd (g.R.Read.remaining l.window.reader);
  short : length (line_in l.window.held.items) ≤ 524288;
  few : l.width ≤ 256;
  room : length l.dump.said.items ≤ 262144;
}
