use Rattle.sctp_capture.specs.Record.{IsLineFound}
use Rattle.sctp_capture.proofs.Lines.{line_single}
use Rattle.sctp_capture.proofs.record.take_single.Goals as goal

pub returns-clause-takes : goal.returns-clause-takes
returns-clause-takes g c =
    let is : IsLineFound c.args.window.now.held.items c.in_ok-found.found = rw c.held.ensures at c.in_ok-found.ensures in
    line_single (g.R.Read.remaining c.args.window.now.reader) _ c.args.window.now.held.items c.in_ok-found.found c.requires.1 is c.in_ok-skip_line.ensures.skips
