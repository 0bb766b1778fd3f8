use Rattle.sctp_capture.proofs.Known.{held_none}
use Rattle.sctp_capture.proofs.window.Window.new.Goals as goal

pub returns : goal.returns
returns g c = rw c.new.ensures.items (held_none (g.R.Read.remaining c.args.reader))
