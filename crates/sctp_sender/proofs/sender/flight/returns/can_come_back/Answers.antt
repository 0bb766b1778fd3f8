use Rattle.std.proofs.Common.{sym}
use Rattle.sctp_sender.proofs.Returns.{can-none}
use Rattle.sctp_sender.proofs.sender.flight.returns.can_come_back.Goals as goal

pub returns-in_default : goal.returns-in_default
returns-in_default c = sym (can-none c.args.queue.now.inflight.chunks c.args.place (sym c.in_default.ensures))
