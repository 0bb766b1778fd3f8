use Rattle.sctp_delivery.proofs.ModeSessions as mode_sessions
use Rattle.sctp_delivery.proofs.laws.modes.each_chunk_is_sent_as_it_was_written.Goals as goal

pub returns : goal.returns
returns c = mode_sessions.sent-as-written
