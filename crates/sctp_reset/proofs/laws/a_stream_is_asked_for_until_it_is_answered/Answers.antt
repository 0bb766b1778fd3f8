use Rattle.sctp_reset.proofs.OwnRuns as own
use Rattle.sctp_reset.proofs.laws.a_stream_is_asked_for_until_it_is_answered.Goals as goal

pub returns : goal.returns
returns c = record { once = own.asks-once; until = own.stays-asked }
