use Rattle.sctp_receiver.proofs.Settling.{settles, settles-skip}
use Rattle.sctp_receiver.proofs.laws.no_chunk_waits_for_ever.Goals as goal

pub returns : goal.returns
returns c = record { chunks = settles; skips = settles-skip }
