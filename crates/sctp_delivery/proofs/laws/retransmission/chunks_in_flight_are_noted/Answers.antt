use Rattle.sctp_delivery.proofs.NotedChunks as noted
use Rattle.sctp_delivery.proofs.laws.retransmission.chunks_in_flight_are_noted.Goals as goal

pub returns : goal.returns
returns c = noted.law
