use Rattle.sctp_reset.proofs.OwnRuns as own
use Rattle.sctp_reset.proofs.PeerRuns as peer
use Rattle.sctp_reset.proofs.laws.a_peer_adds_nothing.Goals as goal

pub returns : goal.returns
returns c = record { asked = own.adds-nothing; due = peer.responds-once }
