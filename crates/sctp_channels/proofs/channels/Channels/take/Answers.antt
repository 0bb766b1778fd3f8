use Rattle.sctp_channels.proofs.channels.Channels.take.Goals as goal

pub returns-in-ResetByPeer-clause-after : goal.returns-in-ResetByPeer-clause-after
returns-in-ResetByPeer-clause-after c a = rw c.in-ResetByPeer.is (c.peers_reset_came.ensures.after a)
