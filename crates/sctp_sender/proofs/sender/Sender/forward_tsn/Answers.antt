use Rattle.sctp_sender.proofs.sender.Sender.forward_tsn.Goals as goal

pub returns-clause-furthest : goal.returns-clause-furthest
returns-clause-furthest c = rw (← c.self.view_is) c.forward_tsn_within.ensures.furthest

pub returns-clause-whole : goal.returns-clause-whole
returns-clause-whole c = rw (← c.self.view_is) c.forward_tsn_within.ensures.whole
