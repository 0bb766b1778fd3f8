use Rattle.sctp_link.proofs.link.Link.refusal.Goals as goal

pub returns-in-Write : goal.returns-in-Write
returns-in-Write g c = cc (c.refusal_write.ensures c.in-Write.ppi c.in-Write.bytes c.len.ensures.value, c.in-Write.is)
