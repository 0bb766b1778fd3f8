use Rattle.sctp_sender.proofs.Names.{rules, number, absent-change, changed, inside, numbers-stay}
use Rattle.sctp_sender.specs.Outgoing.{wrote}
use Rattle.sctp_sender.proofs.sender.outbound_streams.OutboundStreams.wrote.Goals as goal

pub returns-in_default : goal.returns-in_default
returns-in_default c = λ bytes len. rw (← c.self.view_is)
    (absent-change number _ _ c.self.invariant c.args.stream (wrote c.args.ppi bytes) c.in_default.ensures)

pub index_mut-requires : goal.index_mut-requires
index_mut-requires c =
    let lt = inside number _ _ c.self.invariant _ _ c.in-Some.ensures in search rules

pub invariant_of-self : goal.invariant_of-self
invariant_of-self c = numbers-stay number _ _ c.self.invariant _ _ c.in-Some.ensures _ _ c.index_mut.ensures.value c.count_write.ensures.number

pub returns : goal.returns
returns c = λ bytes len. rw (← c.self.view_is) (changed number _ _ c.self.invariant _ _ c.in-Some.ensures (wrote c.args.ppi bytes) _ _ c.index_mut.ensures.value (c.count_write.ensures.rest bytes len))
