use Rattle.sctp_sender.proofs.Names.{rules, ap, number, absent-change, changed, inside, numbers-stay}
use Rattle.sctp_sender.specs.Outgoing.{with_mode}
use Rattle.sctp_sender.proofs.sender.outbound_streams.OutboundStreams.set_mode.Goals as goal

pub returns-in_default : goal.returns-in_default
returns-in_default c = rw (← c.self.view_is)
    (absent-change number _ _ c.self.invariant c.args.stream (with_mode c.args.mode.0 c.args.mode.1 c.args.mode.2) c.in_default.ensures)

pub index_mut-requires : goal.index_mut-requires
index_mut-requires c =
    let lt = inside number _ _ c.self.invariant _ _ c.in-Some.ensures in search rules

pub invariant_of-self : goal.invariant_of-self
invariant_of-self c = numbers-stay number _ _ c.self.invariant _ _ c.in-Some.ensures _ _ c.index_mut.ensures.value (ap number c.set_reliability_params.ensures)

pub returns : goal.returns
returns c = rw (← c.self.view_is) (changed number _ _ c.self.invariant _ _ c.in-Some.ensures (with_mode c.args.mode.0 c.args.mode.1 c.args.mode.2) _ _ c.index_mut.ensures.value c.set_reliability_params.ensures)
