use Rattle.sctp_sender.proofs.Names.{rules, ap, sym, ◌∙◌, number, less_by, falls_in, absent-change, absent-find, inside, changed, found, numbers-stay}
use Rattle.sctp_sender.proofs.sender.outbound_streams.OutboundStreams.release.Goals as goal

pub returns-in_default-clause-low : goal.returns-in_default-clause-low
returns-in_default-clause-low c = rw (← c.self.view_is) (sym (ap (λ o. falls_in o c.args.bytes)
    (absent-find number _ _ c.self.invariant c.args.stream c.in_default.ensures)))

pub returns-in_default-clause-less : goal.returns-in_default-clause-less
returns-in_default-clause-less c = rw (← c.self.view_is)
    (absent-change number _ _ c.self.invariant c.args.stream (less_by c.args.bytes) c.in_default.ensures)

pub index_mut-requires : goal.index_mut-requires
index_mut-requires c =
    let lt = inside number _ _ c.self.invariant _ _ c.in-Some.ensures in search rules

pub invariant_of-self : goal.invariant_of-self
invariant_of-self c = numbers-stay number _ _ c.self.invariant _ _ c.in-Some.ensures _ _ c.index_mut.ensures.value (ap number c.lower.ensures.less)

pub returns-clause-low : goal.returns-clause-low
returns-clause-low c = rw (← c.self.view_is) (c.lower.ensures.low ∙ sym (ap (λ o. falls_in o c.args.bytes) (found number _ _ c.self.invariant _ _ c.in-Some.ensures _ c.index_mut.ensures.value)))

pub returns-clause-less : goal.returns-clause-less
returns-clause-less c = rw (← c.self.view_is) (changed number _ _ c.self.invariant _ _ c.in-Some.ensures (less_by c.args.bytes) _ _ c.index_mut.ensures.value c.lower.ensures.less)
