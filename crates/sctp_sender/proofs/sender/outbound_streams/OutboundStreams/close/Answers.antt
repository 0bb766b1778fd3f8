use Rattle.sctp_sender.proofs.Names.{rules, ap, ◌∙◌, sym, number, numbers_of, inside}
use Rattle.sctp_stream.proofs.StreamPlaces.{absent-out, without, numbers-without}
use Rattle.sctp_sender.proofs.sender.outbound_streams.OutboundStreams.close.Goals as goal

pub returns-in_default : goal.returns-in_default
returns-in_default c =
    rw (← c.self.view_is) (absent-out number _ _ c.self.invariant c.args.stream c.in_default.ensures)

pub swap_remove-requires : goal.swap_remove-requires
swap_remove-requires c = let lt = inside number _ _ c.self.invariant _ _ c.in-Some.ensures in
    search rules

pub invariant_of-self : goal.invariant_of-self
invariant_of-self c = c.remove.ensures
    ∙ numbers-without number _ _ c.self.invariant _ _ c.in-Some.ensures c.swap_remove.result
    ∙ ap numbers_of (sym c.swap_remove.ensures.items)

pub returns : goal.returns
returns c = rw (← c.self.view_is)
    (c.swap_remove.ensures.items ∙ without number _ _ c.self.invariant _ _ c.in-Some.ensures c.swap_remove.result)
