use Rattle.sctp_sender.proofs.Names.{rules, sym, number, absent-find, inside, found}
use Rattle.sctp_sender.proofs.sender.outbound_streams.OutboundStreams.find.Goals as goal

pub returns-in_default : goal.returns-in_default
returns-in_default c =
    rw (← c.self.view_is) (sym (absent-find number _ _ c.self.invariant c.args.stream c.in_default.ensures))

pub index-requires : goal.index-requires
index-requires c = let lt = inside number _ _ c.self.invariant _ _ c.in-Some.ensures in
    search rules

pub returns : goal.returns
returns c = rw (← c.self.view_is) (sym (found number _ _ c.self.invariant _ _ c.in-Some.ensures _ c.index.ensures))
