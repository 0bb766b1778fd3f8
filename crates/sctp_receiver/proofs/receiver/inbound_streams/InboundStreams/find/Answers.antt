use Rattle.sctp_receiver.proofs.Names.{rules, sym, number, absent-find, inside, found}
use Rattle.sctp_receiver.proofs.receiver.inbound_streams.InboundStreams.find.Goals as goal

pub returns-in_default : goal.returns-in_default
returns-in_default c =
    rw (← c.self.view_is) (sym (absent-find number c.self.inside.items.items c.self.inside.numbers c.self.invariant.numbers c.args.stream c.in_default.ensures))

pub index-requires : goal.index-requires
index-requires c = let lt =
    inside number c.self.inside.items.items c.self.inside.numbers c.self.invariant.numbers c.args.stream c.in-Some.place c.in-Some.ensures in search rules

pub returns : goal.returns
returns c = rw (← c.self.view_is) (sym (found number c.self.inside.items.items c.self.inside.numbers c.self.invariant.numbers c.args.stream c.in-Some.place
    c.in-Some.ensures c.index.result.now c.index.ensures))
