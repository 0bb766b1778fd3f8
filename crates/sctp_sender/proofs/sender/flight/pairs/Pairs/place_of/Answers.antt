use Rattle.sctp_sender.proofs.Pairs.{missing, placed}
use Rattle.sctp_sender.proofs.sender.flight.pairs.Pairs.place_of.Goals as goal

pub returns-clause-some : goal.returns-clause-some
returns-clause-some c =
    rw (← c.self.view_is) (placed c.args.stream c.self.inside.items.items c.self.inside.streams c.place_of.result c.self.invariant c.place_of.ensures)

pub returns-clause-none : goal.returns-clause-none
returns-clause-none c =
    rw (← c.self.view_is) (missing c.args.stream c.self.inside.items.items c.self.inside.streams c.place_of.result c.self.invariant c.place_of.ensures)
