use Rattle.sctp_link.proofs.Names.{state_in}
use Rattle.sctp_link.proofs.link.Link.stands.Goals as goal

pub returns : goal.returns
returns g c =
    let i = c.self.invariant.1 in
    rw (← c.self.view_is) ((state_in c.self.inside).recorded.setup, (i.setup, (i.history, i.stands)))
