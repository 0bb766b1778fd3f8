use Rattle.sctp_link.proofs.Names.{◌∙◌, sides_in}
use Rattle.sctp_link.proofs.sides.Changes.{open-answered}
use Rattle.sctp_link.proofs.sender.Opening.{open-found}
use Rattle.sctp_link.proofs.link.Link.is_open.Goals as goal

pub returns : goal.returns
returns g c =
    rw (← c.self.view_is) (c.is_open.ensures ∙ open-answered c.self.invariant.0 c.args.stream ∙ open-found c.args.stream (sides_in c.self.inside).streams)
