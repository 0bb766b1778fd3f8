use Rattle.sctp_link.proofs.Names.{refl, arith}
use Rattle.sctp_link.proofs.upkeep.Observed.{says-bytes}
use Rattle.sctp_link.proofs.link.Link.datagram.Goals as goal

pub returns : goal.returns
returns g c = rw (← c.self.view_is) (says-bytes c.self.inside.network.items c.args.k c.index.result.now c.self.invariant.1 refl refl
    (omega (arith, c.if-k-len.false, c.len.ensures)) c.index.ensures)
