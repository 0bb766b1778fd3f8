use Rattle.sctp_association.proofs.Rooms.{places_kept}
use Rattle.sctp_association.proofs.association.Association.poll.Goals as goal

pub returns-clause-places : goal.returns-clause-places
returns-clause-places c h = places_kept c.args.self.now.inbound c.args.self.now.events c.pop.new.self c.pop.ensures.rooms h
