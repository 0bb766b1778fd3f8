use Rattle.std.proofs.Common.{length}
use Rattle.sctp_util.specs.Walk.{Walks}
use Rattle.sctp_packets.specs.Packet.{after}
use Rattle.sctp_dissect.specs.Dissection.{Shows}
use Rattle.sctp_dissect.proofs.dissection.read_items.Given as goal

abbrev pub invariant-walk : goal.invariant-walk
invariant-walk l = Walks Shows after l.fn.raw l.items.items l.rest

abbrev pub decreases-walk : goal.decreases-walk
decreases-walk l = length l.rest
