use Rattle.std.proofs.Common.{◌≡◌, ◌∙◌, refl}
use Rattle.sctp_packets.specs.Packet.{after}
use Rattle.sctp_packets.proofs.packet.reader.PacketReader.next.Goals as goal

pub returns-clause-chunk : goal.returns-clause-chunk
unfolding after
returns-clause-chunk c = rw (← c.self.view_is) (c.in_ok-chunk.ensures.found, rw (c.advance.ensures, c.in_ok-chunk.ensures.length) refl)
