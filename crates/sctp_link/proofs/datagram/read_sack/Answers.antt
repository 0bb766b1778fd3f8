use Rattle.sctp_link.proofs.Names.{ap, sym, ◌∙◌, sack_of, wire_of, sack_chunk}
use Rattle.sctp_link.proofs.upkeep.Packets.{sack_kind, same_sack}
use Rattle.sctp_link.proofs.datagram.read_sack.Goals as goal

pub unreachable-requires : goal.unreachable-requires
unreachable-requires g c =
    sack_kind c.in_ok-chunk.field-0 c.requires.0 c.in_default.not-SelectiveAck (c.in_ok-chunk.ensures.chunk (sack_chunk c.requires.0) c.requires.1)

pub returns-clause-chunk : goal.returns-clause-chunk
returns-clause-chunk g c =
    λ s reads. same_sack (sack_of c.in-SelectiveAck.chunk) s (ap wire_of (sym c.in-SelectiveAck.is) ∙ c.in_ok-chunk.ensures.chunk (sack_chunk s) reads)
