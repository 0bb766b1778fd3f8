use Rattle.sctp_link.proofs.Names.{ap, sym, ◌∙◌, forward_tsn_of, wire_of, forward_tsn_chunk}
use Rattle.sctp_link.proofs.upkeep.Packets.{forward_tsn_kind, same_forward_tsn}
use Rattle.sctp_link.proofs.datagram.read_forward_tsn.Goals as goal

pub unreachable-requires : goal.unreachable-requires
unreachable-requires g c =
    forward_tsn_kind c.in_ok-chunk.field-0 c.requires.0 c.in_default.not-ForwardTsn (c.in_ok-chunk.ensures.chunk (forward_tsn_chunk c.requires.0) c.requires.1)

pub returns-clause-chunk : goal.returns-clause-chunk
returns-clause-chunk g c = λ f reads.
    same_forward_tsn (forward_tsn_of c.in-ForwardTsn.chunk) f (ap wire_of (sym c.in-ForwardTsn.is) ∙ c.in_ok-chunk.ensures.chunk (forward_tsn_chunk f) reads)
