use Rattle.sctp_datagram.proofs.Strict.{strict_told}
use Rattle.sctp_c.specs.AnyChunks.{any_chunk_at}
use Rattle.sctp_c.proofs.packet.any.sctpr_read_any_packet_with_sum.Goals as goal

pub returns-clause-strict : goal.returns-clause-strict
returns-clause-strict c = λ p reads refused.
    let told = strict_told any_chunk_at c.args.raw.now p.chunks reads.chunks in
    c.tell_any.ensures.only told.0 reads.is_headed told.1 refused
