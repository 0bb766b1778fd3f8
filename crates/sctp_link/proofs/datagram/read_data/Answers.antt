use Rattle.sctp_link.proofs.Names.{packet_with, ap, map, err_from_is_err_and, data_chunk}
use Rattle.sctp_link.proofs.datagram.read_data.Goals as goal

pub returns-in_err-packet-clause-memory : goal.returns-in_err-packet-clause-memory
returns-in_err-packet-clause-memory g c =
    let only = c.in_err-packet.ensures.only (packet_with (map data_chunk c.requires.0)) c.requires.1 in
    let p = err_from_is_err_and c.from_residual.result c.from_residual.ensures.1 in
    rw (p.1, p.2) only

pub data_chunks-requires-clause-data : goal.data_chunks-requires-clause-data
data_chunks-requires-clause-data g c = (c.requires.0, ap (λ p. p.chunks) (c.in_ok-packet.ensures.only (packet_with (map data_chunk c.requires.0)) c.requires.1))

pub returns-clause-chunks : goal.returns-clause-chunks
returns-clause-chunks g c =
    λ ds reads. c.data_chunks.ensures.chunks ds (ap (λ p. p.chunks) (c.in_ok-packet.ensures.only (packet_with (map data_chunk ds)) reads))
