use Rattle.std.proofs.Common.{inl, inr}
use Rattle.std.proofs.lemmas.Result.{err_from_is_err_and}
use Rattle.sctp_packets.specs.Packet.{parts_of}
use Rattle.sctp_packets.proofs.Again.{packet_again}
use Rattle.sctp_packets.proofs.Written.{no_packet_encoding}
use Rattle.sctp_packets.proofs.packet.Packet.marshal.Goals as goal

pub returns-in_err-put-clause-refused : goal.returns-in_err-put-clause-refused
returns-in_err-put-clause-refused g c =
    let p = err_from_is_err_and c.from_residual-in_err-put.result c.from_residual-in_err-put.ensures.1 in
    rw (p.1, p.2) (elim c.in_err-put.ensures.refused [
      | inl fault ↦ inr (no_packet_encoding _ (parts_of c.args.self.now).chunks fault)
      | inr memory ↦ inl memory.0
    ])

pub returns-in-Ok-clause-reads_back : goal.returns-in-Ok-clause-reads_back
returns-in-Ok-clause-reads_back g c = λ plain.
    let p = parts_of c.args.self.now in
    let put = c.in_ok-put.ensures in
    rw (c.in-Ok.ensures.ok, put.ok.1, c.in_ok-buf.ensures.items)
    (packet_again (g.C.Checksum.sum c.args.checksum.now) p put.fits plain put.ok.0 put.sum_fits)
