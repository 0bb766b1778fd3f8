use Rattle.std.proofs.Common.{◌≡◌, length, arith, length-append}
use Rattle.sctp_util.specs.Padding.{four_zeroes}
use Rattle.sctp_packets.specs.Packet.{head_encoding}
use Rattle.sctp_packets.proofs.Sealed.{length_head_encoding}
use Rattle.sctp_packets.proofs.packet.writer.PacketWriter.begin.Goals as goal

pub invariant_of-self : goal.invariant_of-self
invariant_of-self c =
    let h = c.args.header in
    let eight = length_head_encoding h.source_port h.destination_port h.verification_tag in
    let len : length c.put_head.new.buf.items ≡ 12 = rw (c.in-Ok.ensures.ok, c.clear.ensures.items)
    (omega (arith, eight, length-append (head_encoding h.source_port h.destination_port h.verification_tag) four_zeroes)) in
    record {
      header = c.self.invariant.header;
      room = omega (arith, len, c.in-Ok.ensures.spare, c.clear.ensures.spare, c.self.invariant.room);
      within = omega (arith, len, c.self.invariant.header);
    }
