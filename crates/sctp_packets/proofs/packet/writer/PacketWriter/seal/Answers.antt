use Rattle.std.proofs.Common.{◌≡◌, ◌+◌, ◌≤◌, ◌++◌, ◌∙◌, length, take, drop, ap, arith}
use Rattle.sctp_util.specs.Padding.{four_zeroes}
use Rattle.sctp_packets.proofs.Drafts.{draft_again, draft_long, draft_sealed, length_stored}
use Rattle.sctp_packets.proofs.packet.writer.PacketWriter.seal.Goals as goal

pub invariant_of-self : goal.invariant_of-self
invariant_of-self g c =
    let long : 12 ≤ length c.self.inside.buf.items = omega (arith, c.if-len-ge-PACKET_HEADER_SIZE.true, c.len.ensures.value) in
    let stored = length_stored c.self.inside.buf.items (g.C.Checksum.sum c.args.checksum.now (take 8 (drop 0 c.self.inside.buf.items) ++ four_zeroes
    ++ drop (0 + 12) c.self.inside.buf.items)) long in
    let same : length c.store_checksum.new.buf.items ≡ length c.self.inside.buf.items = ap length c.store_checksum.ensures.items ∙ stored in
    record {
      header = c.self.invariant.header;
      room = omega (arith, same, c.store_checksum.ensures.spare, c.self.invariant.room);
      within = omega (arith, same, c.self.invariant.within);
    }

pub returns-then-len-ge-PACKET_HEADER_SIZE-clause-sealed : goal.returns-then-len-ge-PACKET_HEADER_SIZE-clause-sealed
returns-then-len-ge-PACKET_HEADER_SIZE-clause-sealed g c = rw (← c.self.view_is) (λ p draft.
    draft_sealed (g.C.Checksum.sum c.args.checksum.now) p c.self.inside.buf.items _ draft c.store_checksum.ensures.items)

pub returns-then-len-ge-PACKET_HEADER_SIZE-clause-reads_back : goal.returns-then-len-ge-PACKET_HEADER_SIZE-clause-reads_back
returns-then-len-ge-PACKET_HEADER_SIZE-clause-reads_back g c = rw (← c.self.view_is) (λ p draft plain.
    let sum = g.C.Checksum.sum c.args.checksum.now in
    let new = c.store_checksum.new.buf.items in
    let stored = draft_sealed sum p c.self.inside.buf.items new draft c.store_checksum.ensures.items in
    rw stored (draft_again sum p c.self.inside.buf.items new draft c.store_checksum.ensures.fits plain))

pub returns-else-len-ge-PACKET_HEADER_SIZE-clause-sealed : goal.returns-else-len-ge-PACKET_HEADER_SIZE-clause-sealed
returns-else-len-ge-PACKET_HEADER_SIZE-clause-sealed g c = rw (← c.self.view_is) (λ p draft.
    let long = draft_long p c.self.inside.buf.items draft in
    absurd (omega (arith, long, c.len.ensures.value, c.if-len-ge-PACKET_HEADER_SIZE.false)))

pub returns-else-len-ge-PACKET_HEADER_SIZE-clause-reads_back : goal.returns-else-len-ge-PACKET_HEADER_SIZE-clause-reads_back
returns-else-len-ge-PACKET_HEADER_SIZE-clause-reads_back g c = rw (← c.self.view_is) (λ p draft plain.
    let long = draft_long p c.self.inside.buf.items draft in
    absurd (omega (arith, long, c.len.ensures.value, c.if-len-ge-PACKET_HEADER_SIZE.false)))
