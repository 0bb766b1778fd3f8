use Rattle.std.proofs.Common.{◌≡◌, ◌+◌, ◌<◌, ◌≤◌, ◌^◌, length, ap, arith, inl, inr, sym, length-append}
use Rattle.std.proofs.lemmas.Bool.{le-leb}
use Rattle.sctp_chunks.specs.Wire.{HasEncoding}
use Rattle.sctp_chunks.proofs.Encodings.{no_encoding}
use Rattle.sctp_packets.specs.Packet.{padded_encoding}
use Rattle.sctp_packets.proofs.Drafts.{draft_next}
use Rattle.sctp_packets.proofs.Written.{length_padded_encoding}
use Rattle.sctp_packets.proofs.packet.writer.PacketWriter.put.Goals as goal

pub unreachable-requires : goal.unreachable-requires
unreachable-requires g c =
    let w = g.K.Chunk.wire c.args.chunk.now in
    let encoding : HasEncoding w = (c.in_ok-check_form.ensures.ok, c.in_ok-header.ensures.ok.0) in
    let small : length (padded_encoding w) < 2 ^ 17 = omega (arith, length_padded_encoding w, encoding.1) in
    elim c.in_default.ensures.refused [
      | inl fault ↦ (no_encoding _ w fault).1 encoding
      | inr memory ↦ omega (
        arith,
        memory.2,
        small,
        c.padded_length_of.ensures,
        c.if-padded_length_of-self.false,
        c.len.ensures.value,
        c.self.invariant.room,
        c.self.invariant.within,
      )
    ]

pub invariant_of-self : goal.invariant_of-self
invariant_of-self g c =
    let w = g.K.Chunk.wire c.args.chunk.now in
    let small : length (padded_encoding w) < 2 ^ 17 = omega (arith, length_padded_encoding w, c.in-Ok.ensures.ok.0.1) in
    let long : length c.put_chunk.new.buf.items ≡ length c.self.inside.buf.items + length (padded_encoding w) =
    omega (arith, ap length c.in-Ok.ensures.ok.1, length-append c.self.inside.buf.items (padded_encoding w)) in
    record {
      header = c.self.invariant.header;
      room = omega (arith, long, c.in-Ok.ensures.spare, c.self.invariant.room);
      within = omega (arith, long, small, c.padded_length_of.ensures, c.if-padded_length_of-self.false, c.len.ensures.value, c.self.invariant.within);
    }

pub returns-clause-fits : goal.returns-clause-fits
returns-clause-fits g c =
    let w = g.K.Chunk.wire c.args.chunk.now in
    let small : length (padded_encoding w) < 2 ^ 17 = omega (arith, length_padded_encoding w, c.in-Ok.ensures.ok.0.1) in
    let within : length c.self.inside.buf.items + length (padded_encoding w) ≤ c.self.inside.limit =
    omega (arith, small, c.padded_length_of.ensures, c.if-padded_length_of-self.false, c.len.ensures.value, c.self.invariant.within) in
    rw (← c.self.view_is) (sym (le-leb _ _ within))

pub returns-clause-draft : goal.returns-clause-draft
returns-clause-draft g c = rw (← c.self.view_is) (λ put p draft. rw c.in-Ok.ensures.ok.1
    (draft_next p (g.K.Chunk.wire c.args.chunk.now) c.self.inside.buf.items draft c.in-Ok.ensures.ok.0 c.in-Ok.ensures.fits))
