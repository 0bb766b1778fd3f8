use Rattle.std.proofs.Common.{◌≡◌, ◌-◌, ◌+◌, length, refl, rules, arith, ap, inl, inr, length-append}
use Rattle.std.proofs.lemmas.Result.{err_from_is_err_and}
use Rattle.sctp_chunks.specs.Wire.{encoding_of, value_of}
use Rattle.sctp_packets.proofs.Written.{padded_after, length_padded_encoding, length_encoding}
use Rattle.sctp_packets.proofs.packet.put_chunk.Goals as goal

pub returns-in-Ok-clause-ok : goal.returns-in-Ok-clause-ok
returns-in-Ok-clause-ok g c = (
  c.in_ok-end.ensures.ok.0,
  padded_after c.args.buf.now.items c.marshal_to.new.buf.items c.put_bytes.new.self.items
      (g.K.Chunk.wire c.args.chunk.now) c.get_padding_size-padding.result c.in_ok-end.ensures.ok.1 (search rules) (search rules),
)

pub returns-in_err-end-clause-refused : goal.returns-in_err-end-clause-refused
returns-in_err-end-clause-refused g c =
    let p = err_from_is_err_and c.from_residual.result c.from_residual.ensures.1 in
    let len = length_padded_encoding (g.K.Chunk.wire c.args.chunk.now) in
    rw (p.1, p.2) (elim c.in_err-end.ensures.refused [
      | inl fault ↦ inl fault
      | inr memory ↦ inr (memory.0, memory.1, omega (arith, len, memory.2))
    ])

pub returns-in-Ok-clause-spare : goal.returns-in-Ok-clause-spare
returns-in-Ok-clause-spare g c =
    let w = g.K.Chunk.wire c.args.chunk.now in
    let taken : c.in_ok-end.end - c.len-start.result ≡ 4 + length (value_of w) =
    omega (
      arith,
      length_encoding w,
      ap length c.in_ok-end.ensures.ok.1,
      length-append c.args.buf.now.items (encoding_of w),
      c.in_ok-end.ensures.ok.2,
      c.len-start.ensures.value,
    ) in
    let padding = rw taken at c.get_padding_size-padding.ensures in
    omega (arith, length_padded_encoding w, padding, c.in_ok-end.ensures.spare, c.in-Ok.ensures.spare)

pub returns-in-Err-clause-refused : goal.returns-in-Err-clause-refused
returns-in-Err-clause-refused g c =
    let w = g.K.Chunk.wire c.args.chunk.now in
    let taken : c.in_ok-end.end - c.len-start.result ≡ 4 + length (value_of w) =
    omega (
      arith,
      length_encoding w,
      ap length c.in_ok-end.ensures.ok.1,
      length-append c.args.buf.now.items (encoding_of w),
      c.in_ok-end.ensures.ok.2,
      c.len-start.ensures.value,
    ) in
    let padding = rw taken at c.get_padding_size-padding.ensures in
    inr (refl, c.in_ok-end.ensures.ok.0, omega (arith, length_padded_encoding w, padding, c.in_ok-end.ensures.spare, c.in-Err.ensures.spare))
