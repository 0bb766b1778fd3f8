use Rattle.std.proofs.Common.{◌≡◌, ℕ, List, ◌++◌, refl, append_assoc, arith, inl, inr, subst, ◌<◌, ◌^◌}
use Rattle.std.specs.Prelude.{map}
use Rattle.sctp_util.specs.Padding.{four_zeroes}
use Rattle.sctp_chunks.specs.Kind.{wire_of}
use Rattle.sctp_packets.specs.Packet.{parts_of, head_of, body_of}
use Rattle.sctp_packets.proofs.Sealed.{length_head_encoding, unsealed_long, sealed, summed_is, kept_front}
use Rattle.std.proofs.lemmas.Result.{err_from_is_err_and}
use Rattle.sctp_packets.proofs.packet.Packet.put.Goals as goal

pub returns-in_err-put_chunks-clause-kept : goal.returns-in_err-put_chunks-clause-kept
returns-in_err-put_chunks-clause-kept g c =
    let front = rw (c.in_ok-put_head.ensures.ok, append_assoc) at c.put_chunks.ensures.kept in
    kept_front c.args.buf.now.items (head_of (parts_of c.args.self.now) ++ four_zeroes) c.put_chunks.new.buf.items front

pub store_checksum-requires : goal.store_checksum-requires
store_checksum-requires g c =
    let p = parts_of c.args.self.now in
    let long = unsealed_long c.args.buf.now.items (head_of p) (body_of (map wire_of c.deref.result.now))
    (length_head_encoding p.source_port p.destination_port p.verification_tag) in
    rw (c.len-start.ensures.value, c.in_ok-put_chunks.ensures.ok.1, c.in_ok-put_head.ensures.ok) long

pub returns-clause-ok : goal.returns-clause-ok
returns-clause-ok g c =
    let p = parts_of c.args.self.now in
    let whole : c.put_chunks.new.buf.items ≡ (c.args.buf.now.items ++ head_of p ++ four_zeroes) ++ body_of p.chunks =
    rw (c.in_ok-put_chunks.ensures.ok.1, c.in_ok-put_head.ensures.ok, c.deref.ensures.value) refl in (
      rw (← c.deref.ensures.value) c.in_ok-put_chunks.ensures.ok.0,
      sealed (g.C.Checksum.sum c.args.checksum.now) c.args.buf.now.items (head_of p) (body_of p.chunks) _ _ c.len-start.result
          (length_head_encoding p.source_port p.destination_port p.verification_tag) c.len-start.ensures.value whole c.store_checksum.ensures.items,
    )

pub returns-clause-sum_fits : goal.returns-clause-sum_fits
returns-clause-sum_fits g c =
    let p = parts_of c.args.self.now in
    let whole : c.put_chunks.new.buf.items ≡ (c.args.buf.now.items ++ head_of p ++ four_zeroes) ++ body_of p.chunks =
    rw (c.in_ok-put_chunks.ensures.ok.1, c.in_ok-put_head.ensures.ok, c.deref.ensures.value) refl in
    let e = summed_is c.args.buf.now.items (head_of p)
    (body_of p.chunks) _ c.len-start.result (length_head_encoding p.source_port p.destination_port p.verification_tag) c.len-start.ensures.value whole in
    let P : List ℕ → Type 0 = λ b. g.C.Checksum.sum c.args.checksum.now b < 2 ^ 32 in
    subst P e c.store_checksum.ensures.fits

pub returns-in_err-put_head-clause-refused : goal.returns-in_err-put_head-clause-refused
returns-in_err-put_head-clause-refused g c =
    let p = err_from_is_err_and c.from_residual.result c.from_residual.ensures.1 in
    rw (p.1, p.2) (inr (c.in_err-put_head.ensures.refused.0, (0, tt, omega (arith, c.in_err-put_head.ensures.refused.1))))

pub returns-in_err-put_chunks-clause-refused : goal.returns-in_err-put_chunks-clause-refused
returns-in_err-put_chunks-clause-refused g c =
    let p = err_from_is_err_and c.from_residual-in_err-put_chunks.result c.from_residual-in_err-put_chunks.ensures.1 in
    rw (p.1, p.2) (elim c.in_err-put_chunks.ensures.refused [
      | inl fault ↦ inl (rw (← c.deref.ensures.value) fault)
      | inr memory ↦
          let short = rw c.deref.ensures.value at memory.1 in
          inr (memory.0, (short.0, short.1, omega (arith, short.2, c.in_ok-put_head.ensures.spare)))
    ])

pub returns-clause-spare : goal.returns-clause-spare
returns-clause-spare g c =
    let body = rw c.deref.ensures.value at c.in_ok-put_chunks.ensures.spare in
    omega (arith, c.in_ok-put_head.ensures.spare, body, c.store_checksum.ensures.spare)
