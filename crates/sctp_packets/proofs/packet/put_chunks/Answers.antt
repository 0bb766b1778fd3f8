use Rattle.std.proofs.Common.{suc, inl, inr, arith}
use Rattle.std.proofs.lemmas.Result.{err_from_is_err_and}
use Rattle.sctp_packets.proofs.Written.{first_fault_at, encodings_next, length_body_next}
use Rattle.sctp_packets.proofs.packet.put_chunks.Goals as goal

pub returns-in_err-put_chunk-clause-refused : goal.returns-in_err-put_chunk-clause-refused
returns-in_err-put_chunk-clause-refused c =
    let p = err_from_is_err_and c.from_residual.result c.from_residual.ensures.1 in
    let cs = c.args.chunks.now in
    let i = c.loop-chunk.chunk-index in
    let d = c.chunk-item.result in
    let within = c.loop-chunk-test.true in
    let encodings = c.loop-chunk.invariant.fit in
    rw (p.1, p.2) (elim c.in_err-put_chunk.ensures.refused [
      | inl fault ↦ inl (first_fault_at _ cs i d within encodings (rw (← c.chunk-item.is) fault))
      | inr memory ↦
          let taken = length_body_next cs i d within in
          let here = rw (← c.chunk-item.is) at taken in
          let all = encodings_next cs i d within encodings (rw (← c.chunk-item.is) memory.1) in
          inr (memory.0, (suc i, all, omega (arith, here, memory.2, c.loop-chunk.invariant.spare)))
    ])
