use Rattle.std.proofs.Common.{◌≡◌, ◌+◌, ◌<◌, ◌≤◌, ◌++◌, length, get_or, take, drop, refl, sym, ap, ap₂, ◌∙◌, arith}
use Rattle.std.proofs.lemmas.List.{take_all}
use Rattle.std.proofs.lemmas.List.{length-append}
use Rattle.sctp_data.specs.declared.chunk.chunk_payload_data.ChunkPayloadData.{ChunkPayloadData}
use Rattle.sctp_reassembly.specs.reassembly_queue.Fragments.{payload_of}
use Rattle.sctp_reassembly.proofs.lemmas.reassembly_queue.PiecesTaken.{payload_more, payload_split, filled_more, filled_short}
use Rattle.sctp_reassembly.proofs.reassembly_queue.chunks.Chunks.read.Goals as goal

pub returns-then-n-data-clause-short : goal.returns-then-n-data-clause-short
returns-then-n-data-clause-short c =
    let chunks = c.args.self.now.set.chunks in
    let i = c.loop-chunk.chunk-index in
    let x = c.chunk-item.result in
    let written = c.loop-chunk.n_written in
    let n = c.min-n.result in
    let front = payload_of (take i chunks) in
    let bytes = (get_or chunks i x).user_data in
    let rest = payload_of (drop (i + 1) chunks) in
    let lt : i < length chunks = omega (arith, ap length c.fragments-chunk-items.ensures) in
    let split = payload_split chunks i x lt in
    let item = c.as_slice-data.ensures
    ∙ ap (λ (d : ChunkPayloadData). d.user_data) (c.deref.ensures ∙ c.chunk-item.is ∙ ap (λ cs. get_or cs i x) c.fragments-chunk-items.ensures) in
    let same = ap length item in
    let long : n ≤ length bytes = omega arith in
    let long_all = ap length split in
    let full : written + n ≡ length c.args.buf.now = omega (arith, c.min-n.ensures) in
    let shorter : length c.args.buf.now < length (payload_of chunks) =
    omega (arith, c.loop-chunk.invariant.written, length-append front bytes, length-append (front ++ bytes) rest) in (
      refl,
      shorter,
      rw item at c.put_at.ensures ∙ filled_short c.loop-chunk.buf c.args.buf.now front bytes rest
          (payload_of chunks) written n c.loop-chunk.invariant.written c.loop-chunk.invariant.filled full long split,
    )

pub loop-chunk-preserved : goal.loop-chunk-preserved
loop-chunk-preserved c =
    let chunks = c.args.self.now.set.chunks in
    let i = c.loop-chunk.chunk-index in
    let x = c.chunk-item.result in
    let written = c.loop-chunk.n_written in
    let n = c.min-n.result in
    let front = payload_of (take i chunks) in
    let bytes = (get_or chunks i x).user_data in
    let lt : i < length chunks = omega (arith, ap length c.fragments-chunk-items.ensures) in
    let more = payload_more chunks i x lt in
    let item = c.as_slice-data.ensures
    ∙ ap (λ (d : ChunkPayloadData). d.user_data) (c.deref.ensures ∙ c.chunk-item.is ∙ ap (λ cs. get_or cs i x) c.fragments-chunk-items.ensures) in
    let same = ap length item in
    let whole : n ≡ length bytes = omega (arith, c.min-n.ensures) in
    let all : length bytes ≤ n = omega arith in
    let copied = rw item at c.put_at.ensures in
    record {
      written = omega (arith, c.loop-chunk.invariant.written, ap length more, length-append front bytes);
      in_range = omega (arith, c.min-n.ensures);
      filled = copied
          ∙ ap (λ xs. (take written c.loop-chunk.buf ++ xs) ++ drop (written + length xs) c.loop-chunk.buf) (take_all n bytes all)
          ∙ filled_more c.loop-chunk.buf c.args.buf.now front bytes written c.loop-chunk.invariant.written c.loop-chunk.invariant.filled
          ∙ ap₂ (λ p k. p ++ drop (written + k) c.args.buf.now) (sym more) (sym whole);
    }
