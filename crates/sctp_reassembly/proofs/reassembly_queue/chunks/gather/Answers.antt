use Rattle.std.proofs.Common.{◌≡◌, ◌+◌, ◌-◌, ◌≤◌, ◌++◌, length, length-drop, get_or, take, drop, sym, ap, ◌∙◌, arith}
use Rattle.std.specs.List.{concat}
use Rattle.sctp_data.specs.declared.chunk.chunk_payload_data.ChunkPayloadData.{ChunkPayloadData}
use Rattle.sctp_reassembly.specs.reassembly_queue.Chunks.{left_from, left_after}
use Rattle.sctp_reassembly.proofs.lemmas.reassembly_queue.PiecesTaken.{left_head, slice_rest, taken_more, left_more, taken_more_of}
use Rattle.sctp_reassembly.proofs.reassembly_queue.chunks.gather.Goals as goal

pub loop-index-preserved : goal.loop-index-preserved
loop-index-preserved c =
    let chunks = c.args.chunks.now in
    let i = c.loop-index.index in
    let o = c.loop-index.offset in
    let room = c.loop-index.room in
    let n = c.min-n.result in
    let x = c.look.result.now in
    let rest = left_from chunks (i + 1) 0 in
    let same_bytes = c.as_slice-data.ensures ∙ ap (λ (y : ChunkPayloadData). y.user_data) c.look.ensures.value in
    let first = drop o (get_or chunks i x).user_data in
    let head = left_head chunks i o x (omega arith) in
    let piece = slice_rest c.as_slice-data.result.now o c.min-start.result n c.min-start.ensures (omega arith) ∙ ap (drop o) same_bytes in
    let len = length-drop o (get_or chunks i x).user_data in
    let whole = ap length same_bytes in
    let fits : length first ≤ room = omega (arith, c.min-n.ensures, c.min-start.ensures) in
    let same : n ≡ length first = omega (arith, c.min-n.ensures, c.min-start.ensures) in
    let fits' : n ≤ room = omega arith in
    record {
      bytes = ap (λ xs. xs ++ take (room - n) (concat rest)) c.in_ok-extend_from_slice.ensures.ok
          ∙ taken_more c.loop-index.buf.items _ first rest room n piece fits same ∙ ap (λ xss. c.loop-index.buf.items ++ take room (concat xss)) (sym head)
          ∙ c.loop-index.invariant.bytes;
      left = left_more first rest room n fits same ∙ ap (left_after room) (sym head) ∙ c.loop-index.invariant.left;
      not_back = omega (arith, c.loop-index.invariant.not_back, c.look.ensures.turn);
      cost_left = omega (arith, c.loop-index.invariant.cost_left, c.look.ensures.turn, taken_more_of room n chunks i o x (omega arith) same fits');
    }
