use Rattle.std.proofs.Common.{◌≡◌, ◌<◌, ◌++◌, not, true, length, drop, remove, sym, ap, ◌∙◌, arith, option_to_list}
use Rattle.std.proofs.lemmas.Bool.Decides.{nat_tests}
use Rattle.std.proofs.lemmas.List.{get_or_default}
use Rattle.std.proofs.lemmas.List.Edits.{length-remove}
use Rattle.std.proofs.lemmas.List.Sums.{sum_by-cons, sum_by-remove}
use Rattle.std.specs.List.{filter}
use Rattle.sctp_data.specs.declared.chunk.chunk_payload_data.ChunkPayloadData.{ChunkPayloadData}
use Rattle.sctp_util.proofs.Edits.{removed_step, removed_next}
use Rattle.sctp_serial.specs.DataChunks.{bytes_of}
use Rattle.sctp_outbound.specs.pending_queue.PendingQueue.{last_of}
use Rattle.sctp_outbound.specs.Marks.{is_of}
use Rattle.sctp_outbound.proofs.lemmas.pending_queue.Waiting.{removed_le, last_after}
use Rattle.sctp_outbound.proofs.pending_queue.line.remove_from.Goals as goal

pub overflow_add-bytes : goal.overflow_add-bytes
overflow_add-bytes c =
    let xs = c.loop-place.chunks.items in
    let i = c.loop-place.place in
    let x = c.in-Some.chunk in
    let within : i < length xs = omega (arith, c.loop-place.chunks.ok.0) in
    let named = ap (λ (y : ChunkPayloadData). y.message_id) (c.in-Some.ensures.value ∙ get_or_default xs i x c.index.result.now within ∙ sym c.index.ensures) in
    let passes : is_of c.args.message_id x ≡ true = grind (arith, nat_tests, named, c.if-index-message_id.false) in
    let next = ap bytes_of (removed_next (is_of c.args.message_id) xs i x within c.in-Some.ensures.value passes) in
    omega (
      arith,
      next,
      sum_by-cons (λ (y : ChunkPayloadData). length y.user_data) x (filter (is_of c.args.message_id) (drop i (remove xs i))),
      c.loop-place.invariant.removed,
      removed_le (is_of c.args.message_id) c.args.chunks.now.items,
    )

pub loop-place-preserved : goal.loop-place-preserved
loop-place-preserved c =
    let xs = c.loop-place.chunks.items in
    let i = c.loop-place.place in
    let x = c.in-Some.chunk in
    let within : i < length xs = omega (arith, c.loop-place.chunks.ok.0) in
    let named = ap (λ (y : ChunkPayloadData). y.message_id) (c.in-Some.ensures.value ∙ get_or_default xs i x c.index.result.now within ∙ sym c.index.ensures) in
    let passes : is_of c.args.message_id x ≡ true = grind (arith, nat_tests, named, c.if-index-message_id.false) in
    let next = removed_next (is_of c.args.message_id) xs i x within c.in-Some.ensures.value passes in
    let n = length-remove xs i within in
    let left = filter (is_of c.args.message_id) (drop i (remove xs i)) in
    rw c.in-Some.ensures.items record {
      in_range = omega arith;
      kept = removed_step (λ y. not (is_of c.args.message_id y)) xs i x within c.in-Some.ensures.value (ap not passes) ∙ c.loop-place.invariant.kept;
      removed = omega (arith, ap bytes_of next, sum_by-cons (λ (y : ChunkPayloadData). length y.user_data) x left, c.loop-place.invariant.removed);
      left = omega (
        arith,
        sum_by-remove (λ (y : ChunkPayloadData). length y.user_data) xs i x within,
        ap (λ (y : ChunkPayloadData). length y.user_data) c.in-Some.ensures.value,
        c.loop-place.invariant.left,
      );
      last = sym (last_after c.loop-place.last x left) ∙ ap (λ ys. last_of (option_to_list c.loop-place.last ++ ys)) (sym next) ∙ c.loop-place.invariant.last;
      len = omega (arith, c.in-Some.ensures.len, c.loop-place.invariant.len);
      capacity = c.in-Some.ensures.capacity ∙ c.loop-place.invariant.capacity;
    }
