use Rattle.std.proofs.Common.{◌<◌, ap, length, sym, slice_index_or, refl, arith}
use Rattle.std.proofs.lemmas.List.{get_or_default}
use Rattle.std.proofs.lemmas.List.Sums.{get_or-le-sum_by, sum_by-set}
use Rattle.sctp_data.specs.declared.chunk.chunk_payload_data.ChunkPayloadData.{ChunkPayloadData}
use Rattle.sctp_serial.specs.DataChunks.{bytes_of, has_tsn}
use Rattle.sctp_serial.specs.Window.{IsHeldAt}
use Rattle.sctp_outbound.specs.payload_queue.PayloadQueue.{Payload}
use Rattle.sctp_outbound.specs.Marks.{as_taken_back}
use Rattle.sctp_serial.proofs.lemmas.Serials.{serial_set_of, only_here}
use Rattle.sctp_outbound.proofs.lemmas.payload_queue.Payloads.{same_but_chunks}
use Rattle.sctp_util.proofs.Edits.{change_where-only}
use Rattle.sctp_outbound.proofs.lemmas.payload_queue.Marked.{any_chunk}
use Rattle.sctp_outbound.proofs.payload_queue.PayloadQueue.take_back_at.Goals as goal

pub take_back-had-requires-clause-bytes : goal.take_back-had-requires-clause-bytes
take_back-had-requires-clause-bytes c = omega (arith, c.requires.bytes, ap (λ (q : Payload). bytes_of q.chunks) c.self.view_is)

pub invariant_of-self : goal.invariant_of-self
invariant_of-self c =
    let xs = c.self.inside.held.chunks in
    let lt : c.args.place < length xs = omega (arith, ap (λ (q : Payload). length q.chunks) c.self.view_is) in
    let bytes = sum_by-set (λ x. length x.user_data) xs c.args.place (as_taken_back c.args.user_data (slice_index_or xs c.args.place any_chunk)) any_chunk lt in
    let part = get_or-le-sum_by (λ x. length x.user_data) xs c.args.place any_chunk lt in
    rw (c.take_back-had.ensures.changed any_chunk) record {
      serial = serial_set_of (as_taken_back c.args.user_data) (λ x. refl) xs c.args.place any_chunk lt c.self.invariant.serial;
      counted = omega (arith, bytes, part, c.self.invariant.counted, c.take_back-had.ensures.had any_chunk);
    }

pub overflow_sub-self : goal.overflow_sub-self
overflow_sub-self c =
    let xs = c.self.inside.held.chunks in
    let lt : c.args.place < length xs = omega (arith, ap (λ (q : Payload). length q.chunks) c.self.view_is) in
    let part = get_or-le-sum_by (λ x. length x.user_data) xs c.args.place any_chunk lt in
    omega (arith, part, c.self.invariant.counted, c.take_back-had.ensures.had any_chunk)

pub returns-clause-counted : goal.returns-clause-counted
returns-clause-counted c = λ d.
    let xs = c.self.inside.held.chunks in
    let lt : c.args.place < length xs = omega (arith, ap (λ (q : Payload). length q.chunks) c.self.view_is) in
    let bytes = sum_by-set (λ x. length x.user_data) xs c.args.place (as_taken_back c.args.user_data (slice_index_or xs c.args.place d)) d lt in
    rw (← c.self.view_is, c.take_back-had.ensures.changed d) (omega (arith, bytes))

pub returns-clause-alone : goal.returns-clause-alone
returns-clause-alone c = λ d.
    let xs = c.self.inside.held.chunks in
    let lt : c.args.place < length xs = omega (arith, ap (λ (q : Payload). length q.chunks) c.self.view_is) in
    let chunk : ChunkPayloadData = slice_index_or xs c.args.place d in
    let at : IsHeldAt xs chunk.tsn c.args.place chunk = record { in_range = lt; value = get_or_default xs c.args.place chunk d lt; number = refl } in
    rw (← c.self.view_is, c.take_back-had.ensures.changed d) (same_but_chunks (sym (change_where-only (has_tsn chunk.tsn)
    (as_taken_back c.args.user_data) xs c.args.place d (only_here xs chunk.tsn c.args.place chunk c.self.invariant.serial at))))
