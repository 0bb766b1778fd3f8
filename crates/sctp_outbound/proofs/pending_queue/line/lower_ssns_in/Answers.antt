use Rattle.std.proofs.Common.{◌<◌, length, length-set, set, sym, ap, ◌∙◌, arith}
use Rattle.std.proofs.lemmas.Bool.Decides.{nat_tests}
use Rattle.sctp_data.specs.declared.chunk.chunk_payload_data.ChunkPayloadData.{ChunkPayloadData}
use Rattle.sctp_util.proofs.Edits.{changed_step, rewritten_step}
use Rattle.sctp_outbound.specs.pending_queue.PendingQueue.{lower_by}
use Rattle.sctp_outbound.proofs.pending_queue.line.lower_ssns_in.Goals as goal
use Rattle.sctp_serial.specs.DataChunks.{is_on}

pub loop-chunk-preserved : goal.loop-chunk-preserved
loop-chunk-preserved c =
    let xs = c.args.chunks.now in
    let ys = c.loop-chunk.chunks in
    let i = c.loop-chunk.chunk-index in
    let x = c.chunk-item.result in
    let here = c.chunk-item.is in
    let within : i < length xs = omega (arith, c.loop-chunk.invariant.same_length) in
    record {
      changed = ap (λ y. set ys i (lower_by c.args.by y)) (sym here)
          ∙ changed_step (is_on c.args.stream_identifier) (lower_by c.args.by) xs ys i x within c.loop-chunk.invariant.changed here
          (grind (arith, nat_tests, c.if-chunk-stream_identifier.false, ap (λ (y : ChunkPayloadData). y.stream_identifier) here));
      same_length = length-set ys i _ ∙ c.loop-chunk.invariant.same_length;
    }

pub loop-chunk-preserved-then-chunk-stream_identifier : goal.loop-chunk-preserved-then-chunk-stream_identifier
loop-chunk-preserved-then-chunk-stream_identifier c =
    let xs = c.args.chunks.now in
    let ys = c.loop-chunk.chunks in
    let i = c.loop-chunk.chunk-index in
    let x = c.chunk-item.result in
    let here = c.chunk-item.is in
    let within : i < length xs = omega (arith, c.loop-chunk.invariant.same_length) in
    record {
      changed = ap (set ys i) (sym here)
          ∙ rewritten_step (is_on c.args.stream_identifier) (lower_by c.args.by) xs ys i x within c.loop-chunk.invariant.changed here
          (grind (arith, nat_tests, c.if-chunk-stream_identifier.true, ap (λ (y : ChunkPayloadData). y.stream_identifier) here));
      same_length = length-set ys i _ ∙ c.loop-chunk.invariant.same_length;
    }
