use Rattle.std.proofs.Common.{◌≡◌, ℕ, List, length, refl, sym, ap, ◌∙◌, arith}
use Rattle.std.specs.List.{refill}
use Rattle.sctp_data.specs.declared.chunk.chunk_payload_data.ChunkPayloadData.{ChunkPayloadData}
use Rattle.sctp_util.proofs.Edits.{length-change_where}
use Rattle.sctp_util.specs.Lists.{change_where}
use Rattle.sctp_serial.specs.DataChunks.{bytes_of, is_on}
use Rattle.sctp_outbound.specs.pending_queue.PendingQueue.{lower_by}
use Rattle.sctp_outbound.proofs.lemmas.pending_queue.Waiting.{bytes_of-change_where}
use Rattle.sctp_outbound.proofs.pending_queue.line.Line.lower_ssns.Goals as goal

-- the bytes of the line, once the slice is written
same_bytes : (stream by n : ℕ) (xs row ws : List ChunkPayloadData) → row ≡ xs → length row ≡ n → ws ≡ change_where (is_on stream) (lower_by by) row
    → (length ws ≡ n → refill n xs ws ≡ ws) → bytes_of (refill n xs ws) ≡ bytes_of xs
same_bytes stream by n xs row ws same long e back =
    ap bytes_of (back (ap length e ∙ length-change_where (is_on stream) (lower_by by) row ∙ long) ∙ e ∙ ap (change_where (is_on stream) (lower_by by)) same)
    ∙ bytes_of-change_where (is_on stream) (lower_by by) (λ _. refl) xs

pub invariant_of-self : goal.invariant_of-self
invariant_of-self c =
    let lent = c.make_contiguous.ensures in
    let same = same_bytes c.args.stream_identifier c.args.by _ c.self.inside.chunks.items c.make_contiguous.result.now c.lower_ssns_in.new.chunks
    lent.value lent.len c.lower_ssns_in.ensures (lent.writes_back c.lower_ssns_in.new.chunks) in
    record {
      counted = c.self.invariant.counted ∙ sym same;
      fits = omega (arith, c.self.invariant.fits);
    }

pub returns-clause-bytes : goal.returns-clause-bytes
returns-clause-bytes c =
    let lent = c.make_contiguous.ensures in
    rw (← c.self.view_is) (same_bytes c.args.stream_identifier c.args.by _ c.self.inside.chunks.items c.make_contiguous.result.now c.lower_ssns_in.new.chunks
    lent.value lent.len c.lower_ssns_in.ensures (lent.writes_back c.lower_ssns_in.new.chunks))
