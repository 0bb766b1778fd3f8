-- A DATA chunk that is sent, as a caller finds it in its buffer.
use Rattle.std.proofs.Common.{◌≡◌, ℕ, List, length, Option, Some, None, option_map, refl, ap, sym, ◌∙◌}
use Rattle.std.proofs.lemmas.Option.{none-some}
use Rattle.sctp_util.proofs.Cases.{some-same}
use Rattle.sctp_data.specs.declared.chunk.chunk_payload_data.ChunkPayloadData.{ChunkPayloadData}
use Rattle.sctp_outbound.specs.pending_queue.PendingQueue.{next_pending}
use Rattle.sctp_sender.specs.Numbers.{send_refusal}
use Rattle.sctp_sender.specs.Sender.{Transmission}
use Rattle.sctp_c.specs.Out.{at_front, padded}
use Rattle.sctp_data.specs.PayloadData.{data_of}
use Rattle.sctp_c.specs.PayloadTypes.{as_sent, encoding_with}
use Rattle.sctp_c.specs.Types.{type_sent}
use Rattle.sctp_c.specs.declared.sender.typed.TypedSender.{TypedSender}
use Rattle.sctp_c.specs.Sending.{Sends, after_send, with_tsn}

-- the chunk that is next, with the next TSN, stands in the buffer
pub sends : (now tsn written n : ℕ) (x : ChunkPayloadData) (out_old out_new : List ℕ) (old new : TypedSender)
    → Some x ≡ option_map (with_tsn old.own.flight.next_tsn) (next_pending old.own.flight.queue.pending) → send_refusal old.own.flight ≡ None
    → tsn ≡ old.own.flight.next_tsn → n ≡ type_sent old.types x → out_new ≡ at_front (padded (encoding_with n (data_of x))) out_old
    → written ≡ length (padded (as_sent old.types x)) → new.own ≡ after_send now old.own → Sends now out_old out_new written tsn old new
sends now tsn written n x out_old out_new old new same none number is bytes size after = by (next_pending old.own.flight.queue.pending) refl same
  where
    t : ℕ
    t = old.own.flight.next_tsn

    by : (o : Option ChunkPayloadData) → next_pending old.own.flight.queue.pending ≡ o → Some x ≡ option_map (with_tsn t) o
        → Sends now out_old out_new written tsn old new
    by None next e = absurd (none-some x (sym e))
    by (Some c) next e =
        let chunk : x ≡ with_tsn t c = some-same e in
        let answered : with_tsn t c ≡ with_tsn tsn c = ap (λ k. with_tsn k c) (sym number) in
        let whole = chunk ∙ answered in
        record {
          chunk = c;
          next = next;
          accepted = none;
          number = number;
          bytes = bytes ∙ ap (λ k. at_front (padded (encoding_with k (data_of x))) out_old) is
              ∙ ap (λ (d : ChunkPayloadData). at_front (padded (as_sent old.types d)) out_old) whole;
          size = size ∙ ap (λ (d : ChunkPayloadData). length (padded (as_sent old.types d))) whole;
          after = after;
        }
