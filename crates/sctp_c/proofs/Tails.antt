-- What is told of one message that is abandoned.
use Rattle.std.proofs.Common.{◌≡◌, ℕ, ◌+◌, [], ◌∷◌, Option, Some, sym, ap, ◌∙◌, subst, arith}
use Rattle.std.specs.Prelude.{IfSome, option_map, option_to_list}
use Rattle.std.specs.List.{sum_by}
use Rattle.std.proofs.lemmas.List.Sums.{sum_by-cons}
use Rattle.sctp_data.specs.declared.chunk.chunk_payload_data.ChunkPayloadData.{ChunkPayloadData}
use Rattle.sctp_outbound.specs.outbound_queue.OutboundQueue.{expiring_tail, message_of, total_bytes}
use Rattle.sctp_sender.specs.declared.sender.flight.late.AbandonedMessage.{AbandonedMessage}
use Rattle.sctp_sender.specs.Sender.{Transmission, after_abandon}
use Rattle.sctp_sender.specs.Thresholds.{fell}
use Rattle.sctp_c.specs.declared.sender.abandoning.SctpAbandoned.{SctpAbandoned}
use Rattle.sctp_c.specs.Abandoning.{ExpiresTail}
use Rattle.sctp_c.specs.Flags.{flag}
use Rattle.sctp_c.specs.Rows.{abandoned_row}
use Rattle.sctp_c.proofs.Messages.{made-of}

module _ (now : ℕ) (a : AbandonedMessage) (o : Option AbandonedMessage) (row : SctpAbandoned) (old new : Transmission) where
  abbrev front : Option ChunkPayloadData
  front = expiring_tail now old.flight.queue

  pub tail-answered : o ≡ Some a → row ≡ abandoned_row a
      → IfSome o (λ a. new ≡ after_abandon (message_of front) a.stream a.bytes old)
      → option_map {U = ℕ × ℕ} (λ a. (a.stream, a.number)) o ≡ option_map {U = ℕ × ℕ} (λ c. (c.stream_identifier, c.message_id)) front
      → total_bytes new.flight.queue + sum_by (λ g. g.bytes) (option_to_list o) ≡ total_bytes old.flight.queue
      → IfSome o (λ a. a.is_low ≡ fell a.stream old new) → ExpiresTail now row old new
  tail-answered is answered after answer released low =
      let f : ChunkPayloadData → ℕ × ℕ = λ c. (c.stream_identifier, c.message_id) in
      let found = made-of f front (a.stream, a.number)
      (ap (λ p. option_map {U = ℕ × ℕ} (λ (a : AbandonedMessage). (a.stream, a.number)) p) (sym is) ∙ answer) in
      let after-is : new ≡ after_abandon (message_of front) a.stream a.bytes old =
      subst (λ p. IfSome p (λ (a : AbandonedMessage). new ≡ after_abandon (message_of front) a.stream a.bytes old)) is after in
      let low-is : a.is_low ≡ fell a.stream old new = subst (λ p. IfSome p (λ (a : AbandonedMessage). a.is_low ≡ fell a.stream old new)) is low in
      let sum-is : sum_by (λ (g : AbandonedMessage). g.bytes)
      (option_to_list o) ≡ a.bytes = ap (λ p. sum_by (λ (g : AbandonedMessage). g.bytes) (option_to_list p)) is ∙ one-sum in
      let released-is : total_bytes new.flight.queue + a.bytes ≡ total_bytes old.flight.queue = omega (arith, released, sum-is) in
      subst (λ r. ExpiresTail now r old new) (sym answered) (record {
        chunk = found.0;
        front = found.1.0;
        stream = ap (λ (x : ℕ × ℕ). x.0) found.1.1;
        number = ap (λ (x : ℕ × ℕ). x.1) found.1.1;
        after = after-is ∙ ap (λ m. after_abandon (message_of m) a.stream a.bytes old) found.1.0;
        released = released-is;
        low = ap flag low-is;
      })
    where
      one-sum : sum_by (λ (g : AbandonedMessage). g.bytes) (a ∷ []) ≡ a.bytes
      one-sum = let s = sum_by-cons (λ (g : AbandonedMessage). g.bytes) a [] in omega (arith, s)
