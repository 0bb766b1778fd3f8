-- The fragments of a write are one message, and wait as the record says.
use Rattle.sctp_link.proofs.Names.{◌≡◌, ℕ, ◌+◌, ◌-◌, ◌<◌, ◌%◌, ◌^◌, List, [], ◌∷◌, ◌++◌, length, map, ap, sym, ◌∙◌, arith}
use Rattle.sctp_link.proofs.Names.{numbers_from, pieces, PayloadProtocolIdentifier, with_message_id}
use Rattle.sctp_link.proofs.Names.{fragments_with_mode, LinkRecord, StreamRecord, message_of, fragment_count, ordered_before, message_on, waiting_at}
use Rattle.sctp_link.proofs.Names.{waiting_of, OutboundStream, map-twice, pieces_of, map-all}
use Rattle.sctp_model.proofs.refinement.sending.Waiting
use Rattle.sctp_model.proofs.refinement.sending.Written
use Rattle.sctp_sender.proofs.SenderStreams.{made, fragments-made}

module _ (w : LinkRecord) (s : OutboundStream) (r : StreamRecord) (ppi : PayloadProtocolIdentifier) (bytes : List ℕ) (number : r.stream ≡ s.stream_identifier)
    (mode : r.unordered ≡ s.unordered) (reliability : r.reliability ≡ s.reliability_type) (value : r.value ≡ s.reliability_value)
    (size : s.max_payload_size ≡ w.setup.size) (ssn : s.sequence_number ≡ ordered_before w r.stream (length w.messages) % 2 ^ 16) where
  abbrev pub v : LinkRecord
  v = record w { messages = w.messages ++ message_on w r ppi bytes ∷ [] }

  one-waits : (i : ℕ) → with_message_id (length w.messages) (made s ppi bytes i) ≡ waiting_at v (length w.messages) i
  one-waits i = cc (number, reliability, value, mode, size, ssn, Written.waiting-new w r ppi bytes i)

  pub all-wait : ((p : ℕ) → p < length w.slots → message_of w p < length w.messages)
      → map (with_message_id (length w.messages)) (fragments_with_mode s ppi bytes) ≡ waiting_of v (length w.messages)
  all-wait known =
      let n = length w.messages in
      let unsent = Written.unsent w (message_on w r ppi bytes) known in
      let complete : fragment_count v n ≡ fragment_count v n - 0 = omega arith in
      let count : fragment_count v n ≡ length (pieces (length bytes) w.setup.size bytes) = ap (λ m. length (pieces (length m.bytes) w.setup.size m.bytes))
      (Waiting.message-new w (message_on w r ppi bytes)) in
      ap (map (with_message_id n)) (fragments-made s ppi bytes) ∙ map-twice (with_message_id n) (made s ppi bytes) (numbers_from 0 (length (pieces_of s bytes)))
      ∙ map-all (λ i. with_message_id n (made s ppi bytes i)) (waiting_at v n) (numbers_from 0 (length (pieces_of s bytes))) one-waits
      ∙ ap (λ k. map (waiting_at v n) (numbers_from 0 (length (pieces (length bytes) k bytes)))) size
      ∙ ap (λ k. map (waiting_at v n) (numbers_from 0 k)) (sym count ∙ complete)
      ∙ sym (ap (λ k. map (waiting_at v n) (numbers_from k (fragment_count v n - k))) unsent)
