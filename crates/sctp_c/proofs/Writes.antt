-- A write, as a caller in C is told of it.
use Rattle.std.proofs.Common.{◌≡◌, ℕ, zero, suc, ◌==◌, ◌<◌, ◌≤◌, Bool, true, false, if◌then◌else◌, List, [], ◌∷◌, ◌++◌, length, map, Option, Some, None, refl, sym, ap, subst, ◌∙◌}
use Rattle.std.proofs.Common.{arith, inl, rules, Ok, Err, Result, IsOk, OnOk, IfOk}
use Rattle.std.specs.Prelude.{◌⊎◌, All, IfSome, slice_get}
use Rattle.std.specs.List.{insert, remove}
use Rattle.std.proofs.lemmas.List.Elements.{All-map}
use Rattle.std.proofs.lemmas.Option.{none-some, same_Some}
use Rattle.std.proofs.lemmas.Bool.Decides.{nat_tests}
use Rattle.sctp_data.specs.PayloadData.{payload_type_from, payload_type_number}
use Rattle.sctp_data.specs.declared.chunk.chunk_payload_data.PayloadProtocolIdentifier.{PayloadProtocolIdentifier}
use Rattle.sctp_data.specs.declared.chunk.chunk_payload_data.PayloadProtocolIdentifier.TheVariants.{Dcep, String, Binary, StringEmpty, BinaryEmpty, Unknown}
use Rattle.sctp_data.specs.declared.chunk.chunk_payload_data.ChunkPayloadData.{ChunkPayloadData}
use Rattle.sctp_outbound.specs.outbound_queue.OutboundQueue.{Outbound, after_sends, with_message_id}
use Rattle.sctp_outbound.specs.pending_queue.PendingQueue.{next_pending}
use Rattle.sctp_sender.specs.Outgoing.{fragments_with_mode, with_reliability}
use Rattle.sctp_stream.specs.Stream.{fragment_at, fragments_of, pieces_of}
use Rattle.sctp_util.specs.Kept.{numbers_from}
use Rattle.sctp_sender.specs.Sender.{Transmission, stream_of, write_refusal, written_to}
use Rattle.sctp_sender.specs.declared.sender.refusal.SenderRefusal.{SenderRefusal}
use Rattle.sctp_stream.specs.declared.outbound_stream.OutboundStream.{OutboundStream}
use Rattle.sctp_c.specs.declared.sender.typed.TypedSender.{TypedSender}
use Rattle.sctp_c.specs.declared.sender.types.Noted.{Noted}
use Rattle.sctp_c.specs.Sending.{Writes}
use Rattle.sctp_c.specs.Types.{KeepsTypes, noted, type_of, type_sent}

-- where nothing refuses it the stream is open
pub opened : (s len : ℕ) (t : Transmission) → write_refusal s len t ≡ None → (l : OutboundStream) × (stream_of s t ≡ Some l)
opened s len t e = step (stream_of s t) refl
  where
    step : (o : Option OutboundStream) → stream_of s t ≡ o → (l : OutboundStream) × (stream_of s t ≡ Some l)
    step (Some l) is = (l, is)
    step None is = absurd (grind (arith, e, is))

-- a number is told where there are bytes
pub has-bytes : (n len next : ℕ) → Some n ≡ (if len == 0 then None else Some next) → (0 < len) × (n ≡ next)
has-bytes n len next e = step (len == 0) refl
  where
    step : (b : Bool) → (len == 0) ≡ b → (0 < len) × (n ≡ next)
    step true z = absurd (none-some n (sym (e ∙ ap (λ (c : Bool). if c then None else Some next) z)))
    step false z = (grind (arith, nat_tests, z), same_Some n next (e ∙ ap (λ (c : Bool). if c then None else Some next) z))

-- ## Payload types

same-number : (a b : ℕ) → (a == b) ≡ true → b ≡ a
same-number a b e = grind (arith, nat_tests, e)

-- one that has a name is that of its number
pub named : (n : ℕ) → (payload_type_number (payload_type_from n) ≡ 58 → ⊥) → payload_type_number (payload_type_from n) ≡ n
unfolding payload_type_from payload_type_number
named n other = by (n == 50) (n == 51) (n == 53) (n == 56) (n == 57) refl refl refl refl refl other
  where
    kind : Bool → Bool → Bool → Bool → Bool → PayloadProtocolIdentifier
    kind a b c d e =
        if a then Dcep else (if b then String else (if c then Binary else (if d then StringEmpty else (if e then BinaryEmpty else Unknown))))

    by : (a b c d e : Bool) → (n == 50) ≡ a → (n == 51) ≡ b → (n == 53) ≡ c → (n == 56) ≡ d → (n == 57) ≡ e
        → (payload_type_number (kind a b c d e) ≡ 58 → ⊥) → payload_type_number (kind a b c d e) ≡ n
    by true b c d e p q r s t h = same-number n 50 p
    by false true c d e p q r s t h = same-number n 51 q
    by false false true d e p q r s t h = same-number n 53 r
    by false false false true e p q r s t h = same-number n 56 s
    by false false false false true p q r s t h = same-number n 57 t
    by false false false false false p q r s t h = absurd (h refl)

-- a chunk of a payload type that has a name is sent with that, and another one with what is noted of its message
type-by : (rs : List Noted) (p : PayloadProtocolIdentifier) (m n : ℕ) (b : Bool) → (payload_type_number p == 58) ≡ b
    → (b ≡ true → type_of m rs ≡ n) → (b ≡ false → payload_type_number p ≡ n) → (if b then type_of m rs else payload_type_number p) ≡ n
type-by rs p m n true e without under = without refl
type-by rs p m n false e without under = under refl

-- each fragment of a message is sent with the number
pub all-typed : (l : OutboundStream) (p : PayloadProtocolIdentifier) (m n : ℕ) (bytes : List ℕ) (rs : List Noted)
    → ((payload_type_number p == 58) ≡ true → type_of m rs ≡ n) → ((payload_type_number p == 58) ≡ false → payload_type_number p ≡ n)
    → All (λ (c : ChunkPayloadData). type_sent rs c ≡ n) (map (with_message_id m) (fragments_with_mode l p bytes))
all-typed l p m n bytes rs without under =
    let f : ChunkPayloadData → ChunkPayloadData = with_reliability l.reliability_type l.reliability_value in
    All-map (λ (c : ChunkPayloadData). type_sent rs c ≡ n) (with_message_id m) (fragments_with_mode l p bytes)
    (All-map (λ (c : ChunkPayloadData). type_sent rs (with_message_id m c) ≡ n) f (fragments_of l p bytes)
    (All-map (λ (c : ChunkPayloadData). type_sent rs (with_message_id m (f c)) ≡ n) (fragment_at l p bytes) (numbers_from 0 (length (pieces_of l bytes)))
    (λ k d lt. type-by rs p m n (payload_type_number p == 58) refl without under)))

-- ## What is noted

-- the row of the message stands in front of the others as far as any lookup tells
pub noted-front : (m n k : ℕ) (old new : List Noted) → type_of m new ≡ n → ((k : ℕ) → (k ≡ m → ⊥) → type_of k new ≡ type_of k old)
    → type_of k new ≡ type_of k (noted m n ∷ old)
noted-front m n k old new given others = by (m == k) refl
  where
    by : (b : Bool) → (m == k) ≡ b → type_of k new ≡ (if b then n else type_of k old)
    by true e = ap (λ j. type_of j new) (same-number m k e) ∙ given
    by false e = others k (λ same. grind (arith, nat_tests, e, same))

same-sent : (a b : List Noted) (c : ChunkPayloadData) → ((m : ℕ) → type_of m a ≡ type_of m b) → type_sent a c ≡ type_sent b c
same-sent a b c same = ap (λ t. if payload_type_number c.payload_type == 58 then t else payload_type_number c.payload_type) (same c.message_id)

same-all : (a b new : List Noted) (o : Option ChunkPayloadData) → ((m : ℕ) → type_of m a ≡ type_of m b)
    → IfSome o (λ c. type_sent new c ≡ type_sent a c) → IfSome o (λ c. type_sent new c ≡ type_sent b c)
same-all a b new None same h = tt
same-all a b new (Some c) same h = h ∙ same-sent a b c same

pub keeps-from : (a b new : List Noted) (q : Outbound) → ((m : ℕ) → type_of m a ≡ type_of m b) → KeepsTypes a new q → KeepsTypes b new q
keeps-from a b new q same h = record {
  waiting = λ i lt. same-all a b new (next_pending (after_sends i q.pending)) same (h.waiting i lt);
  sent = λ i lt. same-all a b new (slice_get q.inflight.chunks i) same (h.sent i lt);
}

keeps-one : (rs : List Noted) (o : Option ChunkPayloadData) → IfSome o (λ c. type_sent rs c ≡ type_sent rs c)
keeps-one rs None = tt
keeps-one rs (Some c) = refl

pub keeps-all : (rs : List Noted) (q : Outbound) → KeepsTypes rs rs q
keeps-all rs q = record {
  waiting = λ i lt. keeps-one rs (next_pending (after_sends i q.pending));
  sent = λ i lt. keeps-one rs (slice_get q.inflight.chunks i);
}

-- what was noted at a place is taken out again
pub forgotten : (rs : List Noted) (n : ℕ) (y : Noted) → n ≤ length rs → remove (insert rs n y) n ≡ rs
forgotten rs zero y le = refl
forgotten [] (suc n) y le = absurd (omega arith)
forgotten (r ∷ rs) (suc n) y le = ap (λ l. r ∷ l) (forgotten rs n y (omega arith))

-- ## A write

pub writes : (stream payload_type number count : ℕ) (bytes : List ℕ) (ppi : PayloadProtocolIdentifier) (old new : TypedSender)
    → ppi ≡ payload_type_from payload_type
    → ((payload_type_number ppi == 58) ≡ true → type_of number new.types ≡ payload_type)
    → ((payload_type_number ppi == 58) ≡ false → payload_type_number ppi ≡ payload_type)
    → (new.types ≡ old.types) ⊎ KeepsTypes (noted number payload_type ∷ old.types) new.types new.own.flight.queue
    → write_refusal stream (length bytes) old.own ≡ None
    → (0 < length bytes → (l : OutboundStream) → stream_of stream old.own ≡ Some l → new.own ≡ written_to l stream ppi bytes old.own)
    → Some number ≡ (if length bytes == 0 then None else Some old.own.flight.queue.next_message_id) → ((l : OutboundStream) → stream_of stream old.own ≡ Some l
    → 0 < length bytes → count ≡ length (fragments_with_mode l ppi bytes)) → (0 < length bytes) × Writes stream payload_type bytes number count old new
writes stream payload_type number count bytes ppi old new is without under others accepted after answered counted =
    let some = has-bytes number (length bytes) old.own.flight.queue.next_message_id answered in
    let found = opened stream (length bytes) old.own accepted in (
      some.0,
      record {
        state = found.0;
        found = found.1;
        typed = subst (λ (p : PayloadProtocolIdentifier). All (λ (c : ChunkPayloadData). type_sent new.types c ≡ payload_type)
            (map (with_message_id number) (fragments_with_mode found.0 p bytes))) is (all-typed found.0 ppi number payload_type bytes new.types without under);
        others = others;
        after = after some.0 found.0 found.1 ∙ ap (λ p. written_to found.0 stream p bytes old.own) is;
        message = some.1;
        count = counted found.0 found.1 some.0 ∙ ap (λ p. length (fragments_with_mode found.0 p bytes)) is;
      },
    )

-- a refusal of a write without bytes is none
pub no-bytes : (len next : ℕ) → None ≡ (if len == 0 then None else Some next) → len ≡ 0
no-bytes len next e = by (len == 0) refl
  where
    by : (b : Bool) → (len == 0) ≡ b → len ≡ 0
    by true z = grind (arith, nat_tests, z)
    by false z = absurd (none-some next (e ∙ ap (λ (c : Bool). if c then None else Some next) z))

-- a sender of which neither part changed
pub same-sender : (old : TypedSender) (own : Transmission) (types : List Noted) → own ≡ old.own → types ≡ old.types → record { own = own; types = types } ≡ old
same-sender old own types e f =
    ap (λ (t : Transmission). record { own = t; types = types }) e ∙ ap (λ (l : List Noted). record { own = old.own; types = l }) f

-- a write whose payload type has a name leaves what is noted as it was
pub writes-named : (stream payload_type : ℕ) (bytes : List ℕ) (ppi : PayloadProtocolIdentifier) (old : TypedSender) (own : Transmission)
    (r : Result (Option ℕ × ℕ) SenderRefusal) → ppi ≡ payload_type_from payload_type → (payload_type_number ppi ≡ 58 → ⊥)
    → (IsOk r → write_refusal stream (length bytes) old.own ≡ None)
    → (0 < length bytes → OnOk r ((l : OutboundStream) → stream_of stream old.own ≡ Some l → own ≡ written_to l stream ppi bytes old.own))
    → IfOk r (λ x. x.0 ≡ (if length bytes == 0 then None else Some old.own.flight.queue.next_message_id))
    → IfOk r (λ x. (l : OutboundStream) → stream_of stream old.own ≡ Some l → 0 < length bytes → x.1 ≡ length (fragments_with_mode l ppi bytes))
    → IfOk r (λ x. IfSome x.0 (λ n. (0 < length bytes) × Writes stream payload_type bytes n x.1 old (record { own = own; types = old.types })))
writes-named stream payload_type bytes ppi old own (Err e) is other accepted after answered counted = tt
writes-named stream payload_type bytes ppi old own (Ok x) is other accepted after answered counted = by x.0 answered
  where
    new : TypedSender
    new = record { own = own; types = old.types }

    by : (o : Option ℕ) → o ≡ (if length bytes == 0 then None else Some old.own.flight.queue.next_message_id)
        → IfSome o (λ n. (0 < length bytes) × Writes stream payload_type bytes n x.1 old new)
    by None e = tt
    by (Some n) e =
        writes stream payload_type n x.1 bytes ppi old new is
        (λ h. absurd (grind (arith, nat_tests, h, other)))
        (λ h. ap payload_type_number is ∙ named payload_type (λ k. other (ap payload_type_number is ∙ k)))
        (inl refl) (accepted (search rules)) after e counted
