-- What a stream still has to send or to see acknowledged, after each event.
use Rattle.sctp_model.proofs.Names.{◌≡◌, ℕ, ◌+◌, ◌-◌, ◌<◌, ◌^◌, Bool, true, false, List, [], ◌∷◌, length, get_or, Option, Some, None, refl, ap, sym, ◌∙◌, arith}
use Rattle.sctp_model.proofs.Names.{fun_ext, if◌then◌else◌, ◌==◌, ◌&&◌, ◌||◌, not, nat_le, nat_lt, slice_get, slice_index_or, numbers_where, total_over, pieces}
use Rattle.sctp_model.proofs.Names.{by_same, same-yes, same-is, kept-same, kept-none, fails, not_both, kept-short, total-plus, total-kept_same}
use Rattle.sctp_model.proofs.Names.{PayloadProtocolIdentifier, Event, StreamUnknown, MessageTooLarge, TsnsUsedUp, Setup, Message, LinkRecord, message_at}
use Rattle.sctp_model.proofs.Names.{message_of, messages_where, slots_where, is_open, stream_of, no_message, front, next_read, is_expired_or_abandoned}
use Rattle.sctp_model.proofs.Names.{written_bytes, unsent_bytes, pending_bytes, in_flight_bytes, message_on, after_write, refusal_of, after, unless}
use Rattle.sctp_model.proofs.Names.{fragments_accepted, fragments_in, IsSetup, amount, keeps_amounts, stream_of_slot, bytes_at, acknowledged_at, nat_tests}
use Rattle.sctp_model.specs.declared.event.Event.TheVariants as E
use Rattle.sctp_model.specs.Amounts.{unacknowledged_bytes, acknowledged_bytes}
use Rattle.sctp_model.specs.Changes
use Rattle.sctp_model.proofs.sender.Shape.{Shape, shape, has}
use Rattle.sctp_model.proofs.sender.Sender.{Sender}
use Rattle.sctp_model.proofs.sender.SenderRun.{Consistent, consistent-after, unless-holds, found}
use Rattle.sctp_model.proofs.sender.Shapes
use Rattle.sctp_model.proofs.sender.Moves
use Rattle.sctp_model.proofs.sender.Moves.{Quiet}
use Rattle.sctp_model.proofs.sender.Network
use Rattle.sctp_model.proofs.acknowledgement.Acknowledged.{as-datagram, as-read}
use Rattle.sctp_model.proofs.acknowledgement.Bytes.{balance, size-some}
use Rattle.sctp_model.proofs.acknowledgement.BytesAnswered.{messages-sent}
use Rattle.sctp_model.proofs.sender.Lifetimes.{count-sent}
use Rattle.sctp_model.proofs.refinement.amounts.MessageSums.{is_on, sum_where, sum-written, sum-same}
use Rattle.sctp_model.proofs.refinement.acknowledging.Unacked.{bytes_where, bytes-by_slot, pending_on_by}
use Rattle.sctp_model.proofs.refinement.sending.InLine.{message-before}

-- ## What neither expired nor was abandoned is still to be sent, or acknowledged

-- the bytes of a message that neither expired nor was abandoned
abbrev alive_bytes : Message → ℕ
alive_bytes m = if m.expired || m.abandoned then 0 else length m.bytes

abbrev acked_on : LinkRecord → ℕ → ℕ
acked_on w t = total_over (bytes_at w) (slots_where w (λ p. acknowledged_at w p && (stream_of_slot w p == t)))

amount-rest : (w : LinkRecord) (t : ℕ) → Sender (shape w) → 0 < w.setup.size → amount w t + acked_on w t ≡ sum_where w (is_on t) alive_bytes
amount-rest w t s pos =
    let q : ℕ → Bool = λ n. (message_at w n).stream == t in
    let two : ℕ → ℕ = λ n. pending_bytes w n + in_flight_bytes w n in
    let a = total-plus (pending_bytes w) (in_flight_bytes w) two q 0 (length w.messages) (λ n i j. refl) in
    let b = total-plus two (bytes_where w (acknowledged_at w)) (λ n. alive_bytes (message_at w n)) q 0 (length w.messages)
    (λ n i j. each n (is_expired_or_abandoned w n) (balance w n s pos (omega arith))) in
    let c = bytes-by_slot w q (acknowledged_at w) s in
    omega (arith, a, b, c)
  where
    each : (n : ℕ) (g : Bool)
        → (if g then 0 else unsent_bytes w n) + (if g then 0 else unacknowledged_bytes w n) + (if g then written_bytes w n else acknowledged_bytes w n)
        ≡ written_bytes w n → (if g then 0 else unsent_bytes w n) + (if g then 0 else unacknowledged_bytes w n) + (if g then 0 else acknowledged_bytes w n)
        ≡ (if g then 0 else written_bytes w n)
    each n true e = refl
    each n false e = e

-- ## The sender's events

abbrev SameGone : LinkRecord → LinkRecord → Type 0
SameGone w v = (n : ℕ) → n < length w.messages → is_expired_or_abandoned v n ≡ is_expired_or_abandoned w n

module _ (w v : LinkRecord) (s : Sender (shape w)) (q : Quiet w v) (gone : SameGone w v) where
  bytes_at-quiet : (p : ℕ) → p < length w.slots → bytes_at v p ≡ bytes_at w p
  bytes_at-quiet p lt = grind (arith, nat_tests)

  stream-quiet : (p : ℕ) → p < length w.slots → stream_of_slot v p ≡ stream_of_slot w p
  stream-quiet p lt = ap (λ y. (message_at v y.message).stream) (q.grows.slot p lt) ∙ ap (λ m. m.stream) (q.grows.message (message_of w p) (s.made p lt))

  acked-quiet : (t : ℕ) → acked_on v t ≡ acked_on w t
  acked-quiet t =
      let c : ℕ → Bool = λ p. acknowledged_at v p && (stream_of_slot v p == t) in
      let more : length v.slots ≡ length w.slots + (length v.slots - length w.slots) = omega (arith, q.grows.slots) in
      ap (total_over (bytes_at v)) (kept-short c 0 (length w.slots) (length v.slots - length w.slots) (length v.slots) more
      (λ k a b. ap (λ d. d && (stream_of_slot v k == t)) (q.fresh k (omega arith) (omega arith))))
      ∙ total-kept_same (bytes_at v) (bytes_at w) c 0 (length w.slots) (λ k a b. bytes_at-quiet k (omega arith))
      ∙ ap (total_over (bytes_at w)) (kept-same c (λ p. acknowledged_at w p && (stream_of_slot w p == t)) 0 (length w.slots) (λ k a b.
      ap (λ d. d && (stream_of_slot v k == t)) (q.acknowledged k (omega arith)) ∙ ap (λ r. acknowledged_at w k && (r == t)) (stream-quiet k (omega arith))))

  alive-quiet : (t : ℕ) → length v.messages ≡ length w.messages → sum_where v (is_on t) alive_bytes ≡ sum_where w (is_on t) alive_bytes
  alive-quiet t count = grind (arith, nat_tests, sum-same, is_on)

-- where the sender gives nothing up and writes nothing, each stream has as much to send or to see acknowledged as before
pub amount-quiet : (setup : Setup) (w v : LinkRecord) (t : ℕ) → IsSetup setup → Consistent setup w → Consistent setup v → Quiet w v → SameGone w v
    → length v.messages ≡ length w.messages → amount v t ≡ amount w t
amount-quiet setup w v t is g h q gone count = grind (arith, nat_tests, amount-rest, size-some, acked-quiet, alive-quiet)

-- ## Writes

gone-wrote : (w : LinkRecord) (s : ℕ) (ppi : PayloadProtocolIdentifier) (bytes : List ℕ) → SameGone w (after_write w s ppi bytes)
gone-wrote w s ppi [] n lt = refl
gone-wrote w s ppi (b ∷ bs) n lt = ap (λ m. m.expired || m.abandoned) (message-before w (message_on w (stream_of w s) ppi (b ∷ bs)) n lt)

-- an open stream's record has its number
pub stream-open : (w : LinkRecord) (s : ℕ) → is_open w s ≡ true → (stream_of w s).stream ≡ s
stream-open w s e = grind (arith, nat_tests, found)

-- the stream of an accepted write is open
pub write-open : (w : LinkRecord) (s : ℕ) (ppi : PayloadProtocolIdentifier) (bytes : List ℕ) → refusal_of w (E.Write s ppi bytes) ≡ None → is_open w s ≡ true
write-open w s ppi bytes ok = (unless-holds (is_open w s) StreamUnknown (unless (nat_le (length bytes) w.setup.largest) MessageTooLarge
    (unless (nat_lt (fragments_accepted w + fragments_in w bytes) (2 ^ 31)) TsnsUsedUp None)) ok).0

pub same-turned : (s t : ℕ) → (s == t) ≡ (t == s)
same-turned s t = by_same s t (λ e. ap (λ k. k == t) e ∙ same-yes t ∙ sym (ap (λ k. t == k) e ∙ same-yes t))
    (λ ne f. f ∙ sym (fails (t == s) (λ e. ne (sym (same-is t s e)))))

alive-wrote : (w : LinkRecord) (s t : ℕ) (ppi : PayloadProtocolIdentifier) (bytes : List ℕ) → (stream_of w s).stream ≡ s
    → sum_where (after_write w s ppi bytes) (is_on t) alive_bytes ≡ sum_where w (is_on t) alive_bytes + (if t == s then length bytes else 0)
alive-wrote w s t ppi [] e = grind (arith, nat_tests, is_on)
alive-wrote w s t ppi (b ∷ bs) e = cc (sum-written w (message_on w (stream_of w s) ppi (b ∷ bs)) (is_on t) alive_bytes, e, same-turned s t)

-- a write adds its bytes to its stream
pub amount-wrote : (setup : Setup) (w : LinkRecord) (s t : ℕ) (ppi : PayloadProtocolIdentifier) (bytes : List ℕ) → IsSetup setup → Consistent setup w
    → refusal_of w (E.Write s ppi bytes) ≡ None → amount (after_write w s ppi bytes) t ≡ amount w t + (if t == s then length bytes else 0)
amount-wrote setup w s t ppi bytes is g ok =
    let v = after_write w s ppi bytes in
    let h = consistent-after setup w (E.Write s ppi bytes) ok g in
    let a = amount-rest w t g.sender (size-some setup w is g) in
    let b = amount-rest v t h.sender (size-some setup v is h) in
    let c = acked-quiet w v g.sender (Moves.quiet-written setup w s ppi bytes g) (gone-wrote w s ppi bytes) t in
    let d = alive-wrote w s t ppi bytes (stream-open w s (write-open w s ppi bytes ok)) in
    omega (arith, a, b, c, d)

-- ## The other events

gone-sent : (w : LinkRecord) (now : ℕ) (o : Option ℕ) → SameGone w (Changes.send_from (Changes.after_start w now) o)
gone-sent w now None n lt = ap (λ x. (x.message n).expired || (x.message n).abandoned) (Shapes.shape-started w now)
gone-sent w now (Some k) n lt =
    ap (λ ms. (slice_index_or ms n no_message).expired || (slice_index_or ms n no_message).abandoned) (messages-sent (Changes.after_start w now))
    ∙ ap (λ x. (x.message n).expired || (x.message n).abandoned) (Shapes.shape-started w now)

pub amount-sent : (setup : Setup) (w : LinkRecord) (now t : ℕ) → IsSetup setup → Consistent setup w → amount (Changes.after_send w now) t ≡ amount w t
amount-sent setup w now t is g = amount-quiet setup w (Changes.after_send w now) t is g (consistent-after setup w (E.Send now) refl g)
    (Moves.quiet-sent setup w now (front w) g) (gone-sent w now (front w)) (count-sent w now (front w))

-- the amount, over the shape of the record and what is acknowledged
abbrev in_flight_by : Shape → (ℕ → Bool) → ℕ → ℕ
in_flight_by x a n = if (x.message n).expired || (x.message n).abandoned then 0
    else total_over (λ p. length (get_or (pieces (length (x.message n).bytes) x.size (x.message n).bytes) (x.slot p).fragment []))
    (numbers_where (λ p. has x n p && not (a p)) 0 x.slots)

abbrev amount_by : Shape → (ℕ → Bool) → ℕ → ℕ
amount_by x a t = pending_on_by x t + total_over (in_flight_by x a) (numbers_where (λ n. (x.message n).stream == t) 0 x.count)

pub amount-shape : (w v : LinkRecord) (t : ℕ) → shape v ≡ shape w → ((p : ℕ) → acknowledged_at v p ≡ acknowledged_at w p) → amount v t ≡ amount w t
amount-shape w v t e a = ap (λ x. amount_by x (acknowledged_at v) t) e ∙ ap (λ f. amount_by (shape w) f t) (fun_ext a)

-- what is no write, gives nothing up and acknowledges nothing leaves each stream as it was
pub amount-same : (setup : Setup) (w : LinkRecord) (e : Event) (t : ℕ) → IsSetup setup → Consistent setup w → keeps_amounts e ≡ true
    → amount (after w e) t ≡ amount w t
amount-same setup w (E.Open s) t is g k = refl
amount-same setup w (E.Mode s a b c) t is g k = refl
amount-same setup w (E.Start now) t is g k = amount-shape w (Changes.after_start w now) t (Shapes.shape-started w now) (λ p. refl)
amount-same setup w (E.Send now) t is g k = amount-sent setup w now t is g
amount-same setup w (E.Resend a) t is g k = refl
amount-same setup w (E.Skip a b) t is g k = refl
amount-same setup w (E.Ack a) t is g k = refl
amount-same setup w (E.Arrive a) t is g k =
    amount-shape w (after w (E.Arrive a)) t (Network.same-received w (slice_get w.network a)).shape_is (as-datagram w (slice_get w.network a)).slots
amount-same setup w (E.Read s) t is g k =
    amount-shape w (after w (E.Read s)) t (Network.same-read w s (next_read w s)).shape_is (as-read w s (next_read w s)).slots
amount-same setup w event t is g k = cc

-- ## A stream that is not open

pub none-written : (setup : Setup) (w : LinkRecord) (t : ℕ) → Consistent setup w → is_open w t ≡ false
    → messages_where w (λ n. (message_at w n).stream == t) ≡ []
none-written setup w t g e = kept-none (λ n. (message_at w n).stream == t) 0 (length w.messages) (λ n a b.
    fails ((message_at w n).stream == t) (λ h. not_both (sym e ∙ ap (is_open w) (sym (same-is (message_at w n).stream t h)) ∙ g.known n (omega arith))))

pub amount-none : (setup : Setup) (w : LinkRecord) (t : ℕ) → Consistent setup w → is_open w t ≡ false → amount w t ≡ 0
amount-none setup w t g e = ap (λ l. total_over (pending_bytes w) l + total_over (in_flight_bytes w) l) (none-written setup w t g e)
