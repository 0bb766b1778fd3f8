-- What an event leaves of the messages as they were written and read, and sums over the messages of a stream.
use Rattle.sctp_model.proofs.Names.{◌≡◌, ℕ, ◌+◌, ◌<◌, Bool, true, false, List, [], ◌∷◌, length, Option, Some, None, refl, ap, sym, ◌∙◌, arith, if◌then◌else◌}
use Rattle.sctp_model.proofs.Names.{◌==◌, ◌&&◌, not, slice_get, nat_tests, numbers_where, total_over, length-changed, changed-keeps, changed-same}
use Rattle.sctp_model.proofs.Names.{changed-other, total-one, total-where, PayloadProtocolIdentifier, Event, Setup, LinkRecord, message_at, stream_of}
use Rattle.sctp_model.proofs.Names.{no_message, next_read, after_write, read_of, after_reading, mark_read, History, record_of, IsRun, after, IsSetup, is_write}
use Rattle.sctp_model.proofs.Names.{is_read}
use Rattle.sctp_model.specs.declared.event.Event.TheVariants as E
use Rattle.sctp_model.proofs.sender.SenderRun.{Consistent}
use Rattle.sctp_model.proofs.sender.Moves
use Rattle.sctp_model.proofs.sender.Moves.{Quiet}
use Rattle.sctp_model.proofs.sender.Lifetimes.{messages-received, messages-taken, count-after}
use Rattle.sctp_model.proofs.receiver.Known.{HasRead}
use Rattle.sctp_model.proofs.receiver.View.{view}
use Rattle.sctp_model.proofs.receiver.Shown.{has-read}
use Rattle.sctp_model.proofs.refinement.amounts.MessageSums.{is_on, sum_where, sum-written, sum-same}
use Rattle.sctp_model.proofs.refinement.amounts.StreamAmounts.{same-turned}

-- ## What an event leaves

-- the messages of v are those of w, as they were written
pub record AsAnswered (w v : LinkRecord) : Type 0 where
  pub count : length v.messages ≡ length w.messages
  pub stream : (n : ℕ) → n < length w.messages → (message_at v n).stream ≡ (message_at w n).stream
  pub ppi : (n : ℕ) → n < length w.messages → (message_at v n).ppi ≡ (message_at w n).ppi
  pub bytes : (n : ℕ) → n < length w.messages → (message_at v n).bytes ≡ (message_at w n).bytes

-- and the same were read
pub record AsRead (w v : LinkRecord) : Type 0 where
  pub answered : AsAnswered w v
  pub read : (n : ℕ) → n < length w.messages → (message_at v n).read ≡ (message_at w n).read

pub read-quiet : (w v : LinkRecord) → length v.messages ≡ length w.messages → Quiet w v → AsRead w v
read-quiet w v count q = grind (arith, nat_tests)

read-messages : (w v : LinkRecord) → v.messages ≡ w.messages → AsRead w v
read-messages w v e = grind (arith, nat_tests)

pub read-after : (setup : Setup) (w : LinkRecord) (e : Event) → Consistent setup w → is_write e ≡ false → is_read e ≡ false → AsRead w (after w e)
read-after setup w (E.Write s x y) g a b = cc
read-after setup w (E.Arrive k) g a b = read-messages w (after w (E.Arrive k)) (messages-received w (slice_get w.network k))
read-after setup w (E.Acked k) g a b = read-messages w (after w (E.Acked k)) (messages-taken w (slice_get w.network k))
read-after setup w (E.Read s) g a b = cc
read-after setup w (E.Open s) g a b = read-messages w (after w (E.Open s)) refl
read-after setup w (E.Mode s u x y) g a b = read-messages w (after w (E.Mode s u x y)) refl
read-after setup w (E.Ack x) g a b = read-messages w (after w (E.Ack x)) refl
read-after setup w event g a b = read-quiet w (after w event) (count-after w event refl) (Moves.quiet-after setup w event refl g)

pub answered-read_of : (w : LinkRecord) (s : ℕ) (o : Option ℕ) → AsAnswered w (read_of w s o)
answered-read_of w s None = record { count = refl; stream = λ n lt. refl; ppi = λ n lt. refl; bytes = λ n lt. refl }
answered-read_of w s (Some k) = record {
  count = length-changed mark_read k w.messages;
  stream = λ n lt. changed-keeps mark_read (λ m. m.stream) (λ m. refl) k n w.messages no_message;
  ppi = λ n lt. changed-keeps mark_read (λ m. m.ppi) (λ m. refl) k n w.messages no_message;
  bytes = λ n lt. changed-keeps mark_read (λ m. m.bytes) (λ m. refl) k n w.messages no_message;
}

-- but for writes, each event leaves the messages as they were written
pub answered-after : (setup : Setup) (w : LinkRecord) (e : Event) → Consistent setup w → is_write e ≡ false → AsAnswered w (after w e)
answered-after setup w e g a = by (is_read e) refl
  where
    read : (e : Event) → is_read e ≡ true → AsAnswered w (after w e)
    read (E.Read s) h = answered-read_of w s (next_read w s)
    read event h = cc

    by : (b : Bool) → is_read e ≡ b → AsAnswered w (after w e)
    by true h = read e h
    by false h = (read-after setup w e g a h).answered

-- ## Sums

-- a sum over the messages of stream t, of their payload types and bytes
abbrev pub answered_on : LinkRecord → ℕ → (PayloadProtocolIdentifier → List ℕ → ℕ) → ℕ
answered_on w t g = sum_where w (is_on t) (λ m. g m.ppi m.bytes)

-- over those that were read
abbrev pub read_on : LinkRecord → ℕ → (PayloadProtocolIdentifier → List ℕ → ℕ) → ℕ
read_on w t g = sum_where w (is_on t) (λ m. if m.read then g m.ppi m.bytes else 0)

pub answered_on-same : (w v : LinkRecord) (t : ℕ) (g : PayloadProtocolIdentifier → List ℕ → ℕ) → AsAnswered w v → answered_on v t g ≡ answered_on w t g
answered_on-same w v t g a = sum-same w v (is_on t) (λ m. g m.ppi m.bytes) a.count (λ n lt. ap (λ k. k == t) (a.stream n lt))
    (λ n lt. ap (λ p. g p (message_at v n).bytes) (a.ppi n lt) ∙ ap (g (message_at w n).ppi) (a.bytes n lt))

pub read_on-same : (w v : LinkRecord) (t : ℕ) (g : PayloadProtocolIdentifier → List ℕ → ℕ) → AsRead w v → read_on v t g ≡ read_on w t g
read_on-same w v t g a = grind (arith, nat_tests, sum-same, is_on)

-- a write adds its message to its stream
pub answered_on-wrote : (w : LinkRecord) (s t : ℕ) (ppi : PayloadProtocolIdentifier) (bytes : List ℕ) (g : PayloadProtocolIdentifier → List ℕ → ℕ)
    → (stream_of w s).stream ≡ s
    → answered_on (after_write w s ppi bytes) t g ≡ answered_on w t g + (if (t == s) && not (length bytes == 0) then g ppi bytes else 0)
answered_on-wrote w s t ppi [] g e = grind (arith, nat_tests)
answered_on-wrote w s t ppi (b ∷ bs) g e = grind (arith, nat_tests, sum-written, is_on, same-turned)

-- it was not read yet
pub read_on-wrote : (w : LinkRecord) (s t : ℕ) (ppi : PayloadProtocolIdentifier) (bytes : List ℕ) (g : PayloadProtocolIdentifier → List ℕ → ℕ)
    → read_on (after_write w s ppi bytes) t g ≡ read_on w t g
read_on-wrote w s t ppi [] g = refl
read_on-wrote w s t ppi (b ∷ bs) g = grind (arith, nat_tests, sum-written, is_on)

-- a read adds the message that it reads
pub read_on-read : (setup : Setup) (h : History) → IsSetup setup → IsRun setup h → (s t n : ℕ) (g : PayloadProtocolIdentifier → List ℕ → ℕ)
    → next_read (record_of setup h) s ≡ Some n → read_on (after_reading (record_of setup h) s) t g
    ≡ read_on (record_of setup h) t g + (if t == s then g (message_at (record_of setup h) n).ppi (message_at (record_of setup h) n).bytes else 0)
read_on-read setup h is run s t n g e =
    ap (λ o. read_on (read_of w s o) t g) e
    ∙ ap (λ c. total_over (value v) (numbers_where (λ k. on v k) 0 c)) (length-changed mark_read n w.messages)
    ∙ total-where (value v) (λ k. on v k) 0 (length w.messages)
    ∙ sym (total-one (λ k. if on w k then value w k else 0) (λ k. if on v k then value v k else 0) n (if t == s then all n
    else 0) 0 (length w.messages) (omega arith) (omega (arith, r.made))
    (λ k ne. ap (λ m. if m.stream == t then (if m.read then g m.ppi m.bytes else 0) else 0) (sym (changed-other mark_read n k w.messages no_message ne)))
    (ap (λ b. (if on w n then (if b then all n else 0) else 0) + (if t == s then all n else 0)) r.unread
    ∙ ap (λ k. (if k == t then 0 else 0) + (if t == s then all n else 0)) r.stream ∙ here (s == t) (t == s) (same-turned s t)
    ∙ sym (ap (λ m. if m.stream == t then (if m.read then g m.ppi m.bytes else 0) else 0) (changed-same mark_read n w.messages no_message r.made)
    ∙ ap (λ k. if k == t then all n else 0) r.stream)))
    ∙ ap (λ k. k + (if t == s then all n else 0)) (sym (total-where (value w) (λ k. on w k) 0 (length w.messages)))
  where
    w : LinkRecord
    w = record_of setup h

    v : LinkRecord
    v = read_of (record_of setup h) s (Some n)

    on : LinkRecord → ℕ → Bool
    on u k = (message_at u k).stream == t

    value : LinkRecord → ℕ → ℕ
    value u k = if (message_at u k).read then g (message_at u k).ppi (message_at u k).bytes else 0

    all : ℕ → ℕ
    all k = g (message_at (record_of setup h) k).ppi (message_at (record_of setup h) k).bytes

    r : HasRead (view (record_of setup h)) s n
    r = has-read setup h is run s n e

    here : (a b : Bool) → a ≡ b → (if a then 0 else 0) + (if b then all n else 0) ≡ (if a then all n else 0)
    here b c q = grind (arith, nat_tests)
