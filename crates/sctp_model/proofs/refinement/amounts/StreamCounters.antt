-- The counters of a stream, and the bytes written in all, after each event.
use Rattle.sctp_model.proofs.Names.{◌≡◌, ℕ, ◌+◌, Bool, true, false, List, [], ◌∷◌, length, Some, None, refl, ap, ◌∙◌, arith, if◌then◌else◌, ◌==◌, ◌&&◌, not}
use Rattle.sctp_model.proofs.Names.{PayloadProtocolIdentifier, Dcep, String, Binary, StringEmpty, BinaryEmpty, Unknown, Event, Setup, LinkRecord, message_at}
use Rattle.sctp_model.proofs.Names.{is_open, stream_of, next_read, Counters, in_all, written_bytes, saturate, message_on, after_write, read_of, after_reading}
use Rattle.sctp_model.proofs.Names.{History, record_of, IsRun, refusal_of, after, IsSetup, is_write, is_read, counters_on, nat_tests}
use Rattle.std.proofs.Common.{add-zero}
use Rattle.sctp_data.specs.PayloadTypes.{counted_as, has_bytes, is_counted}
use Rattle.sctp_model.specs.declared.event.Event.TheVariants as E
use Rattle.sctp_model.specs.Amounts.{on_stream, message_count, counted_bytes, if_read}
use Rattle.sctp_model.proofs.sender.SenderRun.{Consistent}
use Rattle.sctp_model.specs.refinement.Counts.{no_counters, count_more, sent_more, received_more}
use Rattle.sctp_model.proofs.refinement.amounts.MessageSums.{sum-written, sum-same}
use Rattle.sctp_model.proofs.refinement.amounts.StreamAmounts.{stream-open, write-open, none-written}
use Rattle.sctp_model.proofs.refinement.amounts.AnsweredSums.{AsAnswered, read-after, answered-after, answered-read_of, answered_on, read_on, answered_on-same}
use Rattle.sctp_model.proofs.refinement.amounts.AnsweredSums.{read_on-same, answered_on-wrote}
use Rattle.sctp_model.proofs.refinement.amounts.AnsweredSums.{read_on-wrote, read_on-read}

-- ## The bytes written in all

pub written-wrote : (w : LinkRecord) (s : ℕ) (ppi : PayloadProtocolIdentifier) (bytes : List ℕ)
    → in_all (after_write w s ppi bytes) (written_bytes (after_write w s ppi bytes)) ≡ in_all w (written_bytes w) + length bytes
written-wrote w s ppi [] = omega arith
written-wrote w s ppi (b ∷ bs) = sum-written w (message_on w (stream_of w s) ppi (b ∷ bs)) (λ m. true) (λ m. length m.bytes)

pub written-same : (setup : Setup) (w : LinkRecord) (e : Event) → Consistent setup w → is_write e ≡ false
    → in_all (after w e) (written_bytes (after w e)) ≡ in_all w (written_bytes w)
written-same setup w e g a = let t = answered-after setup w e g a in
    sum-same w (after w e) (λ m. true) (λ m. length m.bytes) t.count (λ n lt. refl) (λ n lt. ap length (t.bytes n lt))

-- ## The four sums

abbrev one : PayloadProtocolIdentifier → List ℕ → ℕ
one ppi bytes = if is_counted ppi then 1 else 0

abbrev size : PayloadProtocolIdentifier → List ℕ → ℕ
size ppi bytes = if has_bytes ppi then length bytes else 0

-- a write of at least one byte is one message sent, where its kind counts
pub sent-wrote : (w : LinkRecord) (s t : ℕ) (ppi : PayloadProtocolIdentifier) (bytes : List ℕ) → refusal_of w (E.Write s ppi bytes) ≡ None
    → on_stream (after_write w s ppi bytes) t (message_count (after_write w s ppi bytes))
    ≡ on_stream w t (message_count w) + (if (t == s) && not (length bytes == 0) then one ppi bytes else 0)
sent-wrote w s t ppi bytes ok = answered_on-wrote w s t ppi bytes one (stream-open w s (write-open w s ppi bytes ok))

-- and as many bytes
pub bytes_sent-wrote : (w : LinkRecord) (s t : ℕ) (ppi : PayloadProtocolIdentifier) (bytes : List ℕ) → refusal_of w (E.Write s ppi bytes) ≡ None
    → on_stream (after_write w s ppi bytes) t (counted_bytes (after_write w s ppi bytes))
    ≡ on_stream w t (counted_bytes w) + (if (t == s) && not (length bytes == 0) then size ppi bytes else 0)
bytes_sent-wrote w s t ppi bytes ok = answered_on-wrote w s t ppi bytes size (stream-open w s (write-open w s ppi bytes ok))

-- a read is one message received, where its kind counts
pub received-read : (setup : Setup) (h : History) → IsSetup setup → IsRun setup h → (s t n : ℕ) → next_read (record_of setup h) s ≡ Some n
    → on_stream (after_reading (record_of setup h) s) t (if_read (after_reading (record_of setup h) s) (message_count (after_reading (record_of setup h) s)))
    ≡ on_stream (record_of setup h) t (if_read (record_of setup h) (message_count (record_of setup h)))
    + (if t == s then message_count (record_of setup h) n else 0)
received-read setup h is run s t n e = read_on-read setup h is run s t n one e

-- and as many bytes
pub bytes_received-read : (setup : Setup) (h : History) → IsSetup setup → IsRun setup h → (s t n : ℕ) → next_read (record_of setup h) s ≡ Some n
    → on_stream (after_reading (record_of setup h) s) t (if_read (after_reading (record_of setup h) s) (counted_bytes (after_reading (record_of setup h) s)))
    ≡ on_stream (record_of setup h) t (if_read (record_of setup h) (counted_bytes (record_of setup h)))
    + (if t == s then counted_bytes (record_of setup h) n else 0)
bytes_received-read setup h is run s t n e = read_on-read setup h is run s t n size e

-- ## Counters, which stop at the greatest u64

abbrev counters_by : ℕ → ℕ → ℕ → ℕ → ℕ → Counters
counters_by s a b c d = record {
  stream_identifier = s;
  generation = 0;
  messages_sent = saturate a;
  bytes_sent = saturate b;
  messages_received = saturate c;
  bytes_received = saturate d;
}

pub saturated-more : (a b : ℕ) → saturate (a + b) ≡ count_more (saturate a) b
saturated-more a b = omega arith

sent-added : (s a b c d : ℕ) (ppi : PayloadProtocolIdentifier) (bytes : List ℕ)
    → counters_by s (a + one ppi bytes) (b + size ppi bytes) c d ≡ sent_more (counted_as ppi (length bytes)) (counters_by s a b c d)
sent-added s a b c d String bytes = cc (saturated-more a 1, saturated-more b (length bytes))
sent-added s a b c d Binary bytes = cc (saturated-more a 1, saturated-more b (length bytes))
sent-added s a b c d StringEmpty bytes = cc (saturated-more a 1, saturated-more b 0)
sent-added s a b c d BinaryEmpty bytes = cc (saturated-more a 1, saturated-more b 0)
sent-added s a b c d Dcep bytes = cc (add-zero a, add-zero b)
sent-added s a b c d Unknown bytes = cc (add-zero a, add-zero b)

received-added : (s a b c d : ℕ) (ppi : PayloadProtocolIdentifier) (bytes : List ℕ)
    → counters_by s a b (c + one ppi bytes) (d + size ppi bytes) ≡ received_more (counted_as ppi (length bytes)) (counters_by s a b c d)
received-added s a b c d String bytes = cc (saturated-more c 1, saturated-more d (length bytes))
received-added s a b c d Binary bytes = cc (saturated-more c 1, saturated-more d (length bytes))
received-added s a b c d StringEmpty bytes = cc (saturated-more c 1, saturated-more d 0)
received-added s a b c d BinaryEmpty bytes = cc (saturated-more c 1, saturated-more d 0)
received-added s a b c d Dcep bytes = cc (add-zero c, add-zero d)
received-added s a b c d Unknown bytes = cc (add-zero c, add-zero d)

counters-sums : (w v : LinkRecord) (t a b c d : ℕ) → answered_on v t one ≡ a → answered_on v t size ≡ b → read_on v t one ≡ c → read_on v t size ≡ d
    → counters_on v t ≡ counters_by t a b c d
counters-sums w v t a b c d e f g h = cc (e, f, g, h)

-- a write is counted on its stream, where it has a byte
pub counters-wrote : (w : LinkRecord) (s t : ℕ) (ppi : PayloadProtocolIdentifier) (bytes : List ℕ) → refusal_of w (E.Write s ppi bytes) ≡ None
    → counters_on (after_write w s ppi bytes) t
    ≡ (if (t == s) && not (length bytes == 0) then sent_more (counted_as ppi (length bytes)) (counters_on w t) else counters_on w t)
counters-wrote w s t ppi bytes ok = grind (arith, nat_tests, counters-sums, read_on, sent-wrote, bytes_sent-wrote, read_on-wrote, sent-added)

-- a read is counted on its stream
pub counters-read : (setup : Setup) (h : History) → IsSetup setup → IsRun setup h → (s t n : ℕ) → next_read (record_of setup h) s ≡ Some n
    → counters_on (after_reading (record_of setup h) s) t ≡ (if t == s then received_more (counted_as (message_at (record_of setup h) n).ppi
    (length (message_at (record_of setup h) n).bytes)) (counters_on (record_of setup h) t) else counters_on (record_of setup h) t)
counters-read setup h is run s t n e =
    let w = record_of setup h in
    let v = after_reading w s in
    let answered : AsAnswered w v = answered-read_of w s (next_read w s) in
    let m = message_at w n in
    counters-sums w v t (answered_on w t one) (answered_on w t size) (read_on w t one + (if t == s then one m.ppi m.bytes else 0))
    (read_on w t size + (if t == s then size m.ppi m.bytes else 0))
    (answered_on-same w v t one answered) (answered_on-same w v t size answered) (received-read setup h is run s t n e)
    (bytes_received-read setup h is run s t n e) ∙ by w m.ppi m.bytes (t == s)
  where
    by : (w : LinkRecord) (ppi : PayloadProtocolIdentifier) (bytes : List ℕ) (c : Bool) → counters_by t (answered_on w t one) (answered_on w t size)
        (read_on w t one + (if c then one ppi bytes else 0)) (read_on w t size + (if c then size ppi bytes else 0))
        ≡ (if c then received_more (counted_as ppi (length bytes)) (counters_on w t) else counters_on w t)
    by w ppi bytes b = grind (arith, nat_tests, received-added, read_on)

-- where nothing is left to read nothing is counted
pub counters-nothing : (w : LinkRecord) (s t : ℕ) → next_read w s ≡ None → counters_on (after_reading w s) t ≡ counters_on w t
counters-nothing w s t e = ap (λ o. counters_on (read_of w s o) t) e

-- but for writes and reads, each event leaves the counters
pub counters-same : (setup : Setup) (w : LinkRecord) (e : Event) (t : ℕ) → Consistent setup w → is_write e ≡ false → is_read e ≡ false
    → counters_on (after w e) t ≡ counters_on w t
counters-same setup w e t g a b = grind (arith, nat_tests, read-after, counters-sums, read_on, answered_on-same, read_on-same)

-- a stream that is not open has counted nothing
pub counters-none : (setup : Setup) (w : LinkRecord) (t : ℕ) → Consistent setup w → is_open w t ≡ false → counters_on w t ≡ no_counters t
counters-none setup w t g e = grind (arith, nat_tests, none-written)
