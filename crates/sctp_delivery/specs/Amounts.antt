-- The buffered amount of each stream, and what the sender tells of the chunks and messages that leave: by the calls of a session and their
-- answers alone (RFC 9260 6.2.1; RFC 3758 3.5).
use Rattle.std.specs.Prelude.{◌≡◌, ℕ, ◌+◌, ◌<◌, Bool, true, not, ◌&&◌, ◌||◌, ◌==◌, if◌then◌else◌, All, Contains, List, length, Option, Some, None}
use Rattle.std.specs.Prelude.{IfSome, option_to_list}
use Rattle.std.specs.List.{list_all, list_any, sum_by}
use Rattle.sctp_data.specs.PayloadData.{Data}
use Rattle.sctp_data.specs.SelectiveAck.{Sack}
use Rattle.sctp_outbound.specs.Marks.{is_of, is_outstanding}
use Rattle.sctp_outbound.specs.pending_queue.Whole.{waits}
use Rattle.sctp_serial.specs.DataChunks.{is_on}
use Rattle.sctp_sender.specs.declared.sender.Dropped.{Dropped}
use Rattle.sctp_sender.specs.declared.sender.Dropped.TheVariants.{Abandoned, Expired}
use Rattle.sctp_sender.specs.declared.sender.ExpiredMessage.{ExpiredMessage}
use Rattle.sctp_sender.specs.declared.sender.flight.Released.{Released}
use Rattle.sctp_sender.specs.declared.sender.flight.late.AbandonedMessage.{AbandonedMessage}
use Rattle.sctp_sender.specs.Sender.{Transmission, stream_of}
use Rattle.sctp_delivery.specs.SenderCalls.{SenderCall, SenderMakesEach, abandons, data_chunk, expires, expires_late, expires_rexmit}
use Rattle.sctp_delivery.specs.SenderCalls.{expires_tail, is_drop, takes_sack, writes}
use Rattle.sctp_delivery.specs.Session.{Call, Follows, Session, of_sender}

-- ## What was written and told

-- so many bytes of one stream, as those of another
abbrev pub bytes_for : ℕ → ℕ → ℕ → ℕ
bytes_for s stream bytes = if stream == s then bytes else 0

-- the bytes that a call writes on a stream
abbrev pub written_by : ℕ → Call → ℕ
written_by s (of_sender (writes stream ppi bytes)) = bytes_for s stream (length bytes)
written_by s _ = 0

-- those of chunks, of messages that were abandoned, and of one that expired unsent
abbrev pub bytes_of_chunks : ℕ → List Released → ℕ
bytes_of_chunks s rs = sum_by (λ r. bytes_for s r.stream r.bytes) rs

abbrev pub bytes_of_messages : ℕ → List AbandonedMessage → ℕ
bytes_of_messages s gs = sum_by (λ g. bytes_for s g.stream g.bytes) gs

abbrev pub bytes_of_unsent : ℕ → Option ExpiredMessage → ℕ
bytes_of_unsent s None = 0
bytes_of_unsent s (Some e) = bytes_for s e.stream e.bytes

-- the bytes that the answer of a call of the sender tells on a stream
abbrev pub told_of : ℕ → SenderCall → ℕ
told_of s (takes_sack sack gone) = bytes_of_chunks s gone
told_of s (abandons tsn a) = bytes_for s a.stream a.bytes
told_of s (expires now m) = bytes_of_unsent s m
told_of s (expires_tail now m) = bytes_of_messages s (option_to_list m)
told_of s (expires_late now gone) = bytes_of_messages s gone
told_of s (expires_rexmit gone) = bytes_of_messages s gone
told_of s _ = 0

abbrev pub told_by : ℕ → Call → ℕ
told_by s (of_sender call) = told_of s call
told_by s _ = 0

-- by all calls
abbrev pub written_on : ℕ → List Call → ℕ
written_on s calls = sum_by (written_by s) calls

abbrev pub told_on : ℕ → List Call → ℕ
told_on s calls = sum_by (told_by s) calls

-- ## What `drop_expired` tells

-- the bytes that its answer tells on a stream
abbrev pub bytes_of_drop : ℕ → Option Dropped → ℕ
bytes_of_drop s None = 0
bytes_of_drop s (Some (Expired run)) = bytes_for s run.stream run.bytes
bytes_of_drop s (Some (Abandoned gone)) = bytes_of_messages s gone.items

-- those that the answers of some calls tell
abbrev pub told_each : ℕ → List SenderCall → ℕ
told_each s calls = sum_by (told_of s) calls

-- some calls that give up what has expired at a moment, or start lifetimes then, and no other; their answers tell what its answer tells
abbrev pub Drops : Option Dropped → ℕ → Transmission → Transmission → Type 0
Drops answer now old new =
    (calls : List SenderCall)
    × (SenderMakesEach calls old new
    × ((list_all (is_drop now) calls ≡ true)
    × ((stream : ℕ) → told_each stream calls ≡ bytes_of_drop stream answer)))

-- ## The amounts

-- the amount of each open stream, with what was told on it, is what was written on it
abbrev pub AmountsAreLeft : List Call → Session → Type 0
AmountsAreLeft calls s =
    (stream : ℕ)
    → IfSome (stream_of stream s.sending.sender)
    (λ l. l.buffered_amount + told_on stream calls ≡ written_on stream calls)

-- nothing of the stream waits, and of its chunks in flight each is acknowledged or abandoned
abbrev pub is_done : ℕ → Transmission → Bool
is_done stream t =
    not (list_any (is_on stream) t.flight.queue.pending.ordered
    || list_any (is_on stream) t.flight.queue.pending.unordered)
    && not (list_any (λ c. is_on stream c && is_outstanding c) t.flight.queue.inflight.chunks)

-- its amount is 0 then
abbrev pub AmountsEnd : Session → Type 0
AmountsEnd s =
    (stream : ℕ) → is_done stream s.sending.sender ≡ true
    → IfSome (stream_of stream s.sending.sender) (λ l. l.buffered_amount ≡ 0)

-- ## What is told of a chunk

-- a chunk of the message in flight is abandoned
abbrev pub is_abandoned : ℕ → Transmission → Bool
is_abandoned m t = list_any (λ c. is_of m c && c.abandoned) t.flight.queue.inflight.chunks

-- some of the message waits, or a chunk of it in flight is not acknowledged
abbrev pub is_left : ℕ → Transmission → Bool
is_left m t =
    waits m t.flight.queue.pending
    || list_any (λ c. is_of m c && not c.acked) t.flight.queue.inflight.chunks

-- a chunk that leaves with bytes is one that was made, with this TSN, on this stream and of so many bytes; and its message is told to be
-- acknowledged exactly where it was not abandoned before, and none of it is left
pub record IsToldOf (s t : Session) (r : Released) : Type 0 where
  pub chunk : 0 < r.bytes → (d : Data) × Contains s.made (data_chunk d)
      × ((d.tsn ≡ r.tsn) × (d.stream_identifier ≡ r.stream) × (length d.user_data ≡ r.bytes))
  pub message : r.is_message_acked
      ≡ not (is_abandoned r.message s.sending.sender || is_left r.message t.sending.sender)

-- whatever SACK comes next, each chunk of its answer is told so
abbrev pub EachIsTold : Session → Type 0
EachIsTold s =
    (sack : Sack) (gone : List Released) (t : Session)
    → Follows (of_sender (takes_sack sack gone)) s t → All (IsToldOf s t) gone
