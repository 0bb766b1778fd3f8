-- What a history says by itself: what came to the receiver in which order, and what follows from that order alone.
-- No flag of the record is looked at. The newest entry stands first.
use Rattle.std.specs.Prelude.{ℕ, ◌%◌, ◌^◌, ◌+◌, ◌-◌, ◌*◌, max, Bool, true, false, ◌&&◌, ◌||◌, not, ◌==◌, nat_lt, nat_le, if◌then◌else◌, List, [], ◌∷◌, ◌++◌}
use Rattle.std.specs.Prelude.{length, take, drop, map, slice_get, Option, Some, None, option_to_list}
use Rattle.std.specs.List.{list_any, list_all, filter}
use Rattle.sctp_data.specs.PayloadTypes.{has_bytes, is_counted, is_ordered}
use Rattle.sctp_util.specs.Kept.{unbroken, leading, numbers_from, or_else}
use Rattle.sctp_model.specs.declared.event.Event.{Event}
use Rattle.sctp_model.specs.declared.event.Event.TheVariants as E
use Rattle.sctp_model.specs.Reply.{Reply}
use Rattle.sctp_model.specs.Reply as R
use Rattle.sctp_data.specs.declared.chunk.chunk_payload_data.PayloadProtocolIdentifier.{PayloadProtocolIdentifier}
use Rattle.sctp_data.specs.declared.chunk.chunk_payload_data.PayloadProtocolIdentifier.TheVariants.{Dcep}
use Rattle.sctp_data.specs.declared.chunk.chunk_payload_data.ReliabilityType.{ReliabilityType}
use Rattle.sctp_data.specs.declared.chunk.chunk_payload_data.ReliabilityType.TheVariants.{Reliable, Timed}
use Rattle.sctp_data.specs.declared.chunk.chunk_payload_data.ChunkPayloadData.{ChunkPayloadData}
use Rattle.sctp_model.specs.LinkRecord.{Setup, Datagram, Sack, LinkRecord}
use Rattle.sctp_model.specs.Messages
use Rattle.sctp_model.specs.Receiver.{greatest, next_read}
use Rattle.sctp_model.specs.Reports.{reports}
use Rattle.sctp_model.specs.Steps.{History, record_of}

-- ## What was made and what came to the receiver

-- the place that a TSN has where it was given out
abbrev pub place_in : Setup → ℕ → ℕ
place_in setup tsn = (tsn + (2 ^ 32 - setup.first)) % 2 ^ 32

-- a datagram as the events and replies tell of it
pub data Made : Type 0 where
  MadeData : (slots : List ℕ) → Made
  MadeForward : (upto : ℕ) (messages : List ℕ) → Made
  MadeSack : Made

-- the datagram that an accepted event made
abbrev pub made_by : Setup → Event → Reply → List Made
made_by setup (E.Send now) (R.Sent d tsn ssn count) =
    MadeData (numbers_from (place_in setup tsn) count) ∷ []
made_by setup (E.Resend tsn) reply = MadeData (place_in setup tsn ∷ []) ∷ []
made_by setup (E.Skip upto messages) reply = MadeForward (place_in setup upto) messages.items ∷ []
made_by setup (E.Ack credit) reply = MadeSack ∷ []
made_by setup event reply = []

-- the datagrams that a history made
abbrev pub made_in : Setup → History → List Made
made_in setup [] = []
made_in setup (entry ∷ older) = made_in setup older ++ made_by setup entry.0 entry.1

-- a slot came, a skip came with the messages that it names, or the receiver made a SACK
pub data LogEntry : Type 0 where
  SlotReceived : (place : ℕ) → LogEntry
  SkipReceived : (upto : ℕ) (messages : List ℕ) → LogEntry
  SackMade : LogEntry

-- the slots of a datagram come one after another
abbrev pub slots_come : List ℕ → List LogEntry → List LogEntry
slots_come [] log = log
slots_come (p ∷ ps) log = slots_come ps (SlotReceived p ∷ log)

-- a datagram comes
abbrev pub datagram_comes : Option Made → List LogEntry → List LogEntry
datagram_comes (Some (MadeData slots)) log = slots_come slots log
datagram_comes (Some (MadeForward upto messages)) log = SkipReceived upto messages ∷ log
datagram_comes _ log = log

-- what came in a history
abbrev pub log_of : Setup → History → List LogEntry
log_of setup [] = []
log_of setup ((E.Arrive k, r) ∷ older) =
    datagram_comes (slice_get (made_in setup older) k) (log_of setup older)
log_of setup ((E.Ack credit, r) ∷ older) = SackMade ∷ log_of setup older
log_of setup (entry ∷ older) = log_of setup older

-- the slot at this place came, or a skip up to it or past it did
abbrev pub is_seen : List LogEntry → ℕ → Bool
is_seen [] place = false
is_seen (SlotReceived p ∷ log) place = (p == place) || is_seen log place
is_seen (SkipReceived upto messages ∷ log) place = nat_le place upto || is_seen log place
is_seen (SackMade ∷ log) place = is_seen log place

-- the slot arrived new: it came, and neither it nor a skip over it came before
abbrev pub arrived_new : List LogEntry → ℕ → Bool
arrived_new [] place = false
arrived_new (SlotReceived p ∷ log) place =
    arrived_new log place || ((p == place) && not (is_seen log place))
arrived_new (coming ∷ log) place = arrived_new log place

-- a skip up to this slot counts: a slot up to it was not seen yet
abbrev pub counts : List LogEntry → ℕ → Bool
counts log upto = list_any (λ place. not (is_seen log place)) (numbers_from 0 (upto + 1))

-- a skip that counted covered the slot
abbrev pub is_skipped : List LogEntry → ℕ → Bool
is_skipped [] place = false
is_skipped (SkipReceived upto messages ∷ log) place =
    is_skipped log place || (counts log upto && nat_le place upto)
is_skipped (coming ∷ log) place = is_skipped log place

-- the cumulative count: how many of so many slots, from the first on, were seen
abbrev pub seen_count : List LogEntry → ℕ → ℕ
seen_count log slots = unbroken (is_seen log) 0 slots

-- the slots that came and were not new since the last SACK was made, oldest first
abbrev pub duplicates_in : List LogEntry → List ℕ
duplicates_in [] = []
duplicates_in (SlotReceived p ∷ log) = duplicates_in log ++ (if is_seen log p then p ∷ [] else [])
duplicates_in (SkipReceived upto messages ∷ log) = duplicates_in log
duplicates_in (SackMade ∷ log) = []

-- ## Complete messages and the run

-- at some moment each of these slots had arrived new and no skip that counted had covered one
abbrev pub were_complete : List ℕ → List LogEntry → Bool
were_complete places [] = false
were_complete places (coming ∷ log) =
    were_complete places log || list_all (λ p. arrived_new (coming ∷ log) p
    && not (is_skipped (coming ∷ log) p)) places

-- message n is complete: all of it was sent, and each of its slots arrived new; those of an unordered one before a skip covered one
abbrev pub is_complete_by : LinkRecord → List LogEntry → ℕ → Bool
is_complete_by w log n =
    (Messages.sent_of w n == Messages.fragment_count w n)
    && (if (Messages.message_at w n).ordered
    then list_all (arrived_new log) (Messages.slots_of w n)
    else were_complete (Messages.slots_of w n) log)

-- one more than the greatest index on stream s that a skip that counted named, or 0
abbrev pub named_by : LinkRecord → ℕ → List LogEntry → ℕ
named_by w s [] = 0
named_by w s (SkipReceived upto messages ∷ log) =
    if counts log upto then greatest (named_by w s log)
    (map (λ n. Messages.index_of w n + 1) (filter (Messages.is_ordered_on w s) messages))
    else named_by w s log
named_by w s (coming ∷ log) = named_by w s log

-- the complete ordered messages of a stream up to the last one named, then the unbroken complete run
abbrev pub run_by : LinkRecord → List LogEntry → ℕ → List ℕ
run_by w log s =
    filter (is_complete_by w log) (take (named_by w s log) (Messages.ordered_on w s))
    ++ leading (is_complete_by w log) (drop (named_by w s log) (Messages.ordered_on w s))

-- the unordered messages of stream s, in the order in which they became complete
abbrev pub complete_by : LinkRecord → List LogEntry → ℕ → List ℕ
complete_by w [] s = []
complete_by w (coming ∷ log) s =
    complete_by w log s ++ Messages.messages_where w
    (λ n. Messages.is_unordered_on w s n
    && (is_complete_by w (coming ∷ log) n && not (is_complete_by w log n)))

-- ## Acknowledgement

-- a datagram that is a SACK reports the slot
abbrev pub reported_by : Option Datagram → ℕ → Bool
reported_by (Some (Sack r)) place = reports r place
reported_by _ place = false

-- a SACK that was taken reports the slot
abbrev pub is_acknowledged_in : Setup → History → ℕ → Bool
is_acknowledged_in setup [] place = false
is_acknowledged_in setup ((E.Acked k, r) ∷ older) place =
    is_acknowledged_in setup older place
    || reported_by (slice_get (record_of setup older).network k) place
is_acknowledged_in setup (entry ∷ older) place = is_acknowledged_in setup older place

-- the cumulative count of a datagram that is a SACK
abbrev pub cumulative_in : Option Datagram → ℕ
cumulative_in (Some (Sack r)) = r.cumulative
cumulative_in _ = 0

-- the greatest cumulative count of the SACKs taken
abbrev pub taken_in : Setup → History → ℕ
taken_in setup [] = 0
taken_in setup ((E.Acked k, r) ∷ older) =
    max (taken_in setup older) (cumulative_in (slice_get (record_of setup older).network k))
taken_in setup (entry ∷ older) = taken_in setup older

-- ## Writes and reads

-- a message as it was written, and as it is handed out: its stream, its payload type and its bytes
abbrev pub Shown : Type 0
Shown = ℕ × PayloadProtocolIdentifier × List ℕ

-- the user data of chunks, joined
abbrev pub joined_bytes : List ChunkPayloadData → List ℕ
joined_bytes [] = []
joined_bytes (chunk ∷ others) = chunk.user_data ++ joined_bytes others

-- the accepted writes of at least one byte, in order
abbrev pub writes_in : History → List Shown
writes_in [] = []
writes_in ((E.Write s ppi [], r) ∷ older) = writes_in older
writes_in ((E.Write s ppi (b ∷ bs), r) ∷ older) = writes_in older ++ (s, ppi, b ∷ bs) ∷ []
writes_in (entry ∷ older) = writes_in older

-- how messages are sent: whether they are unordered, and for how long they are tried (RFC 3758 4.1)
pub record Mode : Type 0 where
  pub unordered : Bool
  pub reliability : ReliabilityType
  pub value : ℕ

-- the mode of stream s: the one set last, ordered and reliable where none was
abbrev pub mode_in : History → ℕ → Mode
mode_in [] s = record { unordered = false; reliability = Reliable; value = 0 }
mode_in ((E.Mode t unordered reliability value, r) ∷ older) s =
    if t == s then record { unordered = unordered; reliability = reliability; value = value }
    else mode_in older s
mode_in (entry ∷ older) s = mode_in older s

-- the mode of a message with this payload type: DCEP is always ordered (RFC 8832 6)
abbrev pub mode_for : PayloadProtocolIdentifier → Mode → Mode
mode_for ppi m = record m { unordered = not (is_ordered m.unordered ppi) }

-- the modes of the accepted writes of at least one byte, in order
abbrev pub modes_in : History → List Mode
modes_in [] = []
modes_in ((E.Write s ppi [], r) ∷ older) = modes_in older
modes_in ((E.Write s ppi (b ∷ bs), r) ∷ older) =
    modes_in older ++ mode_for ppi (mode_in older s) ∷ []
modes_in (entry ∷ older) = modes_in older

-- those of stream s among writes in these modes: each message, and whether it is unordered
abbrev pub written_on : ℕ → List Shown → List Mode → List (Shown × Bool)
written_on s [] modes = []
written_on s (x ∷ xs) [] = []
written_on s (x ∷ xs) (m ∷ ms) =
    if x.0 == s then (x, m.unordered) ∷ written_on s xs ms else written_on s xs ms

-- the accepted writes of at least one byte on stream s, in order: each message, and whether it is unordered
abbrev pub writes_on : History → ℕ → List (Shown × Bool)
writes_on h s = written_on s (writes_in h) (modes_in h)

-- the message that a reply hands out
abbrev pub shown_by : Reply → List Shown
shown_by (R.Message s ppi chunks) = (s, ppi, joined_bytes chunks.chunks) ∷ []
shown_by _ = []

-- the messages that were handed out on stream s, in order
abbrev pub reads_in : History → ℕ → List Shown
reads_in [] s = []
reads_in ((E.Read t, r) ∷ older) s = reads_in older s ++ (if t == s then shown_by r else [])
reads_in (entry ∷ older) s = reads_in older s

-- the number of the message that a reply hands out
abbrev pub number_read : LinkRecord → ℕ → Reply → List ℕ
number_read w s (R.Message t ppi chunks) = option_to_list (next_read w s)
number_read w s _ = []

-- the numbers of the messages that were handed out on stream s, in order
abbrev pub numbers_read : Setup → History → ℕ → List ℕ
numbers_read setup [] s = []
numbers_read setup ((E.Read t, r) ∷ older) s =
    numbers_read setup older s ++ (if t == s then number_read (record_of setup older) s r else [])
numbers_read setup (entry ∷ older) s = numbers_read setup older s

-- ## Time and bytes

-- the moment at which an event starts lifetimes
abbrev pub moment_of : Event → Option ℕ
moment_of (E.Start now) = Some now
moment_of (E.Send now) = Some now
moment_of _ = None

-- the moment of the first Start or Send after the write of message n
abbrev pub started_in : History → ℕ → Option ℕ
started_in [] n = None
started_in (entry ∷ older) n =
    or_else (started_in older n) (if nat_lt n (length (writes_in older)) then moment_of entry.0
    else None)

-- a message in this mode with this payload type has a lifetime: a timed one (RFC 3758 4.1), but no
-- DCEP message (RFC 8832 6). This and the next are stated without the record's deadlines, to which
-- laws compare them
abbrev pub has_lifetime : ReliabilityType → PayloadProtocolIdentifier → Bool
has_lifetime Timed Dcep = false
has_lifetime Timed ppi = true
has_lifetime reliability ppi = false

-- a lifetime of so many milliseconds that started then is over now: its end, in nanoseconds, is
-- a moment that 64 bits hold, and now is not before it
abbrev pub is_over : ℕ → ℕ → Option ℕ → Bool
is_over now value None = false
is_over now value (Some start) =
    nat_lt (start + value * 1000000) (2 ^ 64) && nat_le (start + value * 1000000) now

-- a write in this mode, whose lifetime started then, is past its deadline now
abbrev pub is_write_past_deadline : ℕ → Option ℕ → Option Shown → Option Mode → Bool
is_write_past_deadline now start (Some x) (Some m) =
    has_lifetime m.reliability x.1 && is_over now m.value start
is_write_past_deadline now start x m = false

-- message n is past its deadline now, by its write, its mode, and the first Start or Send after it
abbrev pub is_past_deadline_by_events : History → ℕ → ℕ → Bool
is_past_deadline_by_events h now n =
    is_write_past_deadline now (started_in h n) (slice_get (writes_in h) n)
    (slice_get (modes_in h) n)

-- the bytes that a reply tells were released
abbrev pub released_by : Reply → ℕ
released_by (R.Expired s bytes) = bytes
released_by (R.Released s bytes) = bytes
released_by (R.Late listed bytes) = bytes
released_by (R.Acked bytes) = bytes
released_by _ = 0

-- the bytes that the replies of a history tell were released
abbrev pub released_in : History → ℕ
released_in [] = 0
released_in (entry ∷ older) = released_in older + released_by entry.1

-- the sum of f over messages shown
abbrev pub total_shown : (Shown → ℕ) → List Shown → ℕ
total_shown f [] = 0
total_shown f (x ∷ xs) = f x + total_shown f xs

-- the bytes of a message shown
abbrev pub length_shown : Shown → ℕ
length_shown x = length x.2

-- a message shown as a counter of messages sees it
abbrev pub counted_shown : Shown → ℕ
counted_shown x = if is_counted x.1 then 1 else 0

-- a message shown as a counter of bytes sees it
abbrev pub counted_length : Shown → ℕ
counted_length x = if has_bytes x.1 then length x.2 else 0

-- those of stream s
abbrev pub shown_on : ℕ → List Shown → List Shown
shown_on s [] = []
shown_on s (x ∷ xs) = if x.0 == s then x ∷ shown_on s xs else shown_on s xs
