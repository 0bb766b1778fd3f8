-- What holds of every history. Each law is the contract of an empty public function.
use Rattle.std.specs.Prelude.{◌≡◌, ℕ, ◌+◌, ◌-◌, ◌*◌, ◌/◌, ◌^◌, ◌<◌, ◌≤◌, ◌↔◌, min, Bool, true, false, ◌&&◌, ◌||◌, not, ◌==◌, nat_lt, nat_le, if◌then◌else◌}
use Rattle.std.specs.Prelude.{List, [], ◌∷◌, ◌++◌, length, take, map, slice_get, Option, Some, None, option_to_list, Result, Ok}
use Rattle.std.specs.List.{list_any, list_all, filter}
use Rattle.sctp_util.specs.Kept.{numbers_where, leading, numbers_from, first_of, runs_of}
use Rattle.sctp_model.specs.declared.event.Event.{Event}
use Rattle.sctp_model.specs.declared.event.Event.TheVariants as E
use Rattle.sctp_data.specs.declared.chunk.chunk_payload_data.ChunkPayloadData.{ChunkPayloadData}
use Rattle.sctp_model.specs.declared.event.LinkRefusal.{LinkRefusal}
use Rattle.sctp_model.specs.Reply.{Reply}
use Rattle.sctp_model.specs.Reply as R
use Rattle.sctp_model.specs.LinkRecord.{Setup, Message, Datagram, Data, Forward, Sack, LinkRecord}
use Rattle.sctp_model.specs.Messages
use Rattle.sctp_model.specs.Receiver
use Rattle.sctp_model.specs.Amounts
use Rattle.sctp_model.specs.Changes.{late_slots}
use Rattle.sctp_model.specs.Steps.{History, record_of, IsRun, refusal_of, reply_to, after, Answers}
use Rattle.sctp_model.specs.Contents.{DataContents, SackContents, cumulative_tsn, datagram}
use Rattle.sctp_model.specs.Queues.{pending_of}
use Rattle.sctp_model.specs.Valid.{RecordIsValid, SlotsComeValid, SkipsComeValid}
use Rattle.sctp_model.specs.Log

-- ## Every history

-- the conditions of Link::new
pub record IsSetup (setup : Setup) : Type 0 where
  pub first : setup.first < 2 ^ 32
  pub some : 0 < setup.size
  pub size : setup.size ≤ 65519

-- P of every history that a link can have, with its record and what came in it
abbrev pub OnEveryRun : (Setup → History → LinkRecord → List Log.LogEntry → Type 0) → Type 0
OnEveryRun P =
    (setup : Setup) (h : History) → IsSetup setup → IsRun setup h
    → P setup h (record_of setup h) (Log.log_of setup h)

-- xs is a beginning of ys
abbrev pub IsPrefixOf : {A : Type 0} → List A → List A → Type 0
IsPrefixOf {A} xs ys = (rest : List A) × (xs ++ rest ≡ ys)

-- no number stands twice
abbrev pub AllDifferent : List ℕ → Type 0
AllDifferent [] = Unit {0}
AllDifferent (x ∷ xs) = (list_any (λ y. y == x) xs ≡ false) × AllDifferent xs

-- ## Each send emits

-- how many fragments wait for a TSN
abbrev pub pending_count : LinkRecord → ℕ
pending_count w = length ((pending_of w).ordered ++ (pending_of w).unordered)

-- Send answers Idle exactly where no fragment is pending
abbrev pub EmitsWherePending : Setup → History → LinkRecord → List Log.LogEntry → Type 0
EmitsWherePending setup h w log =
    (now : ℕ) → (reply_to w (E.Send now) ≡ R.Idle) ↔ (pending_count w ≡ 0)

-- else it takes at least one pending fragment, and its datagram carries just those that it takes
abbrev pub TakesPending : Setup → History → LinkRecord → List Log.LogEntry → Type 0
TakesPending setup h w log =
    (now d tsn ssn count : ℕ) → reply_to w (E.Send now) ≡ R.Sent d tsn ssn count →
    (0 < count) × ((pending_count (after w (E.Send now)) + count ≡ pending_count w)
    × (slice_get (after w (E.Send now)).network d
    ≡ Some (Data (numbers_from (length w.slots) count))))

-- a step answers Idle to a Send exactly where no fragment is pending, be memory refused or not
abbrev pub IdleIsAnswered : Setup → History → LinkRecord → List Log.LogEntry → Type 0
IdleIsAnswered setup h w log =
    (now : ℕ) (result : Result Reply LinkRefusal) (new : LinkRecord) →
    Answers w (E.Send now) result new →
    (result ≡ Ok R.Idle) ↔ (pending_count w ≡ 0)

-- each Send emits a pending fragment while one exists
abbrev pub EachSendEmits : Type 0
EachSendEmits =
    OnEveryRun EmitsWherePending × (OnEveryRun TakesPending × OnEveryRun IdleIsAnswered)

-- ## The limit of a datagram

-- the length of a DATA chunk with these user data: 16 bytes, the data, and padding up to a
-- multiple of four (RFC 4960 3.3.1)
abbrev pub data_length : List ℕ → ℕ
data_length bytes = 16 + (length bytes + 3) / 4 * 4

-- the length of a packet of these DATA chunks: the common header has 12 bytes (RFC 4960 3.1)
abbrev pub packet_length : List ChunkPayloadData → ℕ
packet_length [] = 12
packet_length (chunk ∷ chunks) = data_length chunk.user_data + packet_length chunks

-- the datagram of a Send has as many chunks as are told; with several it is within the limit
abbrev pub WithinLimit : Setup → History → LinkRecord → List Log.LogEntry → Type 0
WithinLimit setup h w log =
    (now d tsn ssn count : ℕ) (chunks : List ChunkPayloadData) →
    reply_to w (E.Send now) ≡ R.Sent d tsn ssn count →
    datagram (after w (E.Send now)) d ≡ Some (DataContents chunks) →
    (length chunks ≡ count) × (1 < count → packet_length chunks ≤ setup.limit)

-- the next fragment of message n
abbrev pub next_fragment : LinkRecord → ℕ → List ℕ
next_fragment w n = Messages.fragment_at w n (Messages.sent_of w n)

-- with the fragment that is next then, where one waits, it would be longer than the limit
abbrev pub FilledToLimit : Setup → History → LinkRecord → List Log.LogEntry → Type 0
FilledToLimit setup h w log =
    (now d tsn ssn count n : ℕ) (chunks : List ChunkPayloadData) →
    reply_to w (E.Send now) ≡ R.Sent d tsn ssn count →
    datagram (after w (E.Send now)) d ≡ Some (DataContents chunks) →
    Messages.front (after w (E.Send now)) ≡ Some n →
    setup.limit < packet_length chunks + data_length (next_fragment (after w (E.Send now)) n)

-- a datagram has as many fragments as the limit allows, and the first one in any case
abbrev pub DatagramsKeepLimit : Type 0
DatagramsKeepLimit = OnEveryRun WithinLimit × OnEveryRun FilledToLimit

-- ## Slots

-- the terminal chunks of message n
abbrev pub terminal_chunks_of : LinkRecord → ℕ → List ℕ
terminal_chunks_of w n =
    Messages.slots_where w (λ place. Messages.belongs_to w n place
    && (Messages.slot_at w place).is_terminal_chunk)

-- the slots of a message have its fragments from the first on, each once; an abandoned one that was not wholly sent has one terminal chunk, and no other has
-- one
abbrev pub SlotsInOrder : Setup → History → LinkRecord → List Log.LogEntry → Type 0
SlotsInOrder setup h w log =
    (n : ℕ) → n < length w.messages →
    (map (λ place. (Messages.slot_at w place).fragment) (Messages.slots_of w n)
    ≡ numbers_from 0 (Messages.sent_of w n))
    × ((Messages.sent_of w n ≤ Messages.fragment_count w n)
    × (length (terminal_chunks_of w n)
    ≡ (if (Messages.message_at w n).abandoned
    && nat_lt (Messages.sent_of w n) (Messages.fragment_count w n) then 1 else 0)))

-- its slots follow one another
abbrev pub SlotsFollow : Setup → History → LinkRecord → List Log.LogEntry → Type 0
SlotsFollow setup h w log =
    (n place : ℕ) → first_of (Messages.slots_of w n) ≡ Some place → Messages.slots_of w n
    ≡ numbers_from place (Messages.sent_of w n)

-- at most one message is partially sent
abbrev pub OnePartiallySent : Setup → History → LinkRecord → List Log.LogEntry → Type 0
OnePartiallySent setup h w log =
    length (Messages.messages_where w (Messages.is_partially_sent w)) ≤ 1

-- the ordered messages of a stream are sent in the order of their indexes
abbrev pub SentInTurn : Setup → History → LinkRecord → List Log.LogEntry → Type 0
SentInTurn setup h w log =
    (s m n : ℕ) → m < n → Messages.is_ordered_on w s m ≡ true → Messages.is_ordered_on w s n ≡ true
    → 0 < Messages.sent_of w n → 0 < Messages.sent_of w m

-- the ordered messages of its stream before message n that were sent
abbrev pub sent_before : LinkRecord → ℕ → List ℕ
sent_before w n =
    numbers_where (λ m. ((Messages.message_at w m).stream == (Messages.message_at w n).stream)
    && ((Messages.message_at w m).ordered && nat_lt 0 (Messages.sent_of w m))) 0 n

-- the index of an ordered message that was sent is the count of those sent before it: what expired leaves no gap
abbrev pub IndexesLeaveNoGap : Setup → History → LinkRecord → List Log.LogEntry → Type 0
IndexesLeaveNoGap setup h w log =
    (n : ℕ) → (Messages.message_at w n).ordered ≡ true → 0 < Messages.sent_of w n
    → Messages.index_of w n ≡ length (sent_before w n)

-- no terminal chunk is in a datagram
abbrev pub NoTerminalChunkIsSent : Setup → History → LinkRecord → List Log.LogEntry → Type 0
NoTerminalChunkIsSent setup h w log =
    (k : ℕ) (slots : List ℕ) → slice_get w.network k ≡ Some (Data slots)
    → list_any (λ place. (Messages.slot_at w place).is_terminal_chunk) slots ≡ false

-- what a datagram says never changes
abbrev pub DatagramsStay : Setup → History → LinkRecord → List Log.LogEntry → Type 0
DatagramsStay setup h w log =
    (event : Event) (k : ℕ) → refusal_of w event ≡ None → k < length w.network
    → datagram (after w event) k ≡ datagram w k

-- what holds of the slots and the datagrams
abbrev pub SlotsAreValid : Type 0
SlotsAreValid =
    OnEveryRun SlotsInOrder × (OnEveryRun SlotsFollow
    × (OnEveryRun OnePartiallySent ×
    (OnEveryRun SentInTurn × (OnEveryRun IndexesLeaveNoGap
    × (OnEveryRun NoTerminalChunkIsSent × OnEveryRun DatagramsStay)))))

-- a datagram of the record as events and replies tell of it
abbrev pub kind_of : Datagram → Log.Made
kind_of (Data slots) = Log.MadeData slots
kind_of (Forward upto messages) = Log.MadeForward upto messages
kind_of (Sack r) = Log.MadeSack

-- the datagrams of the record are those that the events and replies tell of
abbrev pub NetworkIsMade : Setup → History → LinkRecord → List Log.LogEntry → Type 0
NetworkIsMade setup h w log = map kind_of w.network ≡ Log.made_in setup h

-- ## Arrivals: what the record has of them is what the order of arrivals says

-- a slot has arrived in the record exactly where it arrived new
abbrev pub ArrivedIsNew : Setup → History → LinkRecord → List Log.LogEntry → Type 0
ArrivedIsNew setup h w log =
    (place : ℕ) → place < length w.slots → Receiver.arrived_at w place ≡ Log.arrived_new log place

-- the cumulative count is how many slots from the first on were seen
abbrev pub CumulativeIsSeen : Setup → History → LinkRecord → List Log.LogEntry → Type 0
CumulativeIsSeen setup h w log = Receiver.cumulative w ≡ Log.seen_count log (length w.slots)

-- a DATA datagram is New exactly where one of its slots was not seen; a skip is Skipped exactly where it counts
abbrev pub ArrivalsAnswered : Setup → History → LinkRecord → List Log.LogEntry → Type 0
ArrivalsAnswered setup h w log =
    ((k : ℕ) (slots : List ℕ) → slice_get w.network k ≡ Some (Data slots) → reply_to w (E.Arrive k)
    ≡ (if list_any (λ place. not (Log.is_seen log place)) slots then R.New else R.Repeat))
    × ((k upto : ℕ) (messages : List ℕ) → slice_get w.network k ≡ Some (Forward upto messages)
    → reply_to w (E.Arrive k) ≡ (if Log.counts log upto then R.Skipped else R.Stale))

-- a message is complete in the record exactly where the order of arrivals makes it complete
abbrev pub CompletenessAgrees : Setup → History → LinkRecord → List Log.LogEntry → Type 0
CompletenessAgrees setup h w log =
    (n : ℕ) → n < length w.messages → Receiver.is_complete_message w n ≡ Log.is_complete_by w log n

-- the index named last is the greatest that a skip that counted named
abbrev pub NamedIsNamed : Setup → History → LinkRecord → List Log.LogEntry → Type 0
NamedIsNamed setup h w log = (s : ℕ) → (Messages.stream_of w s).named ≡ Log.named_by w s log

-- in every state the indexes that 16-bit numbers must tell apart lie within half a circle
abbrev pub SpansFit : Setup → History → LinkRecord → List Log.LogEntry → Type 0
SpansFit setup h w log = Receiver.spans_fit w [] ≡ true

-- what holds of arrivals
abbrev pub ArrivalsAgree : Type 0
ArrivalsAgree =
    OnEveryRun NetworkIsMade × (OnEveryRun ArrivedIsNew
    × (OnEveryRun CumulativeIsSeen ×
    (OnEveryRun ArrivalsAnswered × (OnEveryRun CompletenessAgrees
    × (OnEveryRun NamedIsNamed × OnEveryRun SpansFit)))))

-- ## Reads

-- message n is ordered
abbrev pub is_ordered : LinkRecord → ℕ → Bool
is_ordered w n = (Messages.message_at w n).ordered

-- message n is unordered
abbrev pub is_unordered : LinkRecord → ℕ → Bool
is_unordered w n = not (is_ordered w n)

-- the ordered messages that were read on stream s, by number, in order
abbrev pub ordered_reads : Setup → History → ℕ → List ℕ
ordered_reads setup h s = filter (is_ordered (record_of setup h)) (Log.numbers_read setup h s)

-- the unordered ones
abbrev pub unordered_reads : Setup → History → ℕ → List ℕ
unordered_reads setup h s = filter (is_unordered (record_of setup h)) (Log.numbers_read setup h s)

-- message n as it was written
abbrev pub shown_of : LinkRecord → ℕ → Log.Shown
shown_of w n = (
  (Messages.message_at w n).stream,
  (Messages.message_at w n).ppi,
  (Messages.message_at w n).bytes,
)

-- the messages are the accepted writes of at least one byte
abbrev pub MessagesAreWrites : Setup → History → LinkRecord → List Log.LogEntry → Type 0
MessagesAreWrites setup h w log =
    map (shown_of w) (numbers_from 0 (length w.messages)) ≡ Log.writes_in h

-- the mode of a message
abbrev pub mode_of : Message → Log.Mode
mode_of m = record { unordered = not m.ordered; reliability = m.reliability; value = m.value }

-- each message has the mode that its stream had when it was written
abbrev pub ModesAreKept : Setup → History → LinkRecord → List Log.LogEntry → Type 0
ModesAreKept setup h w log = map mode_of w.messages ≡ Log.modes_in h

-- each read hands out a message of the stream with its payload type and the bytes that were written
abbrev pub ReadsShowMessages : Setup → History → LinkRecord → List Log.LogEntry → Type 0
ReadsShowMessages setup h w log =
    (s : ℕ) → (Log.reads_in h s ≡ map (shown_of w) (Log.numbers_read setup h s))
    × (list_all (λ n. nat_lt n (length w.messages) && ((Messages.message_at w n).stream == s))
    (Log.numbers_read setup h s) ≡ true)

-- the ordered reads of a stream are a beginning of its run
abbrev pub ReadsBeginRun : Setup → History → LinkRecord → List Log.LogEntry → Type 0
ReadsBeginRun setup h w log = (s : ℕ) → IsPrefixOf (ordered_reads setup h s) (Log.run_by w log s)

-- an event that neither expires, abandons nor skips
abbrev pub loses_nothing : Event → Bool
loses_nothing (E.Expire now) = false
loses_nothing (E.Tail now) = false
loses_nothing (E.Late now) = false
loses_nothing (E.Abandon tsn) = false
loses_nothing (E.Skip upto messages) = false
loses_nothing event = true

-- without expiry, abandonment and skips the run is the longest run of complete messages from the first on
abbrev pub ReadsBeginCompleteRun : Setup → History → LinkRecord → List Log.LogEntry → Type 0
ReadsBeginCompleteRun setup h w log =
    (s : ℕ) → list_all (λ entry. loses_nothing entry.0) h ≡ true
    → IsPrefixOf (ordered_reads setup h s)
    (leading (Log.is_complete_by w log) (Messages.ordered_on w s))

-- the ordered messages are read in order, each as it was written
abbrev pub OrderedReads : Type 0
OrderedReads =
    OnEveryRun MessagesAreWrites × (OnEveryRun ModesAreKept
    × (OnEveryRun ReadsShowMessages
    × (OnEveryRun ReadsBeginRun × OnEveryRun ReadsBeginCompleteRun)))

-- the unordered reads are distinct complete messages, in the order in which they became complete
abbrev pub ReadsBeginComplete : Setup → History → LinkRecord → List Log.LogEntry → Type 0
ReadsBeginComplete setup h w log =
    (s : ℕ) → IsPrefixOf (unordered_reads setup h s) (Log.complete_by w log s)

-- none is read twice
abbrev pub ReadsDiffer : Setup → History → LinkRecord → List Log.LogEntry → Type 0
ReadsDiffer setup h w log = (s : ℕ) → AllDifferent (Log.numbers_read setup h s)

-- while a complete unordered message is unread, it is read before any ordered one
abbrev pub UnorderedFirst : Setup → History → LinkRecord → List Log.LogEntry → Type 0
UnorderedFirst setup h w log =
    (s n : ℕ) → slice_get (Log.complete_by w log s) (length (unordered_reads setup h s)) ≡ Some n
    → Receiver.next_read w s ≡ Some n

-- the unordered messages are read each once, in the order in which they became complete
abbrev pub UnorderedReads : Type 0
UnorderedReads = OnEveryRun ReadsBeginComplete
    × (OnEveryRun ReadsDiffer × OnEveryRun UnorderedFirst)

-- Nothing exactly where the run is exhausted and each complete unordered message was read
abbrev pub NothingWhereRead : Setup → History → LinkRecord → List Log.LogEntry → Type 0
NothingWhereRead setup h w log =
    (s : ℕ) → (reply_to w (E.Read s) ≡ R.Nothing) ↔
    ((ordered_reads setup h s ≡ Log.run_by w log s)
    × (unordered_reads setup h s ≡ Log.complete_by w log s))

-- Nothing exactly where all is read
abbrev pub NothingWhenExhausted : Type 0
NothingWhenExhausted = OnEveryRun NothingWhereRead

-- ## Acknowledgement

-- what is acknowledged arrived new or was skipped
abbrev pub AcknowledgedArrived : Setup → History → LinkRecord → List Log.LogEntry → Type 0
AcknowledgedArrived setup h w log =
    (place : ℕ) → Log.is_acknowledged_in setup h place ≡ true →
    (place < length w.slots) × ((Log.arrived_new log place || Log.is_skipped log place) ≡ true)

-- the record has just what the SACKs taken report
abbrev pub AcknowledgedIsReported : Setup → History → LinkRecord → List Log.LogEntry → Type 0
AcknowledgedIsReported setup h w log =
    ((place : ℕ) → place < length w.slots → (Messages.slot_at w place).acknowledged
    ≡ Log.is_acknowledged_in setup h place)
    × (w.taken ≡ Log.taken_in setup h)

-- the gap blocks that the order of arrivals gives
abbrev pub blocks_by : LinkRecord → List Log.LogEntry → List (ℕ × ℕ)
blocks_by w log =
    take 16379 (runs_of (numbers_where (λ d. Log.arrived_new log
    (Log.seen_count log (length w.slots) + d - 1)) 1
    (min 65535 (length w.slots - Log.seen_count log (length w.slots)))))

-- a SACK says the cumulative TSN, the credit of its event, the gap blocks, and the duplicates that fit
abbrev pub SacksSay : Setup → History → LinkRecord → List Log.LogEntry → Type 0
SacksSay setup h w log =
    (credit : ℕ) → datagram (after w (E.Ack credit)) (length w.network) ≡
    Some (SackContents (cumulative_tsn w (Log.seen_count log (length w.slots))) credit
    (blocks_by w log) (map (Messages.tsn_of w)
    (take (16379 - length (blocks_by w log)) (Log.duplicates_in log))))

-- only what arrived or was skipped is acknowledged, and just what the SACKs taken report
abbrev pub OnlyArrivedIsAcknowledged : Type 0
OnlyArrivedIsAcknowledged =
    OnEveryRun AcknowledgedArrived × (OnEveryRun AcknowledgedIsReported × OnEveryRun SacksSay)

-- ## Bytes

-- each written byte is pending, in flight or released: in all, and on each stream
abbrev pub Balances : Setup → History → LinkRecord → List Log.LogEntry → Type 0
Balances setup h w log =
    ((Amounts.ledger w).written ≡ (Amounts.ledger w).pending + (Amounts.ledger w).in_flight
    + (Amounts.ledger w).released)
    × ((s : ℕ) → Amounts.on_stream w s (Amounts.written_bytes w)
    ≡ Amounts.on_stream w s (Amounts.pending_bytes w)
    + Amounts.on_stream w s (Amounts.in_flight_bytes w)
    + Amounts.on_stream w s (Amounts.released_bytes w))

-- written is the sum over the writes, released the sum over the replies that tell of a release
abbrev pub SumsAgree : Setup → History → LinkRecord → List Log.LogEntry → Type 0
SumsAgree setup h w log =
    ((Amounts.ledger w).written ≡ Log.total_shown Log.length_shown (Log.writes_in h))
    × ((Amounts.ledger w).released ≡ Log.released_in h)

-- each written byte is pending, in flight or released
abbrev pub BytesBalance : Type 0
BytesBalance = OnEveryRun Balances × OnEveryRun SumsAgree

-- ## Time and counters

-- a lifetime starts at the first Start or Send after the write
abbrev pub StartsOnce : Setup → History → LinkRecord → List Log.LogEntry → Type 0
StartsOnce setup h w log =
    (n : ℕ) → n < length w.messages → (Messages.message_at w n).started ≡ Log.started_in h n

-- a lifetime is over in the record exactly where the write, its mode, its start and now say so
abbrev pub DeadlinesByEvents : Setup → History → LinkRecord → List Log.LogEntry → Type 0
DeadlinesByEvents setup h w log =
    (now n : ℕ) → Messages.is_past_deadline w now n ≡ Log.is_past_deadline_by_events h now n

-- what is told of a message, where there is one, and else Idle
abbrev pub answered_of : (ℕ → Reply) → Option ℕ → Reply
answered_of tell None = R.Idle
answered_of tell (Some n) = tell n

-- message n is this one
abbrev pub is_this : Option ℕ → ℕ → Bool
is_this o n = list_any (λ m. m == n) (option_to_list o)

-- message n expired
abbrev pub has_expired : LinkRecord → ℕ → Bool
has_expired w n = (Messages.message_at w n).expired

-- message n was abandoned
abbrev pub is_abandoned : LinkRecord → ℕ → Bool
is_abandoned w n = (Messages.message_at w n).abandoned

-- an event adds to the messages of which this is so just those that pass
abbrev pub AddsJust : LinkRecord → Event → (LinkRecord → ℕ → Bool) → (ℕ → Bool) → Type 0
AddsJust w event flag p =
    (n : ℕ) → n < length w.messages → flag (after w event) n ≡ (flag w n || p n)

-- Expired with the stream of message n and the bytes that the Expire releases
abbrev pub expired_with : LinkRecord → ℕ → ℕ → Reply
expired_with w now n =
    R.Expired (Messages.message_at w n).stream (Amounts.growth w (after w (E.Expire now)))

-- Released with the stream of message n and the bytes that the Tail releases
abbrev pub released_with : LinkRecord → ℕ → ℕ → Reply
released_with w now n =
    R.Released (Messages.message_at w n).stream (Amounts.growth w (after w (E.Tail now)))

-- the front, where it is past its deadline and this many of its fragments were sent
abbrev pub front_past_deadline : History → LinkRecord → ℕ → (ℕ → Bool) → Option ℕ
front_past_deadline h w now sent =
    first_of (filter (λ n. Log.is_past_deadline_by_events h now n && sent (Messages.sent_of w n))
    (option_to_list (Messages.front w)))

-- the front, where it is past its deadline and nothing of it was sent
abbrev pub unsent_past_deadline : History → LinkRecord → ℕ → Option ℕ
unsent_past_deadline h w now = front_past_deadline h w now (λ sent. sent == 0)

-- the front, where it is past its deadline and some of it was sent
abbrev pub partially_sent_past_deadline : History → LinkRecord → ℕ → Option ℕ
partially_sent_past_deadline h w now = front_past_deadline h w now (λ sent. nat_lt 0 sent)

-- Expire removes the front where it is past its deadline and nothing of it was sent, and no other message;
-- it answers Expired exactly there, and else Idle
abbrev pub ExpiresPastDeadline : Setup → History → LinkRecord → List Log.LogEntry → Type 0
ExpiresPastDeadline setup h w log =
    (now : ℕ) →
    (reply_to w (E.Expire now) ≡ answered_of (expired_with w now) (unsent_past_deadline h w now))
    × AddsJust w (E.Expire now) has_expired (is_this (unsent_past_deadline h w now))

-- Tail abandons the front where it is past its deadline and some of it was sent, and no other message;
-- it answers Released exactly there, and else Idle
abbrev pub TailAbandonsPastDeadline : Setup → History → LinkRecord → List Log.LogEntry → Type 0
TailAbandonsPastDeadline setup h w log =
    (now : ℕ) →
    (reply_to w (E.Tail now) ≡ answered_of (released_with w now) (partially_sent_past_deadline h w now))
    × AddsJust w (E.Tail now) is_abandoned (is_this (partially_sent_past_deadline h w now))

-- the slot at this place, of message n, is late by the events: no taken SACK acknowledged it
-- cumulatively, the message is past its deadline and was not abandoned, and either no taken SACK reports
-- the slot or fragments of the message still wait
abbrev pub is_late_in : Setup → History → LinkRecord → ℕ → ℕ → ℕ → Bool
is_late_in setup h w now n place =
    nat_le (Log.taken_in setup h) place
    && (Log.is_past_deadline_by_events h now n
    && (not (is_abandoned w n)
    && (not (Log.is_acknowledged_in setup h place)
    || nat_lt (Messages.sent_of w n) (Messages.fragment_count w n))))

-- the late slots, by the events
abbrev pub late_slots_by_events : Setup → History → LinkRecord → ℕ → List ℕ
late_slots_by_events setup h w now =
    Messages.slots_where w (λ place. is_late_in setup h w now (Messages.message_of w place) place)

-- message n has one of these slots
abbrev pub has_one_of : LinkRecord → List ℕ → ℕ → Bool
has_one_of w slots n = list_any (λ place. Messages.message_of w place == n) slots

-- Late answers how many slots are late by the events, and the bytes released; it abandons the
-- messages of those slots, and no others
abbrev pub LateListsPastDeadline : Setup → History → LinkRecord → List Log.LogEntry → Type 0
LateListsPastDeadline setup h w log =
    (now : ℕ) →
    (reply_to w (E.Late now) ≡
    R.Late (length (late_slots_by_events setup h w now)) (Amounts.growth w (after w (E.Late now))))
    × AddsJust w (E.Late now) is_abandoned (has_one_of w (late_slots_by_events setup h w now))

-- Late abandons the messages of the slots that it lists, and no others
abbrev pub LateAbandonsListed : Setup → History → LinkRecord → List Log.LogEntry → Type 0
LateAbandonsListed setup h w log =
    (now n : ℕ) → n < length w.messages →
    (Messages.message_at (after w (E.Late now)) n).abandoned
    ≡ ((Messages.message_at w n).abandoned
    || list_any (λ place. Messages.message_of w place == n) (late_slots w now))

-- lifetimes start once, messages pass their deadlines by the events, and Expire, Tail and Late go by that
abbrev pub LifetimesEnd : Type 0
LifetimesEnd =
    OnEveryRun StartsOnce
    × (OnEveryRun DeadlinesByEvents
    × (OnEveryRun ExpiresPastDeadline
    × (OnEveryRun TailAbandonsPastDeadline
    × (OnEveryRun LateListsPastDeadline
    × OnEveryRun LateAbandonsListed))))

-- the counters of a stream are the saturated sums over its writes and its reads
abbrev pub CountersAreSums : Setup → History → LinkRecord → List Log.LogEntry → Type 0
CountersAreSums setup h w log =
    (s : ℕ) → Messages.is_open w s ≡ true → Amounts.counters_of w s ≡ Some (record {
      stream_identifier = s;
      generation = 0;
      messages_sent =
          Amounts.saturate (Log.total_shown Log.counted_shown (Log.shown_on s (Log.writes_in h)));
      bytes_sent =
          Amounts.saturate (Log.total_shown Log.counted_length (Log.shown_on s (Log.writes_in h)));
      messages_received = Amounts.saturate (Log.total_shown Log.counted_shown (Log.reads_in h s));
      bytes_received = Amounts.saturate (Log.total_shown Log.counted_length (Log.reads_in h s));
    })

-- the counters are sums over writes and reads
abbrev pub CountersCount : Type 0
CountersCount = OnEveryRun CountersAreSums

-- ## Composition without loss

-- the messages of stream s, by number, in the order in which they were written
abbrev pub messages_on : LinkRecord → ℕ → List ℕ
messages_on w s = Messages.messages_where w (λ n. (Messages.message_at w n).stream == s)

-- two histories have the same writes on stream s: the same messages, the same of them unordered
abbrev pub SameWrites : History → History → ℕ → Type 0
SameWrites g h s = Log.writes_on g s ≡ Log.writes_on h s

-- fragment i of message n arrived: its slot came, and neither it nor a skip over it had come before
abbrev pub fragment_arrived : LinkRecord → List Log.LogEntry → ℕ → ℕ → Bool
fragment_arrived w log n i =
    list_any (λ place. Messages.has_fragment w n place
    && (((Messages.slot_at w place).fragment == i) && Log.arrived_new log place))
    (numbers_from 0 (length w.slots))

-- message n arrived wholly: each of its fragments did
abbrev pub arrived_wholly : LinkRecord → List Log.LogEntry → ℕ → Bool
arrived_wholly w log n =
    list_all (fragment_arrived w log n) (numbers_from 0 (Messages.fragment_count w n))

-- of each message of stream s, whether it arrived wholly
abbrev pub arrivals_on : Setup → History → ℕ → List Bool
arrivals_on setup h s =
    map (arrived_wholly (record_of setup h) (Log.log_of setup h))
    (messages_on (record_of setup h) s)

-- skips that counted named message n or a later one of its stream
abbrev pub is_passed_over : LinkRecord → List Log.LogEntry → ℕ → Bool
is_passed_over w log n =
    nat_lt (Messages.index_of w n) (Log.named_by w (Messages.message_at w n).stream log)

-- message n was lost: an ordered one expired, or was passed over and did not arrive wholly; an
-- unordered one arrived wholly, but not before a skip that counted covered a fragment of it
abbrev pub was_lost : LinkRecord → List Log.LogEntry → ℕ → Bool
was_lost w log n =
    if is_ordered w n
    then has_expired w n || (is_passed_over w log n && not (arrived_wholly w log n))
    else arrived_wholly w log n && not (Log.were_complete (Messages.slots_of w n) log)

-- some message of stream s was lost
abbrev pub has_loss_on : Setup → History → ℕ → Bool
has_loss_on setup h s =
    list_any (was_lost (record_of setup h) (Log.log_of setup h)) (messages_on (record_of setup h) s)

-- where no event expires, abandons or skips, no message is lost
abbrev pub NoneIsLost : Setup → History → LinkRecord → List Log.LogEntry → Type 0
NoneIsLost setup h w log =
    (s : ℕ) → list_all (λ entry. loses_nothing entry.0) h ≡ true → has_loss_on setup h s ≡ false

-- of writes and of whether each arrived wholly: the ordered messages up to the first that did not
abbrev pub ordered_run : List (Log.Shown × Bool) → List Bool → List Log.Shown
ordered_run [] arrived = []
ordered_run (x ∷ xs) [] = []
ordered_run (x ∷ xs) (t ∷ ts) =
    if x.1 then ordered_run xs ts else (if t then x.0 ∷ ordered_run xs ts else [])

-- of each write, whether it is unordered and arrived wholly
abbrev pub complete_unordered : List (Log.Shown × Bool) → List Bool → List Bool
complete_unordered [] arrived = []
complete_unordered (x ∷ xs) [] = []
complete_unordered (x ∷ xs) (t ∷ ts) = (x.1 && t) ∷ complete_unordered xs ts

-- the ordered reads of stream s, each as it was written
abbrev pub ordered_shown : Setup → History → ℕ → List Log.Shown
ordered_shown setup h s = map (shown_of (record_of setup h)) (ordered_reads setup h s)

-- of each message of stream s, whether it was read as an unordered one
abbrev pub unordered_shown : Setup → History → ℕ → List Bool
unordered_shown setup h s =
    map (λ n. list_any (λ m. m == n) (unordered_reads setup h s))
    (messages_on (record_of setup h) s)

-- where no message of a stream was lost and all is read, its ordered reads are its ordered writes
-- up to the first that did not arrive wholly, and of its unordered writes those were read that did
abbrev pub ReadsByArrivals : Setup → History → LinkRecord → List Log.LogEntry → Type 0
ReadsByArrivals setup h w log =
    (s : ℕ) → has_loss_on setup h s ≡ false → reply_to w (E.Read s) ≡ R.Nothing →
    (ordered_shown setup h s ≡ ordered_run (Log.writes_on h s) (arrivals_on setup h s))
    × (unordered_shown setup h s ≡ complete_unordered (Log.writes_on h s) (arrivals_on setup h s))

-- no message of stream s was lost, and all of it is read
pub record IsReadWholly (setup : Setup) (h : History) (s : ℕ) : Type 0 where
  pub is : IsSetup setup
  pub run : IsRun setup h
  pub unlost : has_loss_on setup h s ≡ false
  pub exhausted : reply_to (record_of setup h) (E.Read s) ≡ R.Nothing

-- without loss what is read of a stream in the end is settled by the writes on it and by which of
-- its messages arrived wholly: the ordered reads, and the set of the unordered ones. All else may
-- differ: lifetimes and moments, the other streams, fragments, datagrams and their order, SACKs
abbrev pub ReadsAreSettled : Type 0
ReadsAreSettled =
    (a b : Setup) (g h : History) (s : ℕ) → IsReadWholly a g s → IsReadWholly b h s →
    SameWrites g h s → arrivals_on a g s ≡ arrivals_on b h s →
    (ordered_shown a g s ≡ ordered_shown b h s) × (unordered_shown a g s ≡ unordered_shown b h s)

-- the reads by what arrived, one history by itself and two beside each other, and that nothing is
-- lost without an event that may lose
abbrev pub Composition : Type 0
Composition = ReadsAreSettled × (OnEveryRun ReadsByArrivals × OnEveryRun NoneIsLost)

-- ## The headline: for every first TSN, fragment size and list of events

-- the headline: for every first TSN, fragment size, limit and list of events
abbrev pub Headline : Type 0
Headline =
    EachSendEmits × (OrderedReads × (UnorderedReads
    × (NothingWhenExhausted × (OnlyArrivedIsAcknowledged × BytesBalance))))

-- the record is valid in every history, and while datagrams come
abbrev pub RecordsAreValid : Type 0
RecordsAreValid =
    OnEveryRun RecordIsValid × (OnEveryRun SlotsComeValid × OnEveryRun SkipsComeValid)

-- beside the headline: slots, limits of datagrams, arrivals, lifetimes, counters, reads without loss, valid records
abbrev pub Beside : Type 0
Beside =
    SlotsAreValid × (DatagramsKeepLimit ×
    (ArrivalsAgree × (LifetimesEnd × (CountersCount × (Composition × RecordsAreValid)))))

-- where nothing expires, is abandoned or skipped: the ordered reads begin the longest complete run and what arrived settles the reads, with all that holds of
-- every history
abbrev pub ReliableDelivery : Type 0
ReliableDelivery =
    OnEveryRun ReadsBeginCompleteRun × (Composition
    × (UnorderedReads × (NothingWhenExhausted
    × (OnlyArrivedIsAcknowledged × (BytesBalance × (ArrivalsAgree × CountersCount))))))

-- all laws of this crate
abbrev pub PartialDelivery : Type 0
PartialDelivery = Headline × Beside
