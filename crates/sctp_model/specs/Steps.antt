-- Which event is refused with what, which reply is right, and what the record is then.
use Rattle.std.specs.Prelude.{◌≡◌, ℕ, ◌+◌, ◌-◌, ◌^◌, Bool, true, false, ◌&&◌, ◌||◌, not, ◌==◌, nat_lt, nat_le, if◌then◌else◌, List, [], ◌∷◌, length, map}
use Rattle.std.specs.Prelude.{slice_get, Option, Some, None, is_none, is_some, Result, Ok, Err}
use Rattle.std.specs.List.{list_all, list_any, filter}
use Rattle.sctp_util.specs.Lists.{pieces}
use Rattle.sctp_model.specs.declared.event.Event.{Event}
use Rattle.sctp_model.specs.declared.event.Event.TheVariants as E
use Rattle.sctp_model.specs.Reply.{Reply}
use Rattle.sctp_model.specs.Reply as R
use Rattle.sctp_model.specs.declared.event.LinkRefusal.{LinkRefusal}
use Rattle.sctp_model.specs.declared.event.LinkRefusal.TheVariants.{StreamUnknown, StreamOpen, MessageTooLarge, TsnsUsedUp, NoSuchDatagram, NotInFlight}
use Rattle.sctp_model.specs.declared.event.LinkRefusal.TheVariants.{SkipUnassigned, SkipNames, SpanTooWide, OutOfMemory}
use Rattle.sctp_model.specs.LinkRecord.{Setup, Datagram, Data, Forward, Sack, LinkRecord, start}
use Rattle.sctp_model.specs.Messages
use Rattle.sctp_model.specs.Receiver
use Rattle.sctp_model.specs.Amounts.{in_all, growth}
use Rattle.sctp_model.specs.Changes
use Rattle.sctp_model.specs.Queues.{handed_out}

-- ## Refusals, the lowest number first

-- refused with this where the test fails, else as the tests after it say
abbrev pub unless : Bool → LinkRefusal → Option LinkRefusal → Option LinkRefusal
unless holds refusal others = if holds then others else Some refusal

-- how many fragments were accepted in all
abbrev pub fragments_accepted : LinkRecord → ℕ
fragments_accepted w = in_all w (Messages.fragment_count w)

-- how many fragments a write of these bytes has
abbrev pub fragments_in : LinkRecord → List ℕ → ℕ
fragments_in w bytes = length (pieces (length bytes) w.setup.size bytes)

-- DATA and FORWARD-TSN come to the receiver
abbrev pub is_for_receiver : Option Datagram → Bool
is_for_receiver (Some (Data slots)) = true
is_for_receiver (Some (Forward upto messages)) = true
is_for_receiver _ = false

-- a SACK comes to the sender
abbrev pub is_for_sender : Option Datagram → Bool
is_for_sender (Some (Sack r)) = true
is_for_sender _ = false

-- a slot in flight that is neither acknowledged nor of an abandoned message can be sent again
abbrev pub can_resend : LinkRecord → ℕ → Bool
can_resend w place =
    Messages.is_in_flight w place && (not (Messages.slot_at w place).acknowledged
    && not (Messages.message_at w (Messages.message_of w place)).abandoned)

-- all of message n has slots, or it was abandoned
abbrev pub is_ended : LinkRecord → ℕ → Bool
is_ended w n =
    (Messages.sent_of w n == Messages.fragment_count w n) || (Messages.message_at w n).abandoned

-- a skip up to this slot can name message n: an ordered one that is wholly sent or abandoned, did not expire, and has no slot past it
abbrev pub can_name : LinkRecord → ℕ → ℕ → Bool
can_name w upto n =
    nat_lt n (length w.messages) && ((Messages.message_at w n).ordered
    && (is_ended w n && (not (Messages.message_at w n).expired
    && list_all (λ place. nat_le place upto)
    (Messages.slots_where w (Messages.belongs_to w n)))))

-- the ordered messages whose indexes an arrival adds to the span: those of the new fragments, those that a counting skip names
abbrev pub adds_to_span : LinkRecord → Option Datagram → List ℕ
adds_to_span w (Some (Data slots)) = map (Messages.message_of w) (filter (Receiver.is_new w) slots)
adds_to_span w (Some (Forward upto messages)) = if Changes.skip_counts w upto then messages else []
adds_to_span w _ = []

-- the span test, in the state before the arrival and in the one after it
abbrev pub arrival_fits : LinkRecord → Option Datagram → Bool
arrival_fits w d =
    Receiver.spans_fit w (adds_to_span w d)
    && Receiver.spans_fit (Changes.after_arrive w d) (adds_to_span w d)

-- what a skip up to the slot at this place is refused with, where it is
abbrev pub skip_refusal : LinkRecord → ℕ → List ℕ → Option LinkRefusal
skip_refusal w upto messages =
    unless (nat_lt upto (length w.slots)) SkipUnassigned
    (unless (list_all (can_name w upto) messages && nat_le (length messages) 16381) SkipNames None)

-- what an event is refused with, where it is
abbrev pub refusal_of : LinkRecord → Event → Option LinkRefusal
refusal_of w (E.Open s) = unless (not (Messages.is_open w s)) StreamOpen None
refusal_of w (E.Mode s unordered reliability value) =
    unless (Messages.is_open w s) StreamUnknown None
refusal_of w (E.Write s ppi bytes) =
    unless (Messages.is_open w s) StreamUnknown
    (unless (nat_le (length bytes) w.setup.largest) MessageTooLarge
    (unless (nat_lt (fragments_accepted w + fragments_in w bytes) (2 ^ 31)) TsnsUsedUp None))
refusal_of w (E.Resend tsn) = unless (can_resend w (Messages.place_of w tsn)) NotInFlight None
refusal_of w (E.Abandon tsn) =
    unless (Messages.is_in_flight w (Messages.place_of w tsn)) NotInFlight None
refusal_of w (E.Skip upto messages) = skip_refusal w (Messages.place_of w upto) messages.items
refusal_of w (E.Arrive k) =
    unless (is_for_receiver (slice_get w.network k)) NoSuchDatagram
    (unless (arrival_fits w (slice_get w.network k)) SpanTooWide None)
refusal_of w (E.Acked k) = unless (is_for_sender (slice_get w.network k)) NoSuchDatagram None
refusal_of w (E.Read s) = unless (Messages.is_open w s) StreamUnknown None
refusal_of w _ = None

-- ## The record after an accepted event

-- the record after an accepted event
abbrev pub after : LinkRecord → Event → LinkRecord
after w (E.Open s) = Changes.after_open w s
after w (E.Mode s unordered reliability value) = Changes.after_mode w s unordered reliability value
after w (E.Write s ppi bytes) = Changes.after_write w s ppi bytes
after w (E.Start now) = Changes.after_start w now
after w (E.Send now) = Changes.after_send w now
after w (E.Resend tsn) = Changes.after_resend w tsn
after w (E.Expire now) = Changes.after_expire w (Changes.expiring w now)
after w (E.Tail now) = Changes.after_tail w (Changes.tailing w now)
after w (E.Late now) = Changes.after_late w now
after w (E.Abandon tsn) = Changes.after_abandon w (Messages.message_of w (Messages.place_of w tsn))
after w (E.Skip upto messages) =
    Changes.with_datagram w (Forward (Messages.place_of w upto) messages.items)
after w (E.Ack credit) = Changes.after_ack w credit
after w (E.Arrive k) = Changes.after_arrive w (slice_get w.network k)
after w (E.Acked k) = Changes.after_acked w (slice_get w.network k)
after w (E.Read s) = Changes.after_reading w s

-- ## Replies

-- with nothing pending Idle; else the new datagram with the TSN and SSN of its first chunk, and how many chunks it has
abbrev pub sent_reply : LinkRecord → LinkRecord → Option ℕ → Reply
sent_reply old new None = R.Idle
sent_reply old new (Some n) =
    R.Sent (length old.network) (Messages.tsn_of old (length old.slots)) (Messages.ssn_of old n)
    (length new.slots - length old.slots)

-- the stream of the message that expired and the bytes released, or Idle
abbrev pub expired_reply : LinkRecord → LinkRecord → Option ℕ → Reply
expired_reply old new None = R.Idle
expired_reply old new (Some n) = R.Expired (Messages.message_at old n).stream (growth old new)

-- the stream of the message that was abandoned and the bytes released, or Idle
abbrev pub tail_reply : LinkRecord → LinkRecord → Option ℕ → Reply
tail_reply old new None = R.Idle
tail_reply old new (Some n) = R.Released (Messages.message_at old n).stream (growth old new)

-- New where a slot arrived new, else Repeat; Skipped where the skip counts, else Stale
abbrev pub arrive_reply : LinkRecord → Option Datagram → Reply
arrive_reply w (Some (Data slots)) = if list_any (Receiver.is_new w) slots then R.New else R.Repeat
arrive_reply w (Some (Forward upto messages)) =
    if Changes.skip_counts w upto then R.Skipped else R.Stale
arrive_reply w _ = R.Stale

-- a message is handed out with its stream, its payload type and its chunks
abbrev pub read_reply : LinkRecord → Option ℕ → Reply
read_reply w None = R.Nothing
read_reply w (Some n) =
    R.Message (Messages.message_at w n).stream (Messages.message_at w n).ppi (handed_out w n)

-- the reply to an event that is not refused
abbrev pub reply_to : LinkRecord → Event → Reply
reply_to w (E.Open s) = R.Opened
reply_to w (E.Mode s unordered reliability value) = R.«Set»
reply_to w (E.Write s ppi bytes) =
    R.Wrote (if length bytes == 0 then None else Some (length w.messages)) (fragments_in w bytes)
reply_to w (E.Start now) = R.Started
reply_to w (E.Send now) = sent_reply w (after w (E.Send now)) (Messages.front w)
reply_to w (E.Resend tsn) = R.Resent (length w.network)
reply_to w (E.Expire now) = expired_reply w (after w (E.Expire now)) (Changes.expiring w now)
reply_to w (E.Tail now) = tail_reply w (after w (E.Tail now)) (Changes.tailing w now)
reply_to w (E.Late now) =
    R.Late (length (Changes.late_slots w now)) (growth w (after w (E.Late now)))
reply_to w (E.Abandon tsn) =
    R.Released (Messages.message_at w (Messages.message_of w (Messages.place_of w tsn))).stream
    (growth w (after w (E.Abandon tsn)))
reply_to w (E.Skip upto messages) = R.Skip (length w.network)
reply_to w (E.Ack credit) = R.Ack (length w.network)
reply_to w (E.Arrive k) = arrive_reply w (slice_get w.network k)
reply_to w (E.Acked k) = R.Acked (growth w (after w (E.Acked k)))
reply_to w (E.Read s) = read_reply w (Receiver.next_read w s)

-- ## Right answers

-- an accepted event: its reply is the right one, and the record is the one after it
pub record IsRight (old : LinkRecord) (event : Event) (reply : Reply)
    (new : LinkRecord) : Type 0 where
  pub right : reply ≡ reply_to old event
  pub moves : new ≡ after old event

-- an accepted event can take memory: never Mode, Start, Expire or Read; a Write of some bytes,
-- a Send with a fragment pending, a Tail and a Late of what is past its deadline, an Abandon of a partially sent
-- message, which takes a terminal chunk; each other event
abbrev pub takes_memory : LinkRecord → Event → Bool
takes_memory w (E.Mode s unordered reliability value) = false
takes_memory w (E.Write s ppi bytes) = nat_lt 0 (length bytes)
takes_memory w (E.Start now) = false
takes_memory w (E.Send now) = is_some (Messages.front w)
takes_memory w (E.Expire now) = false
takes_memory w (E.Tail now) = is_some (Changes.tailing w now)
takes_memory w (E.Late now) = nat_lt 0 (length (Changes.late_slots w now))
takes_memory w (E.Abandon tsn) =
    Messages.is_partially_sent w (Messages.message_of w (Messages.place_of w tsn))
takes_memory w (E.Read s) = false
takes_memory w e = true

-- want of memory may refuse an event that can take memory, and no other, and only where no test refuses it
abbrev pub may_want_memory : LinkRecord → Event → Bool
may_want_memory w e = takes_memory w e && is_none (refusal_of w e)

-- the event may be refused with this
abbrev pub Refuses : LinkRecord → Event → LinkRefusal → Type 0
Refuses w e OutOfMemory = may_want_memory w e ≡ true
Refuses w e refusal = refusal_of w e ≡ Some refusal

-- a refused event changes nothing
pub record IsRefusal (old : LinkRecord) (event : Event) (refusal : LinkRefusal)
    (new : LinkRecord) : Type 0 where
  pub because : Refuses old event refusal
  pub same : new ≡ old

-- what a step may answer
abbrev pub Answers : LinkRecord → Event → Result Reply LinkRefusal → LinkRecord → Type 0
Answers old event (Ok reply) new = (refusal_of old event ≡ None) × IsRight old event reply new
Answers old event (Err refusal) new = IsRefusal old event refusal new

-- ## Histories: the accepted events with their replies, the newest first

-- the accepted events with their replies, the newest first
abbrev pub History : Type 0
History = List (Event × Reply)

-- the record that a history leads to
abbrev pub record_of : Setup → History → LinkRecord
record_of setup [] = start setup
record_of setup (entry ∷ older) = after (record_of setup older) entry.0

-- each entry was accepted where it came, and answered rightly
abbrev pub IsRun : Setup → History → Type 0
IsRun setup [] = Unit {0}
IsRun setup (entry ∷ older) =
    (refusal_of (record_of setup older) entry.0 ≡ None)
    × ((entry.1 ≡ reply_to (record_of setup older) entry.0) × IsRun setup older)

-- the record is that of this history
pub record StandsFor (setup : Setup) (w : LinkRecord) (h : History) : Type 0 where
  pub is : w ≡ record_of setup h
  pub run : IsRun setup h

-- after a reply it is that of the longer history, after a refusal still that of the same
abbrev pub StandsAfter : Setup → LinkRecord → Event → Result Reply LinkRefusal → History → Type 0
StandsAfter setup new event (Ok reply) h = StandsFor setup new ((event, reply) ∷ h)
StandsAfter setup new event (Err refusal) h = StandsFor setup new h
