-- What an accepted event adds to the record, one definition for each event.
use Rattle.std.specs.Prelude.{ℕ, zero, suc, ◌+◌, ◌-◌, ◌%◌, max, Bool, true, false, ◌&&◌, ◌||◌, not, ◌==◌, nat_le, if◌then◌else◌, List, [], ◌∷◌, ◌++◌, length}
use Rattle.std.specs.Prelude.{drop, map, fold, Option, Some, None, is_none}
use Rattle.std.specs.List.{list_all, filter}
use Rattle.sctp_data.specs.PayloadTypes.{is_ordered}
use Rattle.sctp_util.specs.Kept.{numbers_from}
use Rattle.sctp_util.specs.Lists.{change_at, each_numbered}
use Rattle.sctp_data.specs.declared.chunk.chunk_payload_data.ReliabilityType.{ReliabilityType}
use Rattle.sctp_data.specs.declared.chunk.chunk_payload_data.PayloadProtocolIdentifier.{PayloadProtocolIdentifier}
use Rattle.sctp_model.specs.LinkRecord.{StreamRecord, Message, Slot, Report, Datagram, Data, Forward, Sack, LinkRecord}
use Rattle.sctp_model.specs.Messages
use Rattle.sctp_model.specs.Receiver
use Rattle.sctp_model.specs.Reports

-- what f makes of the record of stream s
abbrev pub stream_changed : LinkRecord → ℕ → (StreamRecord → StreamRecord) → LinkRecord
stream_changed w s f = record w { streams = map (λ r. if r.stream == s then f r else r) w.streams }

-- what f makes of message n
abbrev pub message_changed : LinkRecord → ℕ → (Message → Message) → LinkRecord
message_changed w n f = record w { messages = change_at f n w.messages }

-- one more datagram
abbrev pub with_datagram : LinkRecord → Datagram → LinkRecord
with_datagram w d = record w { network = w.network ++ d ∷ [] }

-- ## Streams and writes

-- a new stream is ordered and reliable
abbrev pub after_open : LinkRecord → ℕ → LinkRecord
after_open w s = record w { streams = w.streams ++ Messages.no_stream s ∷ [] }

-- a stream with another mode
abbrev pub with_mode : Bool → ReliabilityType → ℕ → StreamRecord → StreamRecord
with_mode unordered reliability value r =
    record r { unordered = unordered; reliability = reliability; value = value }

-- later messages of stream s are sent in this mode
abbrev pub after_mode : LinkRecord → ℕ → Bool → ReliabilityType → ℕ → LinkRecord
after_mode w s unordered reliability value =
    stream_changed w s (with_mode unordered reliability value)

-- the message that a write on this stream makes
abbrev pub message_on : LinkRecord → StreamRecord → PayloadProtocolIdentifier → List ℕ → Message
message_on w r ppi bytes =
    record {
      stream = r.stream;
      ordered = is_ordered r.unordered ppi;
      ppi = ppi;
      bytes = bytes;
      reliability = r.reliability;
      value = r.value;
      before = Messages.ordered_before w r.stream (length w.messages);
      started = None;
      expired = false;
      abandoned = false;
      read = false;
    }

-- an empty write adds nothing
abbrev pub after_write : LinkRecord → ℕ → PayloadProtocolIdentifier → List ℕ → LinkRecord
after_write w s ppi [] = w
after_write w s ppi (b ∷ bs) =
    record w { messages = w.messages ++ message_on w (Messages.stream_of w s) ppi (b ∷ bs) ∷ [] }

-- the lifetime of a message starts once
abbrev pub start_lifetime : ℕ → Message → Message
start_lifetime now m = record m { started = if is_none m.started then Some now else m.started }

-- the lifetimes of the messages that have not started start now
abbrev pub after_start : LinkRecord → ℕ → LinkRecord
after_start w now = record w { messages = map (start_lifetime now) w.messages }

-- ## Slots and datagrams

-- one more slot: for the next fragment of message n, or for its terminal chunk
abbrev pub with_slot : LinkRecord → ℕ → Bool → LinkRecord
with_slot w n is_terminal_chunk =
    record w {
      slots = w.slots ++ record {
        message = n;
        fragment = Messages.sent_of w n;
        is_terminal_chunk = is_terminal_chunk;
        arrived = false;
        acknowledged = false;
      } ∷ [];
    }

-- the next fragment of message n takes a slot, where there is a message
abbrev pub send_fragment_of : LinkRecord → Option ℕ → LinkRecord
send_fragment_of w None = w
send_fragment_of w (Some n) = with_slot w n false

-- the next fragment of the front takes a slot
abbrev pub send_fragment : LinkRecord → LinkRecord
send_fragment w = send_fragment_of w (Messages.front w)

-- the length of the DATA chunk of so many bytes, its padding included (RFC 4960 3.3.1)
abbrev pub chunk_length : ℕ → ℕ
chunk_length bytes = 16 + bytes + (4 - bytes % 4) % 4

-- the length of the chunk of the next fragment of message n
abbrev pub next_length_of : LinkRecord → Option ℕ → Option ℕ
next_length_of w None = None
next_length_of w (Some n) =
    Some (chunk_length (length (Messages.fragment_at w n (Messages.sent_of w n))))

-- the length of the chunk of the next fragment of the front, where there is one
abbrev pub next_length : LinkRecord → Option ℕ
next_length w = next_length_of w (Messages.front w)

-- the next chunk fits: with it the datagram is no longer than the limit
abbrev pub chunk_fits : LinkRecord → ℕ → Option ℕ → Bool
chunk_fits w used None = false
chunk_fits w used (Some more) = nat_le (used + more) w.setup.limit

-- the length used with one more chunk
abbrev pub plus : ℕ → Option ℕ → ℕ
plus used None = used
plus used (Some more) = used + more

-- further fragments, each the next of the front then, for as long as the next one fits: at most this many, into a datagram of which so many bytes are used
abbrev pub fill_datagram : ℕ → ℕ → LinkRecord → LinkRecord
fill_datagram zero used w = w
fill_datagram (suc most) used w =
    if chunk_fits w used (next_length w)
    then fill_datagram most (plus used (next_length w)) (send_fragment w) else w

-- the fragments that a Send takes: the first however long, then those that fit. A further chunk has at least 20 bytes, so no more than the limit fit
abbrev pub send_fragments : LinkRecord → LinkRecord
send_fragments w = fill_datagram w.setup.limit (plus 12 (next_length w)) (send_fragment w)

-- the datagram of the slots that new has more than old
abbrev pub with_data : LinkRecord → LinkRecord → LinkRecord
with_data old new =
    with_datagram new (Data (numbers_from (length old.slots) (length new.slots - length old.slots)))

-- where there is a front a DATA datagram leaves
abbrev pub send_from : LinkRecord → Option ℕ → LinkRecord
send_from w None = w
send_from w (Some n) = with_data w (send_fragments w)

-- lifetimes start, and where a fragment is pending a datagram leaves
abbrev pub after_send : LinkRecord → ℕ → LinkRecord
after_send w now = send_from (after_start w now) (Messages.front w)

-- the chunk of this TSN leaves again
abbrev pub after_resend : LinkRecord → ℕ → LinkRecord
after_resend w tsn = with_datagram w (Data (Messages.place_of w tsn ∷ []))

-- ## Expiry and abandonment (RFC 3758 3.5)

-- a message that expired
abbrev pub mark_expired : Message → Message
mark_expired m = record m { expired = true }

-- a message that was abandoned
abbrev pub mark_abandoned : Message → Message
mark_abandoned m = record m { abandoned = true }

-- a message that was read
abbrev pub mark_read : Message → Message
mark_read m = record m { read = true }

-- the front, where this holds of it
abbrev pub front_if : LinkRecord → (ℕ → Bool) → Option ℕ → Option ℕ
front_if w p None = None
front_if w p (Some n) = if p n then Some n else None

-- the message that an Expire removes: the front, where it is unsent and its lifetime is over
abbrev pub expiring : LinkRecord → ℕ → Option ℕ
expiring w now =
    front_if w (λ n. Messages.is_unsent w n && Messages.is_past_deadline w now n) (Messages.front w)

-- the message that expires is removed
abbrev pub after_expire : LinkRecord → Option ℕ → LinkRecord
after_expire w None = w
after_expire w (Some n) = message_changed w n mark_expired

-- a partially sent message that is abandoned takes one terminal chunk
abbrev pub after_abandon : LinkRecord → ℕ → LinkRecord
after_abandon w n =
    message_changed (if Messages.is_partially_sent w n then with_slot w n true
    else w) n mark_abandoned

-- the message that a Tail abandons: the front, where it is partially sent and its lifetime is over
abbrev pub tailing : LinkRecord → ℕ → Option ℕ
tailing w now =
    front_if w (λ n. Messages.is_partially_sent w n && Messages.is_past_deadline w now n)
    (Messages.front w)

-- the message that a Tail abandons, where there is one
abbrev pub after_tail : LinkRecord → Option ℕ → LinkRecord
after_tail w None = w
after_tail w (Some n) = after_abandon w n

-- a slot in flight is late: its message's lifetime is over, it was not abandoned, and the slot is not acknowledged or the message is partially sent
abbrev pub is_late : LinkRecord → ℕ → ℕ → Bool
is_late w now place =
    Messages.is_in_flight w place && (Messages.is_past_deadline w now (Messages.message_of w place)
    && (not (Messages.message_at w (Messages.message_of w place)).abandoned
    && (not (Messages.slot_at w place).acknowledged
    || Messages.is_partially_sent w (Messages.message_of w place))))

-- the late slots, in order
abbrev pub late_slots : LinkRecord → ℕ → List ℕ
late_slots w now = Messages.slots_where w (is_late w now)

-- the messages of the late slots, the partially sent one first
abbrev pub late_messages : LinkRecord → ℕ → List ℕ
late_messages w now =
    filter (Messages.is_partially_sent w) (map (Messages.message_of w) (late_slots w now))
    ++ map (Messages.message_of w) (late_slots w now)

-- each message of a late slot is abandoned
abbrev pub after_late : LinkRecord → ℕ → LinkRecord
after_late w now = fold after_abandon w (late_messages w now)

-- ## The receiver

-- an unordered message becomes complete when its last fragment arrives, where no skip reached it
abbrev pub becomes_complete : LinkRecord → ℕ → Bool
becomes_complete w n =
    not (Messages.message_at w n).ordered
    && (Receiver.has_arrived w n && list_all (λ place. nat_le w.skipped place)
    (Messages.slots_of w n))

-- a stream with one more complete unordered message
abbrev pub with_complete : ℕ → StreamRecord → StreamRecord
with_complete n r = record r { complete = r.complete ++ n ∷ [] }

-- message n is noted where it becomes complete
abbrev pub note_completion : LinkRecord → ℕ → LinkRecord
note_completion w n =
    if becomes_complete w n then stream_changed w (Messages.message_at w n).stream (with_complete n)
    else w

-- a slot that arrived new
abbrev pub mark_arrived : Slot → Slot
mark_arrived x = record x { arrived = true }

-- a slot comes: new, or a duplicate that the next SACK reports
abbrev pub receive_slot : LinkRecord → ℕ → LinkRecord
receive_slot w place =
    if Receiver.is_new w place
    then note_completion (record w { slots = change_at mark_arrived place w.slots })
    (Messages.message_of w place)
    else record w { duplicates = w.duplicates ++ place ∷ [] }

-- the greatest index among these messages of a stream, plus one, or the count before
abbrev pub named_by : LinkRecord → List ℕ → StreamRecord → StreamRecord
named_by w messages r =
    record r {
      named = Receiver.greatest r.named
          (map (λ n. Messages.index_of w n + 1)
          (filter (Messages.is_ordered_on w r.stream) messages));
    }

-- a skip counts where its slot is past the cumulative count (RFC 3758 3.6)
abbrev pub skip_counts : LinkRecord → ℕ → Bool
skip_counts w upto = nat_le (Receiver.cumulative w) upto

-- a skip comes: where it counts, the slots up to it are skipped and its messages named
abbrev pub receive_skip : LinkRecord → ℕ → List ℕ → LinkRecord
receive_skip w upto messages =
    if skip_counts w upto then record w {
      skipped = upto + 1;
      streams = map (named_by w messages) w.streams;
    } else w

-- a datagram comes to the receiver
abbrev pub after_arrive : LinkRecord → Option Datagram → LinkRecord
after_arrive w (Some (Data slots)) = fold receive_slot w slots
after_arrive w (Some (Forward upto messages)) = receive_skip w upto messages
after_arrive w _ = w

-- the next SACK is made
abbrev pub after_ack : LinkRecord → ℕ → LinkRecord
after_ack w credit =
    with_datagram (record w { duplicates = [] }) (Sack (Reports.report_of w credit))

-- a slot, acknowledged where the SACK reports it
abbrev pub acknowledged_by : Report → ℕ → Slot → Slot
acknowledged_by r place x = record x { acknowledged = x.acknowledged || Reports.reports r place }

-- a SACK comes to the sender, which takes it: it acknowledges what it reports
abbrev pub after_acked : LinkRecord → Option Datagram → LinkRecord
after_acked w (Some (Sack r)) =
    record w {
      slots = each_numbered (acknowledged_by r) 0 w.slots;
      taken = max w.taken r.cumulative;
    }
after_acked w _ = w

-- a stream without its first complete unordered message, where it has one
abbrev pub without_first : StreamRecord → StreamRecord
without_first r = record r { complete = drop 1 r.complete }

-- message n is read on stream s
abbrev pub read_of : LinkRecord → ℕ → Option ℕ → LinkRecord
read_of w s None = w
read_of w s (Some n) = stream_changed (message_changed w n mark_read) s without_first

-- the next message of stream s is read
abbrev pub after_reading : LinkRecord → ℕ → LinkRecord
after_reading w s = read_of w s (Receiver.next_read w s)
