-- Streams, messages, fragments and slots.
use Rattle.std.specs.Prelude.{slice_index_or, ℕ, ◌+◌, ◌-◌, ◌%◌, ◌^◌, Bool, true, false, ◌&&◌, not, ◌==◌, nat_lt, nat_le, if◌then◌else◌, List, [], length, find}
use Rattle.std.specs.Prelude.{Option, Some, None, is_some, unwrap_or}
use Rattle.sctp_util.specs.Kept.{numbers_where, first_of, or_else}
use Rattle.sctp_util.specs.Lists.{pieces}
use Rattle.sctp_data.specs.declared.chunk.chunk_payload_data.ReliabilityType.TheVariants.{Reliable}
use Rattle.sctp_data.specs.declared.chunk.chunk_payload_data.PayloadProtocolIdentifier.TheVariants.{Unknown}
use Rattle.sctp_data.specs.PayloadTypes.{is_dcep}
use Rattle.sctp_data.specs.Reliability.{is_timed, deadline_at, is_past}
use Rattle.sctp_model.specs.LinkRecord.{StreamRecord, Message, Slot, LinkRecord}

-- ## By number

-- a stream as it opens: ordered and reliable, with nothing named
abbrev pub no_stream : ℕ → StreamRecord
no_stream s =
    record {
      stream = s;
      unordered = false;
      reliability = Reliable;
      value = 0;
      named = 0;
      complete = [];
    }

-- what stands past the last message
abbrev pub no_message : Message
no_message =
    record {
      stream = 0;
      ordered = false;
      ppi = Unknown;
      bytes = [];
      reliability = Reliable;
      value = 0;
      before = 0;
      started = None;
      expired = true;
      abandoned = true;
      read = true;
    }

-- what stands past the last slot
abbrev pub no_slot : Slot
no_slot =
    record {
      message = 0;
      fragment = 0;
      is_terminal_chunk = true;
      arrived = false;
      acknowledged = true;
    }

-- message n
abbrev pub message_at : LinkRecord → ℕ → Message
message_at w n = slice_index_or w.messages n no_message

-- the slot at this place
abbrev pub slot_at : LinkRecord → ℕ → Slot
slot_at w place = slice_index_or w.slots place no_slot

-- the message that the slot at this place belongs to
abbrev pub message_of : LinkRecord → ℕ → ℕ
message_of w place = (slot_at w place).message

-- the record of stream s, where it is open
abbrev pub stream_at : LinkRecord → ℕ → Option StreamRecord
stream_at w s = find (λ r. r.stream == s) w.streams

-- stream s is open
abbrev pub is_open : LinkRecord → ℕ → Bool
is_open w s = is_some (stream_at w s)

-- the record of stream s, or that of a new one
abbrev pub stream_of : LinkRecord → ℕ → StreamRecord
stream_of w s = unwrap_or (stream_at w s) (no_stream s)

-- the numbers of the messages that pass
abbrev pub messages_where : LinkRecord → (ℕ → Bool) → List ℕ
messages_where w p = numbers_where p 0 (length w.messages)

-- the places of the slots that pass
abbrev pub slots_where : LinkRecord → (ℕ → Bool) → List ℕ
slots_where w p = numbers_where p 0 (length w.slots)

-- ## Messages and their indexes

-- message n is an ordered one of stream s that did not expire
abbrev pub is_ordered_on : LinkRecord → ℕ → ℕ → Bool
is_ordered_on w s n =
    ((message_at w n).stream == s) && ((message_at w n).ordered && not (message_at w n).expired)

-- message n is an unordered one of stream s
abbrev pub is_unordered_on : LinkRecord → ℕ → ℕ → Bool
is_unordered_on w s n = ((message_at w n).stream == s) && not (message_at w n).ordered

-- how many ordered messages of stream s come before message n
abbrev pub ordered_before : LinkRecord → ℕ → ℕ → ℕ
ordered_before w s n = length (numbers_where (is_ordered_on w s) 0 n)

-- the index of an ordered message: its place among those of its stream
abbrev pub index_of : LinkRecord → ℕ → ℕ
index_of w n = ordered_before w (message_at w n).stream n

-- the ordered messages of a stream, by number: the one with index i stands at place i
abbrev pub ordered_on : LinkRecord → ℕ → List ℕ
ordered_on w s = messages_where w (is_ordered_on w s)

-- the stream sequence number of message n: its index, or for an unordered one the count of ordered ones written before it, modulo 2^16 (RFC 4960 6.5, 6.6)
abbrev pub ssn_of : LinkRecord → ℕ → ℕ
ssn_of w n = (if (message_at w n).ordered then index_of w n else (message_at w n).before) % 2 ^ 16

-- the fragments of message n: its bytes in pieces of the fragment size (RFC 4960 6.9)
abbrev pub fragments_of : LinkRecord → ℕ → List (List ℕ)
fragments_of w n = pieces (length (message_at w n).bytes) w.setup.size (message_at w n).bytes

-- how many fragments message n has
abbrev pub fragment_count : LinkRecord → ℕ → ℕ
fragment_count w n = length (fragments_of w n)

-- fragment i of message n
abbrev pub fragment_at : LinkRecord → ℕ → ℕ → List ℕ
fragment_at w n i = slice_index_or (fragments_of w n) i []

-- ## Slots

-- the TSN of the slot at this place (RFC 4960 3.3.1)
abbrev pub tsn_of : LinkRecord → ℕ → ℕ
tsn_of w place = (w.setup.first + place) % 2 ^ 32

-- the place of the slot that has this TSN, where it was given out
abbrev pub place_of : LinkRecord → ℕ → ℕ
place_of w tsn = (tsn + (2 ^ 32 - w.setup.first)) % 2 ^ 32

-- the slot at this place has a fragment of message n, or its terminal chunk
abbrev pub belongs_to : LinkRecord → ℕ → ℕ → Bool
belongs_to w n place = message_of w place == n

-- the slot at this place has a fragment of message n
abbrev pub has_fragment : LinkRecord → ℕ → ℕ → Bool
has_fragment w n place = belongs_to w n place && not (slot_at w place).is_terminal_chunk

-- the slots of the fragments of message n
abbrev pub slots_of : LinkRecord → ℕ → List ℕ
slots_of w n = slots_where w (has_fragment w n)

-- how many fragments of message n have slots: the first ones
abbrev pub sent_of : LinkRecord → ℕ → ℕ
sent_of w n = length (slots_of w n)

-- some but not all of its fragments have slots, and it was not abandoned
abbrev pub is_partially_sent : LinkRecord → ℕ → Bool
is_partially_sent w n =
    nat_lt 0 (sent_of w n) && (nat_lt (sent_of w n) (fragment_count w n)
    && not (message_at w n).abandoned)

-- none of its fragments has a slot, and it did not expire
abbrev pub is_unsent : LinkRecord → ℕ → Bool
is_unsent w n = (sent_of w n == 0) && not (message_at w n).expired

-- the message to send from: the partially sent one; else the first unsent unordered one; else the first unsent ordered one
abbrev pub front : LinkRecord → Option ℕ
front w =
    or_else (first_of (messages_where w (is_partially_sent w)))
    (or_else (first_of (messages_where w (λ n. is_unsent w n && not (message_at w n).ordered)))
    (first_of (messages_where w (λ n. is_unsent w n && (message_at w n).ordered))))

-- a slot is in flight until a taken SACK acknowledged it cumulatively
abbrev pub is_in_flight : LinkRecord → ℕ → Bool
is_in_flight w place = nat_le w.taken place && nat_lt place (length w.slots)

-- ## Lifetimes (RFC 3758 4.1)

-- the moment from which a message with this lifetime in milliseconds is late, where it was started; none past the greatest u64
abbrev pub deadline_from : ℕ → Option ℕ → Option ℕ
deadline_from value None = None
deadline_from value (Some t) = deadline_at t value

-- the deadline of message n: only one in timed mode that is not DCEP has one
abbrev pub deadline_of : LinkRecord → ℕ → Option ℕ
deadline_of w n =
    if is_timed (message_at w n).reliability && not (is_dcep (message_at w n).ppi)
    then deadline_from (message_at w n).value (message_at w n).started
    else None

-- the lifetime of message n is over
abbrev pub is_past_deadline : LinkRecord → ℕ → ℕ → Bool
is_past_deadline w now n = is_past now (deadline_of w n)
