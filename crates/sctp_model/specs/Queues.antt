-- What the queues that a link lends hold.
use Rattle.std.specs.Prelude.{ℕ, ◌-◌, ◌%◌, ◌^◌, Bool, ◌&&◌, ◌||◌, not, nat_le, if◌then◌else◌, List, [], length, map, Option, Some, None}
use Rattle.std.specs.List.{flat_map}
use Rattle.sctp_util.specs.Kept.{numbers_where, numbers_from, first_of}
use Rattle.sctp_data.specs.declared.chunk.chunk_payload_data.ChunkPayloadData.{ChunkPayloadData}
use Rattle.sctp_data.specs.declared.chunk.chunk_payload_data.ReliabilityType.{ReliabilityType}
use Rattle.sctp_data.specs.PayloadData.{Data}
use Rattle.sctp_data.specs.ChunkSet.{ChunkSet}
use Rattle.sctp_model.specs.LinkRecord.{LinkRecord}
use Rattle.sctp_model.specs.Messages
use Rattle.sctp_model.specs.Receiver
use Rattle.sctp_model.specs.Amounts.{is_expired_or_abandoned}
use Rattle.sctp_model.specs.Contents.{data_fields, chunk_at, cumulative_tsn}

-- ## The outbound queue

-- a fragment that waits for a TSN, 0 till then, with the number, the mode and the deadline of its message
pub record PendingFragment : Type 0 where
  pub message : ℕ
  pub fragment : Data
  pub reliability : ReliabilityType
  pub value : ℕ
  pub deadline : Option ℕ

-- fragment i of message n as it waits
abbrev pub pending_at : LinkRecord → ℕ → ℕ → PendingFragment
pending_at w n i =
    record {
      message = n;
      fragment = data_fields w n i 0;
      reliability = (Messages.message_at w n).reliability;
      value = (Messages.message_at w n).value;
      deadline = Messages.deadline_of w n;
    }

-- the fragments of message n that have no slot
abbrev pub pending_fragments : LinkRecord → ℕ → List PendingFragment
pending_fragments w n =
    map (pending_at w n) (numbers_from (Messages.sent_of w n)
    (Messages.fragment_count w n - Messages.sent_of w n))

-- the pending queue: ordered and unordered fragments apart, each message's in a row, and the kind that a partially sent message selects
pub record PendingRecord : Type 0 where
  pub ordered : List PendingFragment
  pub unordered : List PendingFragment
  pub selected : Option Bool

-- whether the message is unordered
abbrev pub kind_of : LinkRecord → Option ℕ → Option Bool
kind_of w None = None
kind_of w (Some n) = Some (not (Messages.message_at w n).ordered)

-- what the pending queue holds
abbrev pub pending_of : LinkRecord → PendingRecord
pending_of w =
    record {
      ordered =
          flat_map (pending_fragments w)
          (Messages.messages_where w (λ n. (Messages.message_at w n).ordered
          && not (is_expired_or_abandoned w n)));
      unordered =
          flat_map (pending_fragments w)
          (Messages.messages_where w (λ n. not (Messages.message_at w n).ordered
          && not (is_expired_or_abandoned w n)));
      selected = kind_of w (first_of (Messages.messages_where w (Messages.is_partially_sent w)));
    }

-- a chunk in flight: its payload is empty where it is acknowledged or its message was abandoned
pub record InFlightChunk : Type 0 where
  pub tsn : ℕ
  pub message : ℕ
  pub payload : List ℕ
  pub acknowledged : Bool
  pub abandoned : Bool
  pub deadline : Option ℕ

-- the payload of this slot was cleared
abbrev pub is_cleared : LinkRecord → ℕ → Bool
is_cleared w place =
    (Messages.slot_at w place).acknowledged
    || (Messages.message_at w (Messages.message_of w place)).abandoned

-- the slot at this place as the queue in flight has it
abbrev pub in_flight_at : LinkRecord → ℕ → InFlightChunk
in_flight_at w place =
    record {
      tsn = Messages.tsn_of w place;
      message = Messages.message_of w place;
      payload = if is_cleared w place then [] else (chunk_at w place).user_data;
      acknowledged = (Messages.slot_at w place).acknowledged;
      abandoned = (Messages.message_at w (Messages.message_of w place)).abandoned;
      deadline = Messages.deadline_of w (Messages.message_of w place);
    }

-- what is in flight, by TSN
abbrev pub in_flight_of : LinkRecord → List InFlightChunk
in_flight_of w = map (in_flight_at w) (numbers_from w.taken (length w.slots - w.taken))

-- ## The filter of TSNs

-- the cumulative TSN, the TSNs held past it and the duplicates
pub record FilterRecord : Type 0 where
  pub cumulative : ℕ
  pub held : List ℕ
  pub duplicates : List ℕ

-- what the filter of TSNs holds
abbrev pub filter_of : LinkRecord → FilterRecord
filter_of w =
    record {
      cumulative = cumulative_tsn w (Receiver.cumulative w);
      held =
          map (Messages.tsn_of w) (numbers_where (Receiver.arrived_at w) (Receiver.cumulative w)
          (length w.slots - Receiver.cumulative w));
      duplicates = map (Messages.tsn_of w) w.duplicates;
    }

-- ## Reassembly of a stream

-- the set of message n: its fragments that arrived
abbrev pub set_of : LinkRecord → ℕ → ChunkSet
set_of w n =
    record {
      ssn = Messages.ssn_of w n;
      ppi = (Messages.message_at w n).ppi;
      chunks =
          map (chunk_at w) (Messages.slots_where w
          (λ place. Messages.has_fragment w n place && Receiver.arrived_at w place));
    }

-- a complete unordered message as one set: its SSN is 0, since unordered messages have none of their own (RFC 4960 6.6)
abbrev pub complete_set_of : LinkRecord → ℕ → ChunkSet
complete_set_of w n =
    record {
      ssn = 0;
      ppi = (Messages.message_at w n).ppi;
      chunks = map (chunk_at w) (Messages.slots_of w n);
    }

-- the set that a read of message n hands out
abbrev pub handed_out : LinkRecord → ℕ → ChunkSet
handed_out w n = if (Messages.message_at w n).ordered then set_of w n else complete_set_of w n

-- an arrived slot, not skipped, of an unordered message of this stream that is not complete
abbrev pub is_unassembled : LinkRecord → ℕ → ℕ → Bool
is_unassembled w s place =
    Receiver.arrived_at w place && (nat_le w.skipped place
    && (Messages.is_unordered_on w s (Messages.message_of w place)
    && not (Receiver.is_complete_message w (Messages.message_of w place))))

-- the SSN expected next, the sets of ordered messages, the complete unordered messages and the unassembled chunks
pub record ReassemblyRecord : Type 0 where
  pub next_ssn : ℕ
  pub ordered : List ChunkSet
  pub unordered : List ChunkSet
  pub unassembled : List ChunkPayloadData

-- what the reassembly queue of stream s holds
abbrev pub reassembly_of : LinkRecord → ℕ → ReassemblyRecord
reassembly_of w s =
    record {
      next_ssn = Receiver.next_of w s % 2 ^ 16;
      ordered = map (set_of w) (Receiver.held_on w s);
      unordered = map (complete_set_of w) (Messages.stream_of w s).complete;
      unassembled = map (chunk_at w) (Messages.slots_where w (is_unassembled w s));
    }
