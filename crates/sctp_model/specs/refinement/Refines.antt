-- What a link's queues hold, against its record.
use Rattle.std.specs.Prelude.{◌≡◌, ◌<◌, ◌≤◌, ◌-◌, ◌||◌, if◌then◌else◌, ℕ, Bool, ◌&&◌, not, List, [], length, map, nat_le, is_some, Option, Some, None}
use Rattle.std.specs.List.{flat_map}
use Rattle.sctp_util.specs.Kept.{numbers_where, always, numbers_from, first_of}
use Rattle.sctp_data.specs.declared.chunk.chunk_payload_data.ChunkPayloadData.{ChunkPayloadData}
use Rattle.sctp_data.specs.declared.chunk.chunk_payload_data.ReliabilityType.{ReliabilityType}
use Rattle.sctp_data.specs.declared.chunk.chunk_payload_data.ReliabilityType.TheVariants.{Reliable}
use Rattle.sctp_data.specs.PayloadData.{Data, data_of}
use Rattle.sctp_data.specs.ChunkSet.{fresh}
use Rattle.sctp_outbound.specs.payload_queue.PayloadQueue.{Payload}
use Rattle.sctp_outbound.specs.pending_queue.PendingQueue.{Pending}
use Rattle.sctp_outbound.specs.outbound_queue.OutboundQueue.{Outbound}
use Rattle.sctp_outbound.specs.declared.pending_queue.Selected.{Selected}
use Rattle.sctp_model.specs.LinkRecord.{LinkRecord}
use Rattle.sctp_model.specs.Messages.{message_at, message_of, tsn_of, messages_where, is_partially_sent, sent_of, fragment_count, deadline_of}
use Rattle.sctp_model.specs.Amounts.{is_expired_or_abandoned}
use Rattle.sctp_model.specs.Contents.{data_fields, chunk_at}
use Rattle.sctp_model.specs.Queues.{FilterRecord, InFlightChunk, in_flight_at, is_cleared, PendingFragment, PendingRecord}

-- ## What waits to be sent

-- fragment i of message n as it waits: nothing of it was sent yet
abbrev pub waiting_at : LinkRecord → ℕ → ℕ → ChunkPayloadData
waiting_at w n i =
    record (fresh (data_fields w n i 0)) {
      message_id = n;
      reliability = Some ((message_at w n).reliability, (message_at w n).value);
      deadline = deadline_of w n;
    }

-- the fragments of message n that have no slot
abbrev pub waiting_of : LinkRecord → ℕ → List ChunkPayloadData
waiting_of w n =
    map (waiting_at w n) (numbers_from (sent_of w n) (fragment_count w n - sent_of w n))

-- those of the messages that pass, one message after another
abbrev pub waiting_where : LinkRecord → (ℕ → Bool) → List ChunkPayloadData
waiting_where w p = flat_map (waiting_of w) (messages_where w p)

abbrev pub waits_ordered : LinkRecord → ℕ → Bool
waits_ordered w n = (message_at w n).ordered && not (is_expired_or_abandoned w n)

abbrev pub waits_unordered : LinkRecord → ℕ → Bool
waits_unordered w n = not (message_at w n).ordered && not (is_expired_or_abandoned w n)

-- the partially sent message, with its kind
abbrev pub selected_of : LinkRecord → Option ℕ → Option Selected
selected_of w None = None
selected_of w (Some n) = Some (record { message_id = n; unordered = not (message_at w n).ordered })

-- the pending queue, but for its room
pub record RefinesPending (w : LinkRecord) (q : Pending) : Type 0 where
  pub ordered : q.ordered ≡ waiting_where w (waits_ordered w)
  pub unordered : q.unordered ≡ waiting_where w (waits_unordered w)
  pub selected : q.selected ≡ selected_of w (first_of (messages_where w (is_partially_sent w)))

-- ## What is in flight

-- a chunk in flight as the record knows it, its stream, which it keeps when its bytes are gone, and what a further sending of it says
pub record Sending : Type 0 where
  pub chunk : InFlightChunk
  pub stream : ℕ
  pub says : Option Data

-- nothing where its bytes are gone
abbrev pub unless_gone : Bool → Data → Option Data
unless_gone gone d = if gone then None else Some d

abbrev pub sending_of : ChunkPayloadData → Sending
sending_of c =
    record {
      chunk =
          record {
            tsn = c.tsn;
            message = c.message_id;
            payload = c.user_data;
            acknowledged = c.acked;
            abandoned = c.abandoned;
            deadline = c.deadline;
          };
      stream = c.stream_identifier;
      says = unless_gone (c.acked || c.abandoned) (data_of c);
    }

abbrev pub sending_at : LinkRecord → ℕ → Sending
sending_at w place =
    record {
      chunk = in_flight_at w place;
      stream = (message_at w (message_of w place)).stream;
      says = unless_gone (is_cleared w place) (data_of (chunk_at w place));
    }

abbrev pub sendings_of : LinkRecord → List Sending
sendings_of w = map (sending_at w) (numbers_from w.taken (length w.slots - w.taken))

-- ## While acknowledgements are taken

-- the slot at this place in flight, were it acknowledged or not
abbrev pub sending_by : LinkRecord → Bool → ℕ → Sending
sending_by w acked place =
    record {
      chunk = record {
        tsn = tsn_of w place;
        message = message_of w place;
        payload =
            if acked || (message_at w (message_of w place)).abandoned then []
            else (chunk_at w place).user_data;
        acknowledged = acked;
        abandoned = (message_at w (message_of w place)).abandoned;
        deadline = deadline_of w (message_of w place);
      };
      stream = (message_at w (message_of w place)).stream;
      says =
          unless_gone (acked || (message_at w (message_of w place)).abandoned)
          (data_of (chunk_at w place));
    }

-- what the queue in flight has, where these are acknowledged
abbrev pub IsInFlight : LinkRecord → (ℕ → Bool) → ℕ → ℕ → List ChunkPayloadData → Type 0
IsInFlight w acked from count cs =
    map sending_of cs ≡ map (λ k. sending_by w (acked k) k) (numbers_where always from count)

-- the outbound queue: the number of the next message, and from which on lifetimes have not started
pub record RefinesOutbound (w : LinkRecord) (q : Outbound) : Type 0 where
  pub pending : RefinesPending w q.pending
  pub in_flight : map sending_of q.inflight.chunks ≡ sendings_of w
  pub next : q.next_message_id ≡ length w.messages
  pub unstarted : (n : ℕ) → n < length w.messages → is_some (message_at w n).started
      ≡ not (nat_le q.next_unstarted n)
  pub started : q.next_unstarted ≤ length w.messages
  -- the lifetime of what was sent has started
  pub begun : (p : ℕ) → p < length w.slots → message_of w p < q.next_unstarted

-- ## What came

-- the filter of TSNs, with the cumulative TSN that the link keeps
abbrev pub filter_held : ℕ → Payload → FilterRecord
filter_held cumulative q =
    record { cumulative = cumulative; held = map (λ c. c.tsn) q.chunks; duplicates = q.duplicates }

-- ## What a lent outbound queue shows

abbrev pub mode_of : Option (ReliabilityType × ℕ) → ReliabilityType × ℕ
mode_of None = (Reliable, 0)
mode_of (Some r) = r

-- a chunk that waits, in the words of the record
abbrev pub pending_shown : ChunkPayloadData → PendingFragment
pending_shown c =
    record {
      message = c.message_id;
      fragment = data_of c;
      reliability = (mode_of c.reliability).0;
      value = (mode_of c.reliability).1;
      deadline = c.deadline;
    }

-- a chunk in flight, in the words of the record
abbrev pub in_flight_shown : ChunkPayloadData → InFlightChunk
in_flight_shown c = (sending_of c).chunk

abbrev pub selected_shown : Option Selected → Option Bool
selected_shown None = None
selected_shown (Some s) = Some s.unordered

abbrev pub shown : Pending → PendingRecord
shown q =
    record {
      ordered = map pending_shown q.ordered;
      unordered = map pending_shown q.unordered;
      selected = selected_shown q.selected;
    }
