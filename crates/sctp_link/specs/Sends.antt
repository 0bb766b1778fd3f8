-- What fragments that leave one after another make of the sender's side of a link.
use Rattle.std.specs.Prelude.{◌≡◌, ℕ, zero, suc, ◌+◌, ◌-◌, ◌<◌, ◌^◌, ◌==◌, min, Bool, false, not, ◌&&◌, List, [], ◌∷◌, ◌++◌, length, Option, Some, None}
use Rattle.std.specs.Prelude.{slice_index_or, slice_set}
use Rattle.std.specs.List.{filter}
use Rattle.sctp_data.specs.declared.chunk.chunk_payload_data.ChunkPayloadData.{ChunkPayloadData}
use Rattle.sctp_outbound.specs.pending_queue.PendingQueue.{next_pending}
use Rattle.sctp_outbound.specs.outbound_queue.OutboundQueue.{Outbound, all_started, sent_next}
use Rattle.sctp_outbound.specs.Marks.{with_nsent}
use Rattle.sctp_sender.specs.Sender.{Transmission}
use Rattle.sctp_link.specs.Progress.{Standing}
use Rattle.sctp_link.specs.declared.record.Message.{Message}
use Rattle.sctp_link.specs.declared.record.Slot.{Slot}
use Rattle.sctp_link.specs.OpenStreams.{begun_of, fragment_slot, with_fragment, begun_by, start_from}
use Rattle.sctp_serial.specs.DataChunks.{following_tsn}

-- what a fragment changes when it leaves
pub record Outgoing : Type 0 where
  pub outbound : Outbound
  pub messages : List Message
  pub progress : List Standing
  pub slots : List Slot
  pub next_tsn : ℕ

abbrev pub outgoing_of : Transmission → List Standing → List Message → List Slot → Outgoing
outgoing_of t ps messages slots =
    record {
      outbound = t.flight.queue;
      messages = messages;
      progress = ps;
      slots = slots;
      next_tsn = t.flight.next_tsn;
    }

-- lifetimes start, of messages those from a place on
abbrev pub started_from : ℕ → ℕ → Outgoing → Outgoing
started_from first now s =
    record s {
      outbound = all_started now s.outbound;
      messages = start_from first now s.messages;
    }

-- the next fragment can leave
pub record CanSend (s : Outgoing) : Type 0 where
  pub chunk : ChunkPayloadData
  pub shown : next_pending s.outbound.pending ≡ Some chunk
  pub made : chunk.message_id < length s.messages
  pub fits : (m : Message) → m ≡ slice_index_or s.messages chunk.message_id m → m.sent + 1 < 2 ^ 64
  pub few : (m : Message) → m ≡ slice_index_or s.messages chunk.message_id m
      → begun_of m.stream s.progress + 1 < 2 ^ 64
  pub room : length s.outbound.inflight.chunks + 1 < 2 ^ 31

-- it leaves: its message takes it, it gets a slot and the next TSN
pub record Leaves (now : ℕ) (s t : Outgoing) : Type 0 where
  pub chunk : ChunkPayloadData
  pub shown : next_pending s.outbound.pending ≡ Some chunk
  pub message : Message
  pub is : message ≡ slice_index_or s.messages chunk.message_id message
  pub outbound : t.outbound ≡ sent_next s.outbound s.next_tsn now
  pub messages : t.messages ≡ slice_set s.messages chunk.message_id
      (with_fragment s.progress message)
  pub progress : t.progress ≡ begun_by message s.progress
  pub slots : t.slots ≡ s.slots ++ fragment_slot chunk.message_id message.sent ∷ []
  pub next_tsn : t.next_tsn ≡ following_tsn s.next_tsn

-- so many leave, one after another
abbrev pub Leave : ℕ → ℕ → Outgoing → Outgoing → Type 0
Leave now zero s t = t ≡ s
Leave now (suc count) s t = (r : Outgoing) × (Leave now count s r × Leaves now r t)

-- what the sender has of its streams is as it was, and so is what was acknowledged
pub record SendsOnly (old new : Transmission) : Type 0 where
  pub acked : new.flight.acked_tsn ≡ old.flight.acked_tsn
  pub streams : new.streams ≡ old.streams
  pub fragment_size : new.fragment_size ≡ old.fragment_size
  pub max_message_size : new.max_message_size ≡ old.max_message_size
  pub kept : new.kept ≡ old.kept

-- ## What is noted of a sending

abbrev pub is_moment : ℕ → Option ℕ → Bool
is_moment now None = false
is_moment now (Some t) = t == now

-- sent once, at this moment
abbrev pub is_sent_at : ℕ → ChunkPayloadData → Bool
is_sent_at now c = (c.nsent == 1) && is_moment now c.since

-- so many chunks more are in flight, each of them sent once, at this moment; all others are as they were
pub record AreNoted (now count : ℕ) (old new : List ChunkPayloadData) : Type 0 where
  pub more : length new ≡ length old + count
  pub others : filter (λ c. not (is_sent_at now c)) new ≡ filter (λ c. not (is_sent_at now c)) old

-- sent once more, counted up to the greatest number of 32 bits; the moment noted is that of the first sending
abbrev pub counted_again : ChunkPayloadData → ChunkPayloadData
counted_again c = with_nsent (min (c.nsent + 1) (2 ^ 32 - 1)) c
