-- The receiver of a link while the slots of a datagram come, one after another.
use Rattle.std.specs.Prelude.{◌≡◌, ℕ, ◌<◌, Bool, true, false, List, [], ◌∷◌, length, map, slice_index_or}
use Rattle.sctp_util.specs.Lists.{change_at}
use Rattle.sctp_model.specs.LinkRecord.{LinkRecord}
use Rattle.sctp_model.specs.Queues.{filter_of}
use Rattle.sctp_model.specs.refinement.Holds.{reassembly_of}
use Rattle.sctp_receiver.specs.declared.receiver.arrival.Arrival.{Arrival}
use Rattle.sctp_receiver.specs.declared.receiver.arrival.Arrival.TheVariants.{New, Repeat}
use Rattle.sctp_receiver.specs.Receiver.{filter_of as held_filter}
use Rattle.sctp_link.specs.Streams.{OpenStream, stream_numbers}
use Rattle.sctp_link.specs.Sides.{Sides, reception_of}
use Rattle.sctp_link.specs.declared.record.Slot.{Slot}
use Rattle.sctp_link.specs.Linked.{filter_shown}
use Rattle.sctp_link.specs.Records.{stream_record}
use Rattle.sctp_link.specs.Places.{IsApart}

-- the queue of an open stream, against the record
pub record HoldsQueue (w : LinkRecord) (l : OpenStream) : Type 0 where
  pub held : l.inbound.queue.held ≡ reassembly_of w l.state.stream_identifier
  pub si : l.inbound.queue.si ≡ l.state.stream_identifier
  pub largest : l.inbound.queue.max_message_size ≡ w.setup.largest

-- what the receiver of a link has, against the record
pub record IsReceiver (w : LinkRecord) (x : Sides) : Type 0 where
  pub streams_are : w.streams ≡ map stream_record x.streams
  pub filter_is : filter_shown (held_filter (reception_of x)) ≡ filter_of w
  pub queues : (k : ℕ) (d : OpenStream) → k < length x.streams
      → HoldsQueue w (slice_index_or x.streams k d)
  pub apart : IsApart (stream_numbers x.streams)

-- the number of the message of the slot at a place
abbrev pub number_at : List Slot → ℕ → ℕ
number_at ss p =
    (slice_index_or ss p (record {
      message = 0;
      fragment = 0;
      is_terminal_chunk = false;
      arrived = false;
      acknowledged = false;
    })).message

abbrev pub with_arrival : Slot → Slot
with_arrival x = record x { arrived = true }

-- the slots after the arrival of some, one after another, each new or not
abbrev pub arrived_in : List ℕ → List Arrival → List Slot → List Slot
arrived_in (p ∷ ps) (New complete ∷ bs) ss = arrived_in ps bs (change_at with_arrival p ss)
arrived_in (p ∷ ps) (Repeat ∷ bs) ss = arrived_in ps bs ss
arrived_in [] bs ss = ss
arrived_in (p ∷ ps) [] ss = ss

-- those that came again
abbrev pub repeated_of : List ℕ → List Arrival → List ℕ
repeated_of (p ∷ ps) (New complete ∷ bs) = repeated_of ps bs
repeated_of (p ∷ ps) (Repeat ∷ bs) = p ∷ repeated_of ps bs
repeated_of [] bs = []
repeated_of (p ∷ ps) [] = []

abbrev pub is_first : Arrival → Bool
is_first (New complete) = true
is_first Repeat = false
