-- The record of a link and what it keeps beside it, from its fields.
use Rattle.std.specs.Prelude.{ℕ, map}
use Rattle.sctp_model.specs.LinkRecord.{LinkRecord, Setup}
use Rattle.sctp_receiver.specs.Receiver.{filter_of}
use Rattle.sctp_link.specs.Sides.{Sides, sides, reception_of}
use Rattle.sctp_link.specs.declared.link.Link.TheInside.{Inside}
use Rattle.sctp_link.specs.Linked.{State}
use Rattle.sctp_link.specs.Records.{message_record, progress_of, slot_record, datagram_record, stream_record}

-- what a link was made with
abbrev pub setup_of : ℕ → ℕ → ℕ → ℕ → Setup
setup_of first size largest limit =
    record { first = first; size = size; largest = largest; limit = limit }

-- the sender, the receiver and the progress of the streams, as one
abbrev pub sides_in : {C : Type 0} → Inside C → Sides
sides_in a = sides a.sender a.receiver a.progress

-- the record of these, with all else that the link keeps
abbrev pub record_from : {C : Type 0} → Sides → Inside C → LinkRecord
record_from y a =
    record {
      setup = setup_of a.first_tsn y.fragment_size y.max_message_size a.limit;
      streams = map stream_record y.streams;
      messages = map message_record a.messages.items;
      slots = map slot_record a.slots.items;
      network = map datagram_record a.network.items;
      skipped = a.skipped;
      taken = a.taken;
      duplicates = a.duplicates.items;
    }

abbrev pub record_in : {C : Type 0} → Inside C → LinkRecord
record_in a = record_from (sides_in a) a

abbrev pub state_from : {C : Type 0} → Sides → Inside C → State
state_from y a =
    record {
      recorded = record_from y a;
      open_streams = y.streams;
      progress = map progress_of a.messages.items;
      unstarted = a.unstarted;
      datagrams = map (λ d. d.bytes) a.network.items;
      outbound = y.flight.queue;
      next_tsn = y.flight.next_tsn;
      acked_tsn = y.flight.acked_tsn;
      filter = filter_of (reception_of y);
      fragments = a.fragments;
      written = a.written;
    }

abbrev pub state_in : {C : Type 0} → Inside C → State
state_in a = state_from (sides_in a) a
