-- What a link keeps beside its record, and that all of it refines the record.
use Rattle.std.specs.Prelude.{◌≡◌, ℕ, ◌<◌, ◌≤◌, true, ◌%◌, ◌^◌, List, length, slice_index_or, slice_get, Some}
use Rattle.sctp_outbound.specs.outbound_queue.OutboundQueue.{Outbound}
use Rattle.sctp_model.specs.LinkRecord as W
use Rattle.sctp_model.specs.LinkRecord.{LinkRecord}
use Rattle.sctp_model.specs.Messages.{message_at, ordered_before, index_of, sent_of, tsn_of}
use Rattle.sctp_model.specs.Receiver.{next_of}
use Rattle.sctp_model.specs.Contents.{contents_of, cumulative_tsn}
use Rattle.sctp_model.specs.Queues.{FilterRecord, filter_of}
use Rattle.sctp_model.specs.Steps.{History, StandsFor, fragments_accepted}
use Rattle.sctp_model.specs.Laws.{IsSetup}
use Rattle.sctp_model.specs.refinement.Holds.{reassembly_of}
use Rattle.sctp_model.specs.refinement.Refines.{RefinesOutbound}
use Rattle.sctp_model.specs.refinement.Amount.{amount}
use Rattle.sctp_model.specs.refinement.Counts.{counters_on}
use Rattle.sctp_model.specs.refinement.Indexes.{begun_on}
use Rattle.sctp_model.specs.Amounts.{Counters, in_all, written_bytes}
use Rattle.sctp_model.specs.Amounts as M
use Rattle.sctp_link.specs.declared.link.accessors.Ledger.{Ledger}
use Rattle.sctp_link.specs.Streams.{OpenStream, stream_numbers, stats_in}
use Rattle.sctp_stream.specs.declared.stream.DataChannelStats.{DataChannelStats}
use Rattle.sctp_receiver.specs.TsnFilter.{Filter}
use Rattle.sctp_link.specs.Places.{IsApart}
use Rattle.sctp_link.specs.Encodings.{IsDatagram}

-- a link: its record, and the checksum that it was handed
pub record Linked (C : Type 0) : Type 0 where
  pub recorded : LinkRecord
  pub checksum : C

-- the record, and what a link keeps beside it
pub record State : Type 0 where
  pub recorded : LinkRecord
  pub open_streams : List OpenStream
  -- of each message, how many of its fragments have slots, and its index
  pub progress : List (ℕ × ℕ)
  -- the number of the first message whose lifetime has not started
  pub unstarted : ℕ
  -- the bytes of each datagram
  pub datagrams : List (List ℕ)
  pub outbound : Outbound
  pub next_tsn : ℕ
  -- the TSN up to which all was acknowledged
  pub acked_tsn : ℕ
  pub filter : Filter
  -- how many fragments were accepted
  pub fragments : ℕ
  -- how many bytes were written
  pub written : ℕ

-- the TSNs that came, in the words of the record
abbrev pub filter_shown : Filter → FilterRecord
filter_shown f =
    record { cumulative = f.cumulative_tsn; held = f.beyond; duplicates = f.duplicates }

-- counters as a stream keeps them
abbrev pub stats_of : Counters → DataChannelStats
stats_of c =
    record {
      stream_identifier = c.stream_identifier;
      generation = c.generation;
      messages_sent = c.messages_sent;
      bytes_sent = c.bytes_sent;
      messages_received = c.messages_received;
      bytes_received = c.bytes_received;
    }

-- the four sums as a link tells them
abbrev pub ledger_of : M.Ledger → Ledger
ledger_of l =
    record {
      written = l.written;
      pending = l.pending;
      in_flight = l.in_flight;
      released = l.released;
    }

-- what a stream keeps, against the record
pub record IsOpenStream (w : LinkRecord) (l : OpenStream) : Type 0 where
  pub held : l.inbound.queue.held ≡ reassembly_of w l.state.stream_identifier
  pub si : l.inbound.queue.si ≡ l.state.stream_identifier
  pub largest : l.inbound.queue.max_message_size ≡ w.setup.largest
  pub size : l.state.max_payload_size ≡ w.setup.size
  pub ordered : l.ordered ≡ ordered_before w l.state.stream_identifier (length w.messages)
  pub number : l.state.sequence_number ≡ l.ordered % 2 ^ 16
  pub begun : l.begun ≡ begun_on w l.state.stream_identifier
  pub next : l.next ≡ next_of w l.state.stream_identifier
  pub amount : l.state.buffered_amount ≡ amount w l.state.stream_identifier
  pub stats : stats_in l ≡ stats_of (counters_on w l.state.stream_identifier)

pub record IsLinked (sum : List ℕ → ℕ) (x : State) : Type 0 where
  pub setup : IsSetup x.recorded.setup
  pub history : History
  pub stands : StandsFor x.recorded.setup x.recorded history
  pub outbound : RefinesOutbound x.recorded x.outbound
  pub unstarted : x.unstarted ≡ x.outbound.next_unstarted
  pub filter : filter_shown x.filter ≡ filter_of x.recorded
  pub next : x.next_tsn ≡ tsn_of x.recorded (length x.recorded.slots)
  -- all up to the slots taken was acknowledged
  pub acked : x.acked_tsn ≡ cumulative_tsn x.recorded x.recorded.taken
  pub fragments : x.fragments ≡ fragments_accepted x.recorded
  pub written : x.written ≡ in_all x.recorded (written_bytes x.recorded)
  pub sents : (n : ℕ) → n < length x.recorded.messages → (slice_index_or x.progress n (0, 0)).0
      ≡ sent_of x.recorded n
  -- an ordered message has its index once some of it was sent
  pub indexes : (n : ℕ) → 0 < sent_of x.recorded n → (message_at x.recorded n).ordered ≡ true
      → (slice_index_or x.progress n (0, 0)).1 ≡ index_of x.recorded n
  pub low : (n : ℕ) → (slice_index_or x.progress n (0, 0)).1 ≤ n
  pub open_streams : (k : ℕ) (d : OpenStream) → k < length x.open_streams
      → IsOpenStream x.recorded (slice_index_or x.open_streams k d)
  -- no two streams have one number
  pub apart : IsApart (stream_numbers x.open_streams)
  pub encodings : (k : ℕ) (d : List ℕ) (g : W.Datagram) → slice_get x.recorded.network k ≡ Some g
      → IsDatagram sum (contents_of x.recorded g) (slice_index_or x.datagrams k d)
