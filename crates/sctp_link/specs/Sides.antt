-- A sender, a receiver and the progress of their streams as one value.
use Rattle.std.specs.Prelude.{◌≡◌, ℕ, Bool, true, if◌then◌else◌, List, [], ◌∷◌, ◌++◌, map, Option, Some, None, is_some}
use Rattle.std.specs.List.{find}
use Rattle.sctp_util.specs.Lists.{change_where}
use Rattle.sctp_data.specs.declared.chunk.chunk_payload_data.ChunkPayloadData.{ChunkPayloadData}
use Rattle.sctp_data.specs.declared.chunk.chunk_payload_data.PayloadProtocolIdentifier.{PayloadProtocolIdentifier}
use Rattle.sctp_data.specs.ForwardTsn.{ForwardTsn}
use Rattle.sctp_data.specs.SelectiveAck.{Sack}
use Rattle.sctp_outbound.specs.outbound_queue.OutboundQueue.{expired_of, with_message}
use Rattle.sctp_receiver.specs.declared.receiver.arrival.Arrival.{Arrival}
use Rattle.sctp_receiver.specs.declared.receiver.arrival.Arrival.TheVariants.{New, Repeat}
use Rattle.sctp_sender.specs.Flight as Flight
use Rattle.sctp_sender.specs.Flight.{Flight, with_queue, after_sack, released_by}
use Rattle.sctp_receiver.specs.Inbound as Inbound
use Rattle.sctp_sender.specs.Outgoing as Outgoing
use Rattle.sctp_sender.specs.Outgoing.{fragments_with_mode}
use Rattle.sctp_receiver.specs.Receiver.{Reception, filter_of, is_stale, arrival_of, is_answered_complete, data_refusal}
use Rattle.sctp_sender.specs.Sender.{Transmission}
use Rattle.sctp_receiver.specs.TsnFilter.{Filter, with_tsn, with_duplicate, skipped_to}
use Rattle.sctp_link.specs.Progress as Progress
use Rattle.sctp_link.specs.Progress.{Standing}
use Rattle.sctp_link.specs.Streams.{OpenStream, Keeps, join_each, has_number, new_open_stream, on_inbound, wrote_to, after_releases, expired_on}
use Rattle.sctp_link.specs.Streams.{forwarded_on}
use Rattle.sctp_serial.specs.DataChunks.{preceding_tsn}

-- the open streams in the order in which they were opened; what waits and what is in flight; the TSNs that came; how long a
-- fragment is, and how long a message may be
pub record Sides : Type 0 where
  pub streams : List OpenStream
  pub flight : Flight
  pub cumulative_tsn : ℕ
  pub beyond : List ℕ
  pub duplicates : List ℕ
  pub fragment_size : ℕ
  pub max_message_size : ℕ

-- each of the three has the same streams, in the same order; the receiver has no limits, and the sender keeps nothing of what gap ack
-- blocks report
pub record IsAligned (sender : Transmission) (receiver : Reception)
    (progress : List Standing) : Type 0 where
  pub receives : Outgoing.numbers_of sender.streams ≡ Inbound.numbers_of receiver.streams
  pub progresses : Outgoing.numbers_of sender.streams ≡ Progress.numbers_of progress
  pub size : receiver.max_message_size ≡ sender.max_message_size
  pub unlimited : receiver.limits ≡ None
  pub forgets : sender.kept ≡ None

-- the three as one
abbrev pub sides : Transmission → Reception → List Standing → Sides
sides t r ps =
    record {
      streams = join_each t.streams r.streams ps;
      flight = t.flight;
      cumulative_tsn = r.cumulative_tsn;
      beyond = r.beyond;
      duplicates = r.duplicates;
      fragment_size = t.fragment_size;
      max_message_size = t.max_message_size;
    }

-- what is the receiver's
abbrev pub reception_of : Sides → Reception
reception_of x =
    record {
      streams = map (λ l. l.inbound) x.streams;
      cumulative_tsn = x.cumulative_tsn;
      beyond = x.beyond;
      duplicates = x.duplicates;
      max_message_size = x.max_message_size;
      limits = None;
    }

-- nothing was opened
abbrev pub fresh : ℕ → ℕ → ℕ → Sides
fresh tsn size largest =
    record {
      streams = [];
      flight = Flight.at_first tsn;
      cumulative_tsn = preceding_tsn tsn;
      beyond = [];
      duplicates = [];
      fragment_size = size;
      max_message_size = largest;
    }

abbrev pub stream_in : ℕ → Sides → Option OpenStream
stream_in s x = find (has_number s) x.streams

abbrev pub is_open : ℕ → Sides → Bool
is_open s x = is_some (stream_in s x)

-- the stream with a number changes
abbrev pub on_stream : ℕ → (OpenStream → OpenStream) → Sides → Sides
on_stream s f x = record x { streams = change_where (has_number s) f x.streams }

abbrev pub with_flight : Flight → Sides → Sides
with_flight f x = record x { flight = f }

abbrev pub with_filter_of : Filter → Sides → Sides
with_filter_of f x =
    record x { cumulative_tsn = f.cumulative_tsn; beyond = f.beyond; duplicates = f.duplicates }

abbrev pub opened_on : ℕ → Sides → Sides
opened_on s x =
    record x { streams = x.streams ++ new_open_stream s x.fragment_size x.max_message_size ∷ [] }

-- ## Sending

-- a write to a stream: its fragments wait
abbrev pub written_on : OpenStream → ℕ → PayloadProtocolIdentifier → List ℕ → Sides → Sides
written_on l s ppi bytes x =
    with_flight (with_queue x.flight (with_message
    (fragments_with_mode l.state ppi bytes) x.flight.queue)) (on_stream s (wrote_to ppi bytes) x)

abbrev pub sack_taken : Sack → Sides → Sides
sack_taken s x =
    record x {
      streams = after_releases (released_by s x.flight) x.streams;
      flight = after_sack s x.flight;
    }

-- the message that begins with a chunk is gone, unsent
abbrev pub expired_unsent : ChunkPayloadData → ℕ → Sides → Sides
expired_unsent c bytes x =
    with_flight (with_queue x.flight (expired_of (Some c) x.flight.queue))
    (on_stream c.stream_identifier (expired_on c.unordered bytes) x)

-- ## Receiving

-- a chunk with a new TSN is taken
pub record Accepts (c : ChunkPayloadData) (number : ℕ) (old new : Sides) : Type 0 where
  pub stream : OpenStream
  pub found : stream_in c.stream_identifier old ≡ Some stream
  pub kept : OpenStream
  pub keeps : Keeps c number stream kept
  pub after : new ≡ with_filter_of (with_tsn c.tsn (filter_of (reception_of old)))
      (on_stream c.stream_identifier (λ _. kept) old)

abbrev pub repeat_tsn : ℕ → Sides → Sides
repeat_tsn tsn x = with_filter_of (with_duplicate tsn (filter_of (reception_of x))) x

-- what a DATA chunk makes, where its TSN is new and where it is not
abbrev pub Takes : ChunkPayloadData → ℕ → Arrival → Sides → Sides → Type 0
Takes c number (New complete) old new = Accepts c number old new
Takes c number Repeat old new = new ≡ repeat_tsn c.tsn old

-- a FORWARD-TSN that is past what came is followed
abbrev pub follow_forward_tsn : ForwardTsn → Sides → Sides
follow_forward_tsn f x =
    with_filter_of (skipped_to f.new_cumulative_tsn (filter_of (reception_of x)))
    (record x {
      streams = map (on_inbound
          (forwarded_on f.streams f.new_cumulative_tsn)) x.streams;
    })

abbrev pub after_forward : ForwardTsn → Sides → Sides
after_forward f x = if is_stale f (reception_of x) then x else follow_forward_tsn f x

-- ## Several DATA chunks, one after another

-- none is refused, whatever the ones before it made; each has the number of its message
abbrev pub CanTake : List ChunkPayloadData → List ℕ → Sides → Type 0
CanTake [] ns x = Unit {0}
CanTake (c ∷ cs) [] x = ⊥
CanTake (c ∷ cs) (n ∷ ns) x =
    (data_refusal c (reception_of x) ≡ None) × (is_open c.stream_identifier x ≡ true)
    × ((complete : Bool) (y : Sides)
    → Takes c n (arrival_of c.tsn complete (reception_of x)) x y → CanTake cs ns y)

-- one is taken, with its answer
pub record TakesFirst (c : ChunkPayloadData) (n : ℕ) (a : Arrival) (old mid : Sides) : Type 0 where
  pub answer : a ≡ arrival_of c.tsn (is_answered_complete a) (reception_of old)
  pub taken : Takes c n a old mid

abbrev pub TakesEach : List ChunkPayloadData → List ℕ → List Arrival → Sides → Sides → Type 0
TakesEach [] ns [] old new = new ≡ old
TakesEach (c ∷ cs) (n ∷ ns) (a ∷ bs) old new =
    (mid : Sides) × (TakesFirst c n a old mid × TakesEach cs ns bs mid new)
TakesEach [] ns (a ∷ bs) old new = ⊥
TakesEach (c ∷ cs) [] bs old new = ⊥
TakesEach (c ∷ cs) (n ∷ ns) [] old new = ⊥
