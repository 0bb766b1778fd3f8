-- Runs of calls of a receiver, and what they hand out.
use Rattle.std.specs.Prelude.{◌≡◌, ⊤, ℕ, ◌+◌, ◌*◌, ◌^◌, ◌<◌, ◌≤◌, ◌==◌, Bool, true, false, not, ◌&&◌, if◌then◌else◌, List, [], ◌∷◌, ◌++◌, length, All, Option}
use Rattle.std.specs.Prelude.{Some, None}
use Rattle.std.specs.List.{list_all, sum_by, filter}
use Rattle.sctp_data.specs.declared.chunk.chunk_payload_data.ChunkPayloadData.{ChunkPayloadData}
use Rattle.sctp_data.specs.ChunkSet.{ChunkSet}
use Rattle.sctp_data.specs.ForwardTsn.{ForwardTsn}
use Rattle.sctp_reassembly.specs.reassembly_queue.Fragments.{is_complete}
use Rattle.sctp_reassembly.specs.reassembly_queue.ReassemblyQueue.{held_chunks}
use Rattle.sctp_receiver.specs.declared.receiver.arrival.Arrival.{Arrival}
use Rattle.sctp_receiver.specs.declared.receiver.arrival.Arrival.TheVariants.{New}
use Rattle.sctp_receiver.specs.declared.receiver.limits.Limits.{Limits}
use Rattle.sctp_receiver.specs.Limits.{chunk_cost, cost_of}
use Rattle.sctp_receiver.specs.Receiver.{Reception, at_first, is_open, open_stream, close_stream, data_refusal, arrival_of, is_answered_complete, Takes}
use Rattle.sctp_receiver.specs.Receiver.{discard_refusal, after_discard, forward_refusal, without_duplicates, max_sack_entries, after_sack_within, message_on}
use Rattle.sctp_receiver.specs.Receiver.{after_read, after_forward}
use Rattle.sctp_receiver.specs.Resets.{reset_stream, reset_refusal}
use Rattle.sctp_receiver.specs.Skips.{after_forward_tsn}
use Rattle.sctp_serial.specs.DataChunks.{is_on}

-- ## One call

-- a call that is not refused, with its arguments and whether the chunk was new; a refused one changes nothing. A call that tests
-- stream sequence numbers or names first makes the same step as the one that does not
pub data Call : Type 0 where
  opens : ℕ → Call
  closes : ℕ → Call
  takes : ChunkPayloadData → Arrival → Call
  discards : ℕ → Call
  reports : Call
  reports_within : ℕ → Call
  reads : ℕ → Call
  resets : ℕ → ℕ → Call
  forwards : ForwardTsn → Call
  forwards_by_names : ForwardTsn → Call

-- what it makes of the receiver, as the call ensures it
abbrev pub Makes : Call → Reception → Reception → Type 0
Makes (opens stream) old new = (is_open stream old ≡ false) × (new ≡ open_stream stream old)
Makes (closes stream) old new = new ≡ close_stream stream old
Makes (takes c arrival) old new = Takes c arrival old new
Makes (discards tsn) old new = new ≡ after_discard tsn old
Makes reports old new = new ≡ without_duplicates old
Makes (reports_within bytes) old new = new ≡ after_sack_within bytes old
Makes (reads stream) old new = new ≡ after_read stream old
Makes (resets stream last) old new = new ≡ reset_stream stream last old
Makes (forwards f) old new = new ≡ after_forward_tsn f old
Makes (forwards_by_names f) old new = new ≡ after_forward f old

-- ## A run of calls

-- a message that was read on a stream
pub record Message : Type 0 where
  pub stream : ℕ
  pub fragments : List ChunkPayloadData

-- the receiver, the chunks that it took as new, and the messages that were read, each list the last one first
pub record Stand : Type 0 where
  pub receiver : Reception
  pub accepted : List ChunkPayloadData
  pub read : List Message

abbrev pub accepted_after : Call → List ChunkPayloadData → List ChunkPayloadData
accepted_after (takes c (New complete)) cs = c ∷ cs
accepted_after _ cs = cs

abbrev pub with_message : ℕ → Option ChunkSet → List Message → List Message
with_message stream None ms = ms
with_message stream (Some set) ms = record { stream = stream; fragments = set.chunks } ∷ ms

abbrev pub messages_after : Call → Reception → List Message → List Message
messages_after (reads stream) r ms = with_message stream (message_on stream r) ms
messages_after _ r ms = ms

-- one call, and calls one after another
pub record Follows (c : Call) (old new : Stand) : Type 0 where
  pub receiver : Makes c old.receiver new.receiver
  pub accepted : new.accepted ≡ accepted_after c old.accepted
  pub read : new.read ≡ messages_after c old.receiver old.read

abbrev pub RunsTo : Stand → List Call → Stand → Type 0
RunsTo old [] new = new ≡ old
RunsTo old (c ∷ cs) new = (mid : Stand) × (Follows c old mid × RunsTo mid cs new)

abbrev pub at_start : ℕ → ℕ → Option Limits → Stand
at_start tsn max limits =
    record { receiver = at_first tsn max limits; accepted = []; read = [] }

-- P after each run of calls on a new receiver, whatever the chunks that come
abbrev pub AfterEachRun : (Stand → Type 0) → Type 0
AfterEachRun P =
    (tsn max : ℕ) (limits : Option Limits) (calls : List Call) (s : Stand)
    → RunsTo (at_start tsn max limits) calls s → P s

-- ## The law

-- each message that was read is complete: its first fragment begins, its last one ends, and TSNs rise by one
abbrev pub AreComplete : Stand → Type 0
AreComplete s = list_all (λ m. is_complete m.fragments) s.read ≡ true

-- it is of the same stream, unordered as the other is, and ordered with the same stream sequence number
abbrev pub is_like : ChunkPayloadData → ChunkPayloadData → Bool
is_like x y =
    (y.stream_identifier == x.stream_identifier)
    && (if x.unordered then y.unordered
    else not y.unordered && (y.stream_sequence_number == x.stream_sequence_number))

-- no fragment ends but the last
abbrev pub none_ends_before : ChunkPayloadData → List ChunkPayloadData → Bool
none_ends_before x [] = true
none_ends_before x (y ∷ ys) = not x.ending_fragment && none_ends_before y ys

-- fragments of one message: all are like the first, and of an unordered message none begins but the first, and none ends but
-- the last. An ordered message may have such inside, where a peer sets the flags so
abbrev pub is_one_message : List ChunkPayloadData → Bool
is_one_message [] = true
is_one_message (x ∷ ys) =
    list_all (is_like x) ys
    && (if x.unordered
    then list_all (λ y. not y.beginning_fragment) ys && none_ends_before x ys else true)

-- each message that was read is made of fragments of one message
abbrev pub AreOfOneMessage : Stand → Type 0
AreOfOneMessage s = list_all (λ m. is_one_message m.fragments) s.read ≡ true

-- the fragments of the messages that were read on a stream
abbrev pub fragments_read : ℕ → List Message → List ChunkPayloadData
fragments_read stream [] = []
fragments_read stream (m ∷ ms) =
    if m.stream == stream then m.fragments ++ fragments_read stream ms else fragments_read stream ms

-- however chunks are weighed, the fragments that were read on a stream weigh no more than the chunks that were taken on it:
-- so each was taken there, and none of them serves twice
abbrev pub WereAccepted : Stand → Type 0
WereAccepted s =
    (stream : ℕ) (weight : ChunkPayloadData → ℕ) → sum_by weight (fragments_read stream s.read)
    ≤ sum_by weight (filter (is_on stream) s.accepted)

-- ## What is held at most

-- a DATA chunk that is not refused has its answer; its TSN is a u32
pub record IsAnswered (c : ChunkPayloadData) (a : Arrival) (r : Reception) : Type 0 where
  pub fits : c.tsn < 2 ^ 32
  pub accepted : data_refusal c r ≡ None
  pub answer : a ≡ arrival_of c.tsn (is_answered_complete a) r

-- a call is not refused
abbrev pub IsUnrefused : Call → Reception → Type 0
IsUnrefused (takes c arrival) r = IsAnswered c arrival r
IsUnrefused (discards tsn) r = (tsn < 2 ^ 32) × (discard_refusal tsn r ≡ None)
IsUnrefused (resets stream last) r = reset_refusal stream last r ≡ None
IsUnrefused (forwards f) r = (f.new_cumulative_tsn < 2 ^ 32) × (forward_refusal f r ≡ None)
IsUnrefused (forwards_by_names f) r =
    (f.new_cumulative_tsn < 2 ^ 32) × (forward_refusal f r ≡ None)
IsUnrefused _ r = ⊤

-- calls one after another, none of which is refused
abbrev pub RunsUnrefused : Stand → List Call → Stand → Type 0
RunsUnrefused old [] new = new ≡ old
RunsUnrefused old (c ∷ cs) new =
    (mid : Stand) × ((IsUnrefused c old.receiver × Follows c old mid) × RunsUnrefused mid cs new)

-- P after each such run on a new receiver with limits, of which the window is a usize
abbrev pub AfterEachRunWithin : (Limits → Stand → Type 0) → Type 0
AfterEachRunWithin P =
    (tsn max : ℕ) (limits : Limits) (calls : List Call) (s : Stand) → limits.window < 2 ^ 64
    → RunsUnrefused (at_start tsn max (Some limits)) calls s → P limits s

-- how many chunks are held on all streams
abbrev pub chunks_held : Reception → ℕ
chunks_held r = sum_by (λ l. held_chunks l.queue.held) r.streams

-- by the cost of a chunk, they cost no more than the window and one chunk for each TSN within reach
abbrev pub HoldsFewChunks : Limits → Stand → Type 0
HoldsFewChunks l s = chunk_cost * chunks_held s.receiver ≤ l.window + l.reach * chunk_cost

-- where no chunk that was taken has more bytes than this, all that is held costs no more than the window and one such chunk
-- for each TSN within reach
abbrev pub CostsLittle : Limits → Stand → Type 0
CostsLittle l s =
    (most : ℕ) → All (λ c. length c.user_data ≤ most) s.accepted
    → sum_by cost_of s.receiver.streams ≤ l.window + l.reach * (most + chunk_cost)

-- no more duplicates are noted than one SACK can report
abbrev pub NotesFewDuplicates : Limits → Stand → Type 0
NotesFewDuplicates l s = length s.receiver.duplicates ≤ max_sack_entries

-- no more TSNs are kept beyond the cumulative one than there are within reach
abbrev pub KeepsFewTsns : Limits → Stand → Type 0
KeepsFewTsns l s = length s.receiver.beyond ≤ l.reach
