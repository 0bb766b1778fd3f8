-- The receiving half of a link as callers see it (RFC 4960 6; RFC 3758 3.6).
use Rattle.std.specs.Prelude.{◌≡◌, ◌⊎◌, ℕ, Bool, true, false, not, ◌&&◌, ◌==◌, nat_le, if◌then◌else◌, ◌+◌, ◌-◌, ◌/◌, min, List, [], ◌∷◌, ◌++◌, length, map}
use Rattle.std.specs.Prelude.{take, drop, slice_get, Option, Some, None, is_some}
use Rattle.std.specs.List.{find, filter}
use Rattle.std.specs.Option.{option_or}
use Rattle.sctp_util.specs.Lists.{change_where}
use Rattle.sctp_util.specs.Serial.{at_or_before}
use Rattle.sctp_data.specs.declared.chunk.chunk_payload_data.ChunkPayloadData.{ChunkPayloadData}
use Rattle.sctp_data.specs.ChunkSet.{ChunkSet}
use Rattle.sctp_data.specs.ForwardTsn.{ForwardTsn}
use Rattle.sctp_data.specs.SelectiveAck.{Sack}
use Rattle.sctp_reassembly.specs.reassembly_queue.ReassemblyQueue.{ReassemblyState, is_too_large, message_read}
use Rattle.sctp_receiver.specs.declared.receiver.inbound_streams.InboundStream.{InboundStream}
use Rattle.sctp_receiver.specs.declared.receiver.limits.Limits.{Limits}
use Rattle.sctp_receiver.specs.declared.receiver.refusal.ReceiverRefusal.{ReceiverRefusal}
use Rattle.sctp_receiver.specs.declared.receiver.refusal.ReceiverRefusal.TheVariants.{StreamUnknown, TsnOpposite, SsnTooFar, MessageTooLarge, OutOfMemory}
use Rattle.sctp_receiver.specs.declared.receiver.arrival.Arrival.{Arrival}
use Rattle.sctp_receiver.specs.declared.receiver.arrival.Arrival.TheVariants.{New, Repeat}
use Rattle.sctp_receiver.specs.declared.receiver.arrival.Forwarded.{Forwarded}
use Rattle.sctp_receiver.specs.declared.receiver.arrival.Forwarded.TheVariants.{Skipped, Stale}
use Rattle.sctp_receiver.specs.Inbound.{number, has_number, new_stream, with_queue, Pushes, stream_read, named_forwarded, unassembled_forwarded}
use Rattle.sctp_receiver.specs.Limits.{refusal_by, window_left}
use Rattle.sctp_receiver.specs.Ssns.{is_too_far_on}
use Rattle.sctp_receiver.specs.TsnFilter.{Filter, has_come, is_opposite, with_tsn, skipped_to, gap_ack_blocks}
use Rattle.sctp_serial.specs.DataChunks.{following_tsn, preceding_tsn}
use Rattle.sctp_stream.specs.Numbers.{swapped_out}

-- the open streams in the order in which they were opened, but that where one was closed, the last one stands in its place; the
-- cumulative TSN, the TSNs that came beyond it, and those that came again since the last SACK; how long a message may be, and
-- the limits of what is taken, if there are any
pub record Reception : Type 0 where
  pub streams : List InboundStream
  pub cumulative_tsn : ℕ
  pub beyond : List ℕ
  pub duplicates : List ℕ
  pub max_message_size : ℕ
  pub limits : Option Limits

-- nothing came: the first TSN is expected next
abbrev pub at_first : ℕ → ℕ → Option Limits → Reception
at_first tsn max limits =
    record {
      streams = [];
      cumulative_tsn = preceding_tsn tsn;
      beyond = [];
      duplicates = [];
      max_message_size = max;
      limits = limits;
    }

-- its TSNs
abbrev pub filter_of : Reception → Filter
filter_of r =
    record {
      cumulative_tsn = r.cumulative_tsn;
      beyond = r.beyond;
      duplicates = r.duplicates;
      room = 0;
    }

abbrev pub with_filter : Filter → Reception → Reception
with_filter f r =
    record r { cumulative_tsn = f.cumulative_tsn; beyond = f.beyond; duplicates = f.duplicates }

-- ## Streams

abbrev pub stream_of : ℕ → Reception → Option InboundStream
stream_of s r = find (has_number s) r.streams

abbrev pub is_open : ℕ → Reception → Bool
is_open s r = is_some (stream_of s r)

abbrev pub open_stream : ℕ → Reception → Reception
open_stream s r = record r { streams = r.streams ++ new_stream s r.max_message_size ∷ [] }

-- the stream is open no more, and the last one takes its place; what came on it and was not read is dropped
abbrev pub close_stream : ℕ → Reception → Reception
close_stream s r = record r { streams = swapped_out (has_number s) r.streams }

-- ## DATA

-- why the limits refuse a new TSN
abbrev pub new_refusal : ℕ → Reception → Option ReceiverRefusal
new_refusal tsn r = refusal_by r.limits tsn (filter_of r) r.streams

-- why a stream does not take a chunk
abbrev pub stream_refusal : ChunkPayloadData → Option InboundStream → Option ReceiverRefusal
stream_refusal c None = Some StreamUnknown
stream_refusal c (Some l) = if is_too_large c l.queue then Some MessageTooLarge else None

-- why a chunk is not taken, whatever its stream sequence number: of one whose TSN came nothing but that is told
abbrev pub data_refusal : ChunkPayloadData → Reception → Option ReceiverRefusal
data_refusal c r =
    if has_come c.tsn (filter_of r) then None
    else (if is_opposite c.tsn (filter_of r) then Some TsnOpposite
    else option_or (new_refusal c.tsn r) (stream_refusal c (stream_of c.stream_identifier r)))

-- the same, with a test first: an ordered chunk with a new TSN, whose number can't be told from one that was read
abbrev pub arrival_refusal : ChunkPayloadData → Reception → Option ReceiverRefusal
arrival_refusal c r =
    if not (has_come c.tsn (filter_of r)) && is_too_far_on c (stream_of c.stream_identifier r)
    then Some SsnTooFar else data_refusal c r

-- a refusal by its reason where there is one, and for memory only where there is none
abbrev pub IsRefusedFor : Option ReceiverRefusal → ReceiverRefusal → Type 0
IsRefusedFor reason e = ((e ≡ OutOfMemory) × (reason ≡ None)) ⊎ (reason ≡ Some e)

-- the chunk with a new TSN is taken: its stream's queue has it, whether a message of it became complete by that is told, and
-- its TSN came
pub record Accepts (c : ChunkPayloadData) (complete : Bool) (old new : Reception) : Type 0 where
  pub stream : InboundStream
  pub found : stream_of c.stream_identifier old ≡ Some stream
  pub queue : ReassemblyState
  pub pushed : Pushes c complete stream.queue queue
  pub after : new ≡ with_filter (with_tsn c.tsn (filter_of old))
      (record old {
        streams = change_where (has_number c.stream_identifier)
            (with_queue queue) old.streams;
      })

-- the greatest count of blocks and duplicates in a SACK that fits its length
abbrev pub max_sack_entries : ℕ
max_sack_entries = 16379

-- there are limits, and as many duplicates are noted as one SACK can report: no more is noted
abbrev pub is_full_by : Option Limits → List ℕ → Bool
is_full_by None ds = false
is_full_by (Some l) ds = nat_le max_sack_entries (length ds)

abbrev pub is_duplicates_full : Reception → Bool
is_duplicates_full r = is_full_by r.limits r.duplicates

-- a duplicate is noted where there is a place for it
abbrev pub noted_by : Option Limits → ℕ → List ℕ → List ℕ
noted_by limits tsn ds = if is_full_by limits ds then ds else ds ++ tsn ∷ []

-- a TSN that came comes again
abbrev pub repeat_tsn : ℕ → Reception → Reception
repeat_tsn tsn r = record r { duplicates = noted_by r.limits tsn r.duplicates }

-- what the chunk of a TSN is; where it is new, whether a message became complete with it is handed in
abbrev pub arrival_of : ℕ → Bool → Reception → Arrival
arrival_of tsn complete r = if has_come tsn (filter_of r) then Repeat else New complete

-- whether it is told that a message became complete
abbrev pub is_answered_complete : Arrival → Bool
is_answered_complete (New complete) = complete
is_answered_complete Repeat = false

-- what a DATA chunk makes, where its TSN is new and where it is not
abbrev pub Takes : ChunkPayloadData → Arrival → Reception → Reception → Type 0
Takes c (New complete) old new = Accepts c complete old new
Takes c Repeat old new = new ≡ repeat_tsn c.tsn old

-- a chunk is taken with this answer, and why one is refused is handed in
pub record TakesFirstBy (refusal : ChunkPayloadData → Reception → Option ReceiverRefusal)
    (c : ChunkPayloadData) (a : Arrival) (old mid : Reception) : Type 0 where
  pub accepted : refusal c old ≡ None
  pub answer : a ≡ arrival_of c.tsn (is_answered_complete a) old
  pub taken : Takes c a old mid

-- several are taken one after another, whatever their stream sequence numbers, each with its answer
abbrev pub TakesEach : List ChunkPayloadData → List Arrival → Reception → Reception → Type 0
TakesEach [] [] old new = new ≡ old
TakesEach (c ∷ cs) (a ∷ answers) old new =
    (mid : Reception) × (TakesFirstBy data_refusal c a old mid × TakesEach cs answers mid new)
TakesEach [] (a ∷ answers) old new = ⊥
TakesEach (c ∷ cs) [] old new = ⊥

-- so many of them are taken, and the next one is refused for this reason
pub record StopsAt (cs : List ChunkPayloadData) (old : Reception) (e : ReceiverRefusal)
    : Type 0 where
  pub count : ℕ
  pub arrivals : List Arrival
  pub mid : Reception
  pub taken : TakesEach (take count cs) arrivals old mid
  pub chunk : ChunkPayloadData
  pub next : slice_get cs count ≡ Some chunk
  pub refused : data_refusal chunk mid ≡ Some e

-- whether memory may be asked for: a duplicate is to be noted, or a fragment to be kept
abbrev pub takes_memory : ChunkPayloadData → Reception → Bool
takes_memory c r =
    if has_come c.tsn (filter_of r) then not (is_duplicates_full r)
    else not (is_opposite c.tsn (filter_of r)) && is_open c.stream_identifier r

-- ## A chunk is dropped

-- why a TSN does not count as come
abbrev pub discard_refusal : ℕ → Reception → Option ReceiverRefusal
discard_refusal tsn r =
    if has_come tsn (filter_of r) then None
    else (if is_opposite tsn (filter_of r) then Some TsnOpposite else new_refusal tsn r)

-- its TSN came, or came again
abbrev pub after_discard : ℕ → Reception → Reception
after_discard tsn r =
    if has_come tsn (filter_of r) then repeat_tsn tsn r
    else with_filter (with_tsn tsn (filter_of r)) r

-- whether memory may be asked for: a duplicate is to be noted, or a TSN to be kept beyond the cumulative one
abbrev pub discard_takes_memory : ℕ → Reception → Bool
discard_takes_memory tsn r =
    if has_come tsn (filter_of r) then not (is_duplicates_full r)
    else not (tsn == following_tsn r.cumulative_tsn)

-- ## SACK

-- the window to advertise: what is left of it, or the greatest u32
abbrev pub window : Reception → ℕ
window r = window_left r.limits r.streams

-- how many duplicates fit behind the blocks, of so many blocks and duplicates in all
abbrev pub duplicates_answered : ℕ → Reception → ℕ
duplicates_answered entries r = entries - length (take entries (gap_ack_blocks (filter_of r)))

-- blocks come first, then as many duplicates as fit
abbrev pub sack_of_entries : ℕ → ℕ → Reception → Sack
sack_of_entries credit entries r =
    record {
      cumulative_tsn_ack = r.cumulative_tsn;
      advertised_receiver_window_credit = credit;
      gap_ack_blocks = take entries (gap_ack_blocks (filter_of r));
      duplicate_tsn = take (duplicates_answered entries r) r.duplicates;
    }

abbrev pub sack : ℕ → Reception → Sack
sack credit r = sack_of_entries credit max_sack_entries r

abbrev pub without_duplicates : Reception → Reception
without_duplicates r = record r { duplicates = [] }

-- how many blocks and duplicates there are to report
abbrev pub entries_wanted : Reception → ℕ
entries_wanted r = length (gap_ack_blocks (filter_of r)) + length r.duplicates

-- how many blocks and duplicates a SACK chunk of so many bytes has at most: it has 16 without them, and each has 4
abbrev pub sack_entries : ℕ → ℕ
sack_entries bytes = min ((bytes - 16) / 4) max_sack_entries

abbrev pub sack_within : ℕ → ℕ → Reception → Sack
sack_within credit bytes r = sack_of_entries credit (sack_entries bytes) r

-- the duplicates that did not fit are kept
abbrev pub after_sack_within : ℕ → Reception → Reception
after_sack_within bytes r =
    record r { duplicates = drop (duplicates_answered (sack_entries bytes) r) r.duplicates }

-- ## Read

abbrev pub message_of : Option InboundStream → Option ChunkSet
message_of None = None
message_of (Some l) = message_read l.queue.held

-- the message that is read next on a stream
abbrev pub message_on : ℕ → Reception → Option ChunkSet
message_on s r = message_of (stream_of s r)

-- the streams with a message to read, in the order of the open streams
abbrev pub readable_streams : List InboundStream → List ℕ
readable_streams ls = map number (filter (λ l. is_some (message_read l.queue.held)) ls)

abbrev pub after_read : ℕ → Reception → Reception
after_read s r = record r { streams = change_where (has_number s) stream_read r.streams }

-- ## FORWARD-TSN

-- at or before the cumulative TSN
abbrev pub is_stale : ForwardTsn → Reception → Bool
is_stale f r = at_or_before f.new_cumulative_tsn r.cumulative_tsn

abbrev pub forward_refusal : ForwardTsn → Reception → Option ReceiverRefusal
forward_refusal f r =
    if is_opposite f.new_cumulative_tsn (filter_of r) then Some TsnOpposite else None

-- all up to its TSN counts as come: each stream that it names discards what is named, one name after another, and all
-- streams discard the unassembled fragments
abbrev pub follow_forward_tsn : ForwardTsn → Reception → Reception
follow_forward_tsn f r =
    with_filter (skipped_to f.new_cumulative_tsn (filter_of r))
    (record r {
      streams = map (unassembled_forwarded f.new_cumulative_tsn)
          (named_forwarded f.streams r.streams);
    })

abbrev pub forwarded_of : ForwardTsn → Reception → Forwarded
forwarded_of f r = if is_stale f r then Stale else Skipped

abbrev pub after_forward : ForwardTsn → Reception → Reception
after_forward f r = if is_stale f r then r else follow_forward_tsn f r
