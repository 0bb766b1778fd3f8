-- A script played by the definitions: the answer to each event in the record reached so far, and what is shown of the last record.
use Rattle.sctp_model.proofs.Names.{◌≡◌, refl, ℕ, Bool, true, false, List, [], ◌∷◌, length, map, Option, Some, None, ◌&&◌, is_none, unwrap_or, both, Event}
use Rattle.sctp_model.proofs.Names.{PayloadProtocolIdentifier, ChunkPayloadData, ChunkSet, fresh, Reply, LinkRefusal, Setup, StreamRecord, LinkRecord, Forward}
use Rattle.sctp_model.proofs.Names.{start, History, IsRun, Ledger, ledger, buffered_amount, Counters, counters_of, Contents, contents_of, PendingFragment}
use Rattle.sctp_model.proofs.Names.{pending_of, InFlightChunk, in_flight_of, filter_of, reassembly_of}
use Rattle.sctp_model.specs.declared.event.Event.TheVariants.{Read}
use Rattle.sctp_model.specs.Reply as R
use Rattle.sctp_model.specs.Messages
use Rattle.sctp_model.specs.Changes
use Rattle.sctp_model.specs.Steps

-- an event; a Skip with its names as a plain list
pub data Asked : Type 0 where
  Ask : (event : Event) → Asked
  AskSkip : (upto : ℕ) (messages : List ℕ) → Asked

pub data Answer : Type 0 where
  Refused : (refusal : LinkRefusal) → Answer
  Replied : (reply : Reply) → Answer
  -- a message handed out: its stream, its payload type and the user data of its chunks
  Handed : (stream : ℕ) (ppi : PayloadProtocolIdentifier) (pieces : List (List ℕ)) → Answer

abbrev data_shown : ChunkPayloadData → List ℕ
data_shown c = c.user_data

abbrev replied : Reply → Answer
replied (R.Message s ppi set) = Handed s ppi (map data_shown set.chunks)
replied reply = Replied reply

-- a DATA chunk with these fields
abbrev pub chunk : ℕ → ℕ → ℕ → PayloadProtocolIdentifier → List ℕ → Bool → Bool → Bool → ChunkPayloadData
chunk tsn stream ssn ppi bytes begins ends unordered =
    fresh (record {
      unordered = unordered;
      beginning_fragment = begins;
      ending_fragment = ends;
      immediate_sack = false;
      tsn = tsn;
      stream_identifier = stream;
      stream_sequence_number = ssn;
      payload_type = ppi;
      user_data = bytes;
    })

abbrev answer : Option LinkRefusal → Reply → Answer
answer None reply = replied reply
answer (Some refusal) reply = Refused refusal

abbrev moved : Option LinkRefusal → LinkRecord → LinkRecord → LinkRecord
moved None old new = new
moved (Some refusal) old new = old

abbrev answer_to : LinkRecord → Asked → Answer
answer_to w (Ask e) = answer (Steps.refusal_of w e) (Steps.reply_to w e)
answer_to w (AskSkip upto messages) = answer (Steps.skip_refusal w (Messages.place_of w upto) messages) (R.Skip (length w.network))

abbrev next : LinkRecord → Asked → LinkRecord
next w (Ask e) = moved (Steps.refusal_of w e) w (Steps.after w e)
next w (AskSkip upto messages) =
    moved (Steps.skip_refusal w (Messages.place_of w upto) messages) w (Changes.with_datagram w (Forward (Messages.place_of w upto) messages))

abbrev play : LinkRecord → List Asked → List Answer
play w [] = []
play w (e ∷ es) = answer_to w e ∷ play (next w e) es

abbrev pub played : LinkRecord → List Asked → LinkRecord
played w [] = w
played w (e ∷ es) = played (next w e) es

-- ## Steps of a script

abbrev pub link : ℕ → ℕ → ℕ → ℕ → LinkRecord
link first size largest limit = start (record { first = first; size = size; largest = largest; limit = limit })

pub record Step : Type 0 where
  pub asked : Asked
  pub told : Answer

infix 70 ◌⇒◌
abbrev pub ◌⇒◌ : Event → Reply → Step
event ⇒ reply = record { asked = Ask event; told = Replied reply }

-- it is refused
infix 70 ◌⇏◌
abbrev pub ◌⇏◌ : Event → LinkRefusal → Step
event ⇏ refusal = record { asked = Ask event; told = Refused refusal }

-- a read of this stream hands out a message
abbrev pub hands : ℕ → PayloadProtocolIdentifier → List (List ℕ) → Step
hands stream ppi pieces = record { asked = Ask (Read stream); told = Handed stream ppi pieces }

-- a Skip makes this datagram
abbrev pub skips : ℕ → List ℕ → ℕ → Step
skips upto messages datagram = record { asked = AskSkip upto messages; told = Replied (R.Skip datagram) }

abbrev pub skips_not : ℕ → List ℕ → LinkRefusal → Step
skips_not upto messages refusal = record { asked = AskSkip upto messages; told = Refused refusal }

abbrev asked_in : Step → Asked
asked_in step = step.asked

abbrev answer_in : Step → Answer
answer_in step = step.told

-- ## Histories

-- these events, with the right replies, after a history
abbrev pub answered : Setup → List Event → History → History
answered setup [] h = h
answered setup (e ∷ es) h = answered setup es ((e, Steps.reply_to (Steps.record_of setup h) e) ∷ h)

-- none of them is refused
abbrev pub accepted : Setup → List Event → History → Bool
accepted setup [] h = true
accepted setup (e ∷ es) h =
    is_none (Steps.refusal_of (Steps.record_of setup h) e) && accepted setup es ((e, Steps.reply_to (Steps.record_of setup h) e) ∷ h)

none-is : (o : Option LinkRefusal) → is_none o ≡ true → o ≡ None
none-is None e = refl
none-is (Some refusal) e = cc

pub answered-run : (setup : Setup) (es : List Event) (h : History) → accepted setup es h ≡ true → IsRun setup h → IsRun setup (answered setup es h)
answered-run setup [] h e run = run
answered-run setup (x ∷ xs) h e run =
    let now = (x, Steps.reply_to (Steps.record_of setup h) x) ∷ h in
    let a = both (is_none (Steps.refusal_of (Steps.record_of setup h) x)) (accepted setup xs now) e in
    answered-run setup xs now a.1 (none-is (Steps.refusal_of (Steps.record_of setup h) x) a.0, (refl, run))

-- ## What is shown of the record in the end

abbrev numbers_of : Option Counters → List ℕ
numbers_of None = []
numbers_of (Some c) = c.messages_sent ∷ c.bytes_sent ∷ c.messages_received ∷ c.bytes_received ∷ []

abbrev stream_shown : LinkRecord → StreamRecord → ℕ × ℕ × List ℕ
stream_shown w r = (r.stream, unwrap_or (buffered_amount w r.stream) 0, numbers_of (counters_of w r.stream))

abbrev pending_shown : PendingFragment → ℕ × List ℕ
pending_shown f = (f.message, f.fragment.user_data)

abbrev flight_shown : InFlightChunk → ℕ × List ℕ
flight_shown c = (c.tsn, c.payload)

abbrev tsn_shown : ChunkPayloadData → ℕ
tsn_shown c = c.tsn

abbrev set_shown : ChunkSet → List ℕ
set_shown x = map tsn_shown x.chunks

abbrev stream_reassembly : LinkRecord → StreamRecord → ℕ × List (List ℕ) × List (List ℕ) × List ℕ
stream_reassembly w r = (
  (reassembly_of w r.stream).next_ssn,
  map set_shown (reassembly_of w r.stream).ordered,
  map set_shown (reassembly_of w r.stream).unordered,
  map tsn_shown (reassembly_of w r.stream).unassembled,
)

-- what is shown of a record; `ordered` and `unordered` are pending, `held` and `duplicates` the receiver's
pub record Outcome : Type 0 where
  pub ledger : Ledger
  pub contents : List Contents
  pub streams : List (ℕ × ℕ × List ℕ)
  pub ordered : List (ℕ × List ℕ)
  pub unordered : List (ℕ × List ℕ)
  pub in_flight : List (ℕ × List ℕ)
  pub held : List ℕ
  pub duplicates : List ℕ
  pub reassembly : List (ℕ × List (List ℕ) × List (List ℕ) × List ℕ)

abbrev outcome : LinkRecord → Outcome
outcome w = record {
  ledger = ledger w;
  contents = map (contents_of w) w.network;
  streams = map (stream_shown w) w.streams;
  ordered = map pending_shown (pending_of w).ordered;
  unordered = map pending_shown (pending_of w).unordered;
  in_flight = map flight_shown (in_flight_of w);
  held = (filter_of w).held;
  duplicates = (filter_of w).duplicates;
  reassembly = map (stream_reassembly w) w.streams;
}

abbrev pub nothing : Outcome
nothing = record {
  ledger = record { written = 0; pending = 0; in_flight = 0; released = 0 };
  contents = [];
  streams = [];
  ordered = [];
  unordered = [];
  in_flight = [];
  held = [];
  duplicates = [];
  reassembly = [];
}

-- the events have these answers, and this is shown in the end
abbrev pub Plays : LinkRecord → List Step → Outcome → Type 0
Plays w steps end = (play w (map asked_in steps) ≡ map answer_in steps) × (outcome (played w (map asked_in steps)) ≡ end)
