-- What holds of the record in every history, as the queues of a receiver need it.
use Rattle.std.specs.Prelude.{◌≡◌, ℕ, ◌+◌, ◌-◌, ◌<◌, ◌≤◌, ◌^◌, true, false, ◌==◌, List, [], ◌∷◌, ◌++◌, length, map, fold, slice_get, Some, None}
use Rattle.std.specs.List.{list_any, filter}
use Rattle.sctp_model.specs.declared.event.Event.TheVariants as E
use Rattle.sctp_model.specs.LinkRecord.{Setup, StreamRecord, Data, Forward, LinkRecord}
use Rattle.sctp_model.specs.Messages.{message_at, slot_at, message_of, stream_at, stream_of, is_open, is_ordered_on, index_of, ordered_on, fragment_count}
use Rattle.sctp_model.specs.Messages.{has_fragment}
use Rattle.sctp_model.specs.Receiver.{arrived_at, has_arrived, next_of, is_complete_message, is_new, is_held, cumulative}
use Rattle.sctp_model.specs.Changes.{becomes_complete, receive_slot, after_arrive}
use Rattle.sctp_model.specs.Steps.{History, refusal_of}
use Rattle.sctp_model.specs.Log.{LogEntry}

-- ## Messages, slots and indexes

-- the fragments of message n lie side by side from this place on
pub record IsLaid (w : LinkRecord) (n base : ℕ) : Type 0 where
  pub at : (p : ℕ) → has_fragment w n p ≡ true → p ≡ base + (slot_at w p).fragment
  pub within : (p : ℕ) → has_fragment w n p ≡ true → (slot_at w p).fragment < fragment_count w n

-- the index expected next, those of the messages held on stream s and these lie between two numbers less than 2^15 apart
pub record IsSpan (w : LinkRecord) (s : ℕ) (more : List ℕ) : Type 0 where
  pub low : ℕ
  pub high : ℕ
  pub short : high < low + 2 ^ 15
  pub next : (low ≤ next_of w s) × (next_of w s ≤ high)
  pub held : (k : ℕ) → k < length w.messages → is_held w s k ≡ true → (low ≤ index_of w k)
      × (index_of w k ≤ high)
  pub others : (y : ℕ) → list_any (λ z. z == y) more ≡ true → (low ≤ y) × (y ≤ high)

-- what is kept of messages and slots
pub record Valid (w : LinkRecord) : Type 0 where
  -- ## by the sender
  pub few : length w.slots < 2 ^ 31
  pub some : (n : ℕ) → n < length w.messages → 0 < fragment_count w n
  pub short : (n : ℕ) → n < length w.messages → fragment_count w n < 2 ^ 31
  pub laid : (n : ℕ) → (base : ℕ) × IsLaid w n base
  pub made : (n p : ℕ) → has_fragment w n p ≡ true → n < length w.messages
  -- ## by the receiver
  -- an ordered message that was read had arrived, and comes before the next expected one
  pub read_complete : (s n : ℕ) → is_ordered_on w s n ≡ true → (message_at w n).read ≡ true
      → has_arrived w n ≡ true
  pub read_past : (s n : ℕ) → is_ordered_on w s n ≡ true → (message_at w n).read ≡ true
      → index_of w n < next_of w s
  -- the slots of what comes before the named ones are skipped
  pub named_skipped : (s n p : ℕ) → is_ordered_on w s n ≡ true → index_of w n
      < (stream_of w s).named → has_fragment w n p ≡ true → p < w.skipped
  pub named_made : (s : ℕ) → (stream_of w s).named ≤ length (ordered_on w s)
  pub skipped_made : w.skipped ≤ length w.slots

-- an unordered message of stream s that was not read
pub record IsWaiting (w : LinkRecord) (s n : ℕ) : Type 0 where
  pub made : n < length w.messages
  pub stream : (message_at w n).stream ≡ s
  pub unordered : (message_at w n).ordered ≡ false
  pub unread : (message_at w n).read ≡ false

-- what is kept of unordered messages besides
pub record ValidUnassembled (w : LinkRecord) : Type 0 where
  -- by the sender: the fragments that have slots are the first ones
  pub prefix : (n p j : ℕ) → has_fragment w n p ≡ true → (slot_at w p).fragment ≡ j + 1
      → has_fragment w n (p - 1) ≡ true
  -- no terminal chunk arrives
  pub terminals : (p : ℕ) → arrived_at w p ≡ true → (slot_at w p).is_terminal_chunk ≡ false
  -- what is complete arrived, and what arrived before a skip reached it is complete
  pub complete_arrived : (n : ℕ) → (message_at w n).ordered ≡ false → is_complete_message w n ≡ true
      → has_arrived w n ≡ true
  pub arrived_complete : (n : ℕ) → becomes_complete w n ≡ true → is_complete_message w n ≡ true
  -- those noted as complete wait to be read
  pub waits : (s n : ℕ) → list_any (λ k. k == n) (stream_of w s).complete ≡ true → IsWaiting w s n

-- the slots of a stream's ordered messages ascend with them, and messages are on open streams
pub record InOrder (w : LinkRecord) : Type 0 where
  pub ascend : (s j k p q : ℕ) → is_ordered_on w s j ≡ true → is_ordered_on w s k ≡ true → j < k
      → has_fragment w j p ≡ true → has_fragment w k q ≡ true → p < q
  pub known : (n : ℕ) → n < length w.messages → (r : StreamRecord)
      × (stream_at w (message_at w n).stream ≡ Some r)

-- ## The network

-- the slots have fragments
abbrev pub AllFragments : LinkRecord → List ℕ → Type 0
AllFragments w [] = Unit {0}
AllFragments w (p ∷ ps) =
    (p < length w.slots) × ((slot_at w p).is_terminal_chunk ≡ false) × AllFragments w ps

-- a message that a skip up to this slot names: ordered, some fragment of it has a slot, and none has one past it
pub record IsNamable (w : LinkRecord) (upto n : ℕ) : Type 0 where
  pub ordered : (message_at w n).ordered ≡ true
  pub some : (q : ℕ) × (has_fragment w n q ≡ true)
  pub within : (q : ℕ) → has_fragment w n q ≡ true → q ≤ upto

-- so with each name of a skip
abbrev pub AllNamable : LinkRecord → ℕ → List ℕ → Type 0
AllNamable w upto [] = Unit {0}
AllNamable w upto (n ∷ ns) = IsNamable w upto n × AllNamable w upto ns

-- what lies in the network
pub record ValidNetwork (w : LinkRecord) : Type 0 where
  pub carried : (k : ℕ) (slots : List ℕ) → slice_get w.network k ≡ Some (Data slots)
      → AllFragments w slots
  pub named : (k upto : ℕ) (names : List ℕ) → slice_get w.network k ≡ Some (Forward upto names)
      → (upto < length w.slots) × AllNamable w upto names

-- ## In every history

-- all of it
pub record IsValid (w : LinkRecord) : Type 0 where
  pub valid : Valid w
  pub unassembled : ValidUnassembled w
  pub order : InOrder w
  pub network : ValidNetwork w
  pub near : (s : ℕ) → IsSpan w s []

-- the record of every history is valid
abbrev pub RecordIsValid : Setup → History → LinkRecord → List LogEntry → Type 0
RecordIsValid setup h w log = IsValid w

-- before each slot of an accepted datagram: it has a fragment, the record is valid, and the index of a new ordered message is near those that matter
pub record ComesValid (w : LinkRecord) (p : ℕ) : Type 0 where
  pub made : p < length w.slots
  pub fragment : (slot_at w p).is_terminal_chunk ≡ false
  pub valid : Valid w
  pub unassembled : ValidUnassembled w
  pub order : InOrder w
  pub near : (s : ℕ) → is_ordered_on w s (message_of w p) ≡ true → is_new w p ≡ true
      → IsSpan w s (index_of w (message_of w p) ∷ [])

-- the slots of an accepted datagram come to a valid record, one after another
abbrev pub SlotsComeValid : Setup → History → LinkRecord → List LogEntry → Type 0
SlotsComeValid setup h w log =
    (k : ℕ) (ps : List ℕ) (p : ℕ) (qs : List ℕ) → refusal_of w (E.Arrive k) ≡ None
    → slice_get w.network k ≡ Some (Data (ps ++ p ∷ qs))
    → ComesValid (fold receive_slot w ps) p

-- the indexes that a counting skip names are near those that matter before it and after it
abbrev pub SkipsComeValid : Setup → History → LinkRecord → List LogEntry → Type 0
SkipsComeValid setup h w log =
    (k upto : ℕ) (names : List ℕ) → refusal_of w (E.Arrive k) ≡ None → slice_get w.network k
    ≡ Some (Forward upto names) → cumulative w ≤ upto → (s : ℕ) → is_open w s ≡ true →
    IsSpan w s (map (index_of w) (filter (is_ordered_on w s) names))
    × IsSpan (after_arrive w (Some (Forward upto names))) s
    (map (index_of w) (filter (is_ordered_on w s) names))
