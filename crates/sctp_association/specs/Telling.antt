-- What waits to be told: what happens is told, and nothing that waits is lost (RFC 9260 11.2).
use Rattle.std.specs.Prelude.{◌≡◌, ℕ, ◌<◌, ◌≤◌, Bool, true, false, List, [], length, Option, Some, None, is_some}
use Rattle.sctp_association.specs.Beginnings.{is_standing}
use Rattle.sctp_association.specs.Reads.{message_in}
use Rattle.sctp_association.specs.StreamSet.{is_in}
use Rattle.sctp_association.specs.declared.association.Association.{Association}
use Rattle.sctp_association.specs.declared.event.Ending.{Ending}
use Rattle.sctp_association.specs.declared.event.Ending.TheVariants.{Shutdown, Aborted, Unanswered}
use Rattle.sctp_association.specs.declared.event.Events.{Events}
use Rattle.sctp_association.specs.declared.inbound.Inbound.{Inbound}
use Rattle.sctp_handshake.specs.declared.answer.Told.{Told}
use Rattle.sctp_handshake.specs.declared.answer.Told.TheVariants as told
use Rattle.sctp_receiver.specs.Receiver.{is_open}

-- ## Events that wait

-- what is in the set stays in it
abbrev pub Stays : (old new : List Bool) → Type 0
Stays old new = (s : ℕ) → is_in s old ≡ true → is_in s new ≡ true

-- for as many streams there is room in each set
pub record KeepsRooms (old new : Events) : Type 0 where
  pub readable : length old.readable ≤ length new.readable
  pub low : length old.low ≤ length new.low
  pub reset_by_us : length old.reset_by_us ≤ length new.reset_by_us
  pub reset_refused : length old.reset_refused ≤ length new.reset_refused
  pub reset_by_peer : length old.reset_by_peer ≤ length new.reset_by_peer
  pub too_long : length old.too_long ≤ length new.too_long

-- Each event that waited waits still, and the room for more stays. Another end, or another error of the peer, may take the place of the one that waited. Of
-- streams with a
-- message to read `NotesReadable` tells.
pub record KeepsEvents (old new : Events) : Type 0 where
  pub connected : old.connected ≡ true → new.connected ≡ true
  pub restarted : old.restarted ≡ true → new.restarted ≡ true
  pub shutdown : old.shutdown ≡ true → new.shutdown ≡ true
  pub closed : is_some old.closed ≡ true → is_some new.closed ≡ true
  pub peer_error : is_some old.peer_error ≡ true → is_some new.peer_error ≡ true
  pub low : Stays old.low new.low
  pub reset_by_us : Stays old.reset_by_us new.reset_by_us
  pub reset_refused : Stays old.reset_refused new.reset_refused
  pub reset_by_peer : Stays old.reset_by_peer new.reset_by_peer
  pub too_long : Stays old.too_long new.too_long
  pub rooms : KeepsRooms old new

-- ## Streams with a message to read

abbrev pub opened_in : ℕ → Option Inbound → Bool
opened_in s None = false
opened_in s (Some i) = is_open s i.receiver

-- the stream has a place in each set of streams on which the peer writes
pub record HasPlace (s : ℕ) (e : Events) : Type 0 where
  pub readable : s < length e.readable
  pub too_long : s < length e.too_long
  pub reset_by_peer : s < length e.reset_by_peer

-- so it is of each open stream
abbrev pub HasPlaces : Option Inbound → Events → Type 0
HasPlaces i e = (s : ℕ) → opened_in s i ≡ true → HasPlace s e

-- where a message of the stream can be read, that waits to be told
abbrev pub IsNoted : ℕ → Option Inbound → Events → Type 0
IsNoted s i e = is_some (message_in s i) ≡ true → is_in s e.readable ≡ true

-- so it is of each stream of which it was so before: where no message could be read, or that waited
pub record NotesReadable (i : Option Inbound) (old : Events) (j : Option Inbound) (new : Events)
    : Type 0 where
  pub places : HasPlaces i old → HasPlaces j new
  pub noted : HasPlaces i old → (s : ℕ) → IsNoted s i old → IsNoted s j new

-- both, of the receiving half and the events
pub record TellsIn (i : Option Inbound) (old : Events) (j : Option Inbound) (new : Events)
    : Type 0 where
  pub kept : KeepsEvents old new
  pub readable : NotesReadable i old j new

-- ## An association

-- Of the receiving half, the events, and whether the association is over: what waits to be told is kept. Where the association ends, that waits
-- to be told, and it is over from then on.
pub record TellsTo (i : Option Inbound) (old : Events) (was_over : Bool)
    (j : Option Inbound) (new : Events) (is_over : Bool) : Type 0 where
  pub events : TellsIn i old j new
  pub over : was_over ≡ true → is_over ≡ true
  pub ended : was_over ≡ false → is_over ≡ true → is_some new.closed ≡ true

abbrev pub TellsEnd : (old new : Association) → Type 0
TellsEnd old new =
    TellsTo old.inbound old.events old.is_over new.inbound new.events new.is_over

-- and where it begins, or begins anew, that waits to be told
pub record Tells (old new : Association) : Type 0 where
  pub end : TellsEnd old new
  pub begun : is_standing old.machine.state ≡ false → is_standing new.machine.state ≡ true
      → new.events.connected ≡ true
  pub restarted : old.machine.has_restarted ≡ false → new.machine.has_restarted ≡ true
      → new.events.restarted ≡ true

-- ## What the state machine tells

-- How an association ended that failed: where the machine replies that is an ABORT of this side; else the peer did not answer (3.3.3, 8.1). By the
-- peer's ABORT it ends otherwise: `IsAbortedByPeer`.
abbrev pub ending_by : (replies : Bool) → Ending
ending_by true = Aborted
ending_by false = Unanswered

-- What waits once it is passed on, and each other event as before. One that is closed ended by SHUTDOWN, and one that failed ended so.
abbrev pub passed_on : Option Told → Ending → Events → Events
passed_on None how e = e
passed_on (Some told.Connected) how e = record e { connected = true }
passed_on (Some told.Restarted) how e = record e { restarted = true }
passed_on (Some told.ShutdownBegun) how e = record e { shutdown = true }
passed_on (Some told.Closed) how e = record e { closed = Some Shutdown }
passed_on (Some told.Failed) how e = record e { closed = Some how }

-- behind an input of the machine what it told is passed on, and nothing else is told
pub record PassesOn (t : Option Told) (how : Ending) (old new : Association) : Type 0 where
  pub end : TellsEnd old new
  pub told : new.events ≡ passed_on t how old.events

-- the events of the whole association alone: without those of streams and errors of the peer
abbrev pub whole_of : Events → Events
whole_of e = record e {
  peer_error = None;
  readable = [];
  low = [];
  reset_by_us = [];
  reset_refused = [];
  reset_by_peer = [];
  too_long = [];
}
