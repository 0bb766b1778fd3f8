-- Along the calls of an association: what happens was told, or waits to be told.
use Rattle.std.specs.Prelude.{◌≡◌, ◌⊎◌, ℕ, Bool, true, false, List, [], ◌∷◌, Contains, Option, Some, is_some}
use Rattle.sctp_association.specs.Beginnings.{is_standing}
use Rattle.sctp_association.specs.declared.association.Association.{Association}
use Rattle.sctp_association.specs.declared.event.Ending.{Ending}
use Rattle.sctp_association.specs.declared.event.Event.{Event}
use Rattle.sctp_association.specs.declared.event.Event.TheVariants as event
use Rattle.sctp_association.specs.declared.event.Events.{Events}
use Rattle.sctp_association.specs.Events.{Waits}
use Rattle.sctp_association.specs.Reads.{message_in}
use Rattle.sctp_association.specs.Telling.{HasPlaces, IsNoted, KeepsRooms, Tells}

-- ## Calls one after another

-- `poll` gives this event, or none: each other event that waited waits still, and the room for streams stays
pub record Gives (given : Option Event) (old new : Association) : Type 0 where
  pub rest : new ≡ record old { events = new.events }
  pub places : HasPlaces old.inbound old.events → HasPlaces new.inbound new.events
  pub rooms : KeepsRooms old.events new.events
  pub others : (v : Event) → Waits v old.events → (given ≡ Some v) ⊎ Waits v new.events

pub data Act : Type 0 where
  -- a call that ensures `tells`
  calls : Act
  -- `poll`, and what it gives
  polls : Option Event → Act

abbrev pub Acts : Act → Association → Association → Type 0
Acts calls old new = Tells old new
Acts (polls given) old new = Gives given old new

abbrev pub ActsEach : List Act → Association → Association → Type 0
ActsEach [] old new = new ≡ old
ActsEach (a ∷ acts) old new = (mid : Association) × (Acts a old mid × ActsEach acts mid new)

-- ## Nothing is lost

-- the event was given, or waits
abbrev pub IsGivenOrWaits : Event → List Act → Events → Type 0
IsGivenOrWaits v acts e = Contains acts (polls (Some v)) ⊎ Waits v e

-- No other of its kind takes its place. That a message can be read waits no more where the stream is closed or reset.
abbrev pub lasts : Event → Bool
lasts event.Connected = true
lasts event.Restarted = true
lasts (event.Readable s) = false
lasts (event.BufferedAmountLow s) = true
lasts (event.ResetByUs s) = true
lasts (event.ResetRefused s) = true
lasts (event.ResetByPeer s) = true
lasts (event.TooLong s) = true
lasts (event.PeerError c) = false
lasts event.Shutdown = true
lasts (event.Closed x) = false

-- Each event that waited is given or waits. So it is where the association begins, begins anew or ends, and where a message can be read on a
-- stream: of one on which none could be read before, or that waited. Each open stream keeps its place, and each set its room.
pub record LosesNone (acts : List Act) (old new : Association) : Type 0 where
  pub waited : (v : Event) → lasts v ≡ true → Waits v old.events
      → IsGivenOrWaits v acts new.events
  pub begun : is_standing old.machine.state ≡ false → is_standing new.machine.state ≡ true
      → IsGivenOrWaits event.Connected acts new.events
  pub restarted : old.machine.has_restarted ≡ false → new.machine.has_restarted ≡ true
      → IsGivenOrWaits event.Restarted acts new.events
  pub ended : old.is_over ≡ false → new.is_over ≡ true
      → (how : Ending) × IsGivenOrWaits (event.Closed how) acts new.events
  pub readable : HasPlaces old.inbound old.events → (s : ℕ) → IsNoted s old.inbound old.events
      → is_some (message_in s new.inbound) ≡ true → IsGivenOrWaits (event.Readable s) acts new.events
  pub places : HasPlaces old.inbound old.events → HasPlaces new.inbound new.events
  pub rooms : KeepsRooms old.events new.events

-- so along any such calls
abbrev pub EachLosesNone : Type 0
EachLosesNone = (acts : List Act) (old new : Association) → ActsEach acts old new
    → LosesNone acts old new
