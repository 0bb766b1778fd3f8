-- What becomes of a SACK that comes (RFC 9260 6.2.1).
use Rattle.std.specs.Prelude.{◌≡◌, ◌⊎◌, ⊤, ℕ, true, false, List, [], ◌∷◌, drop}
use Rattle.sctp_association.specs.Arrivals.{Arrives, AsksToHear, Halves, Hears, HearsBy, acks, without_gaps}
use Rattle.sctp_association.specs.Coming.{goes_on}
use Rattle.sctp_association.specs.Halves.{halves_of}
use Rattle.sctp_association.specs.declared.association.Reason.TheVariants.{Unexpected}
use Rattle.sctp_association.specs.declared.association.Association.{Association}
use Rattle.sctp_association.specs.declared.association.arrivals.Step.{Step}
use Rattle.sctp_association.specs.declared.association.arrivals.Step.TheVariants.{Next, Stop, Cut, Refused}
use Rattle.sctp_chunks.specs.Wire.{sack_chunk}
use Rattle.sctp_data.specs.SelectiveAck.{Sack}
use Rattle.sctp_datagram.specs.Framing.{StartsWith}
use Rattle.sctp_datagram.specs.declared.datagram.ChunkPlace.{ChunkPlace}
use Rattle.sctp_handshake.specs.States.{takes_sacks}
use Rattle.sctp_sender.specs.Flight.{is_outdated}
use Rattle.sctp_sender.specs.Sender.{Transmission}
use Rattle.sctp_sender.specs.declared.sender.flight.Released.{Released}
use Rattle.sctp_sender.specs.declared.sender.flight.kept.TakenBack.{TakenBack}

-- ## A SACK

-- the sender takes the SACK, with its gap ack blocks or with them passed over
pub record TakesSack (s : Sack) (old new : Transmission) : Type 0 where
  pub sack : Sack
  pub is : (sack ≡ s) ⊎ (sack ≡ without_gaps s)
  pub back : List TakenBack
  pub gone : List Released
  pub takes : Hears (acks sack back gone) old new

-- so it does, or the SACK is outdated: a later one was taken before, and nothing changes
abbrev pub HearsSack : Sack → (old new : Transmission) → Type 0
HearsSack s old new = ((is_outdated s old.flight ≡ true) × (new ≡ old)) ⊎ TakesSack s old new

-- so it is first, and calls that the SACK asks for lead on
pub record HearsSackFirst (s : Sack) (old new : Transmission) : Type 0 where
  pub mid : Transmission
  pub hears : HearsSack s old mid
  pub after : HearsBy (AsksToHear (sack_chunk s)) mid new

-- ## The first SACK of a datagram

-- SACKs of packets with this tag are taken: the association goes on, in a state that takes SACKs (RFC 9260 6), and the tag is that of this side
pub record TakesSacksOf (tag : ℕ) (a : Association) : Type 0 where
  pub going : a.is_over ≡ false
  pub state : takes_sacks a.machine.state ≡ true
  pub own : tag ≡ a.machine.own.tag

-- At a moment while the datagram is taken the SACK at a place is taken, or outdated. Calls for chunks of the datagram lead there, and on.
pub record IsSackIn (at : ℕ) (datagram : List ℕ) (old new : Halves) : Type 0 where
  pub sack : Sack
  pub reads : StartsWith (drop at datagram) (sack_chunk sack)
  pub moment : Halves
  pub next : Halves
  pub before : Arrives datagram old moment
  pub hears : HearsSack sack moment.sender next.sender
  pub after : Arrives datagram next new

-- so it is of the first SACK of these, up to the first chunk behind which the datagram does not go on
abbrev pub HearsFirst : List ChunkPlace → List ℕ → (old new : Halves) → Type 0
HearsFirst [] datagram old new = ⊤
HearsFirst (c ∷ cs) datagram old new =
    (c.typ ≡ 3 → IsSackIn c.at datagram old new)
    × (goes_on c.typ ≡ true → (c.typ ≡ 3 → ⊥) → HearsFirst cs datagram old new)

-- so it is, or the association is over
abbrev pub HearsFirstOf : List ChunkPlace → List ℕ → (old new : Association) → Type 0
HearsFirstOf chunks datagram old new =
    (new.is_over ≡ true) ⊎ HearsFirst chunks datagram (halves_of old) (halves_of new)

-- Behind a chunk that goes on SACKs are taken as before, and a SACK that it is was taken, or outdated. It is passed over where it is not expected,
-- which a SACK never is.
abbrev pub HearsOn : ChunkPlace → (tag : ℕ) → List ℕ → Step → (old new : Association) → Type 0
HearsOn c tag datagram Next old new =
    TakesSacksOf tag new × (c.typ ≡ 3 → IsSackIn c.at datagram (halves_of old) (halves_of new))
HearsOn c tag datagram Stop old new = new.is_over ≡ true
HearsOn c tag datagram Cut old new = ⊤
HearsOn c tag datagram (Refused r) old new = (r ≡ Unexpected) × (c.typ ≡ 3 → ⊥)
