-- What the chunks of a datagram make, one after the other (RFC 9260 4, 5, 6, 8.5, 9). Moments are nanoseconds.
use Rattle.std.specs.Prelude.{◌≡◌, ◌≢◌, ◌⊎◌, ⊤, ℕ, ◌<◌, ◌==◌, ◌&&◌, Bool, true, false, not, List, [], ◌∷◌, length}
use Rattle.std.specs.Option.{option_map}
use Rattle.sctp_association.specs.AcksDue.{acks_of, ended}
use Rattle.sctp_association.specs.Coming.{goes_on}
use Rattle.sctp_association.specs.Expected.{BringsCookie, IsExpected, is_expected}
use Rattle.sctp_association.specs.Halves.{receiver_of}
use Rattle.sctp_association.specs.Openings.{BringsEnd}
use Rattle.sctp_association.specs.Once.{has_seen, none_seen, seen}
use Rattle.sctp_association.specs.Partly.{CutsChunk}
use Rattle.sctp_association.specs.Paths.{MovesOn}
use Rattle.sctp_association.specs.Rows.{Settles, has_row}
use Rattle.sctp_association.specs.Single.{AloneOn}
use Rattle.sctp_association.specs.Tags.{is_admitted}
use Rattle.sctp_association.specs.ToldBy.{TellsBy}
use Rattle.sctp_association.specs.declared.association.Association.{Association}
use Rattle.sctp_association.specs.declared.association.arrivals.Step.{Step}
use Rattle.sctp_association.specs.declared.association.arrivals.Step.TheVariants.{Next, Stop, Cut, Refused}
use Rattle.sctp_association.specs.declared.once.Once.{Once}
use Rattle.sctp_datagram.specs.declared.datagram.ChunkPlace.{ChunkPlace}
use Rattle.sctp_handshake.specs.declared.state.State.TheVariants.{Closed, CookieWait}
use Rattle.sctp_util.specs.Field.{u32_at}

-- ## A chunk

-- A chunk is taken: it may stand in a packet with this tag, of so many chunks. The state expects it, and what is said of its type is so. What it
-- brings waits to be told. DATA, a SACK and a FORWARD-TSN leave the HEARTBEAT-ACK and the ERROR that are due. Of the sending half a SACK makes what 6.2.1,
-- 6.3 and 7.2 say; DATA and a FORWARD-TSN leave it.
pub record TakesChunk (c : ChunkPlace) (tag count : ℕ) (datagram : List ℕ) (now : ℕ) (s : Step)
    (old new : Association) : Type 0 where
  pub admitted : is_admitted c tag count old.machine ≡ true
  pub expected : has_row c.typ ≡ true → is_expected c.typ old ≡ true
  pub by_type : AloneOn c tag datagram now s old new
  pub tells : s ≡ Next → TellsBy c datagram old new
  pub beside : goes_on c.typ ≡ true → s ≡ Next
      → (new.due.heartbeat ≡ old.due.heartbeat) × (new.due.report ≡ old.due.report)
  pub path : goes_on c.typ ≡ true → MovesOn c datagram now s old.outbound new.outbound

-- A chunk is passed over: it may stand there, but the state does not expect it. So is an INIT ACK that this side does not wait for (5.2.3). Nothing
-- changes.
pub record PassesOver (c : ChunkPlace) (tag count : ℕ) (datagram : List ℕ) (now : ℕ)
    (old new : Association) : Type 0 where
  pub admitted : is_admitted c tag count old.machine ≡ true
  pub unexpected : IsExpected c tag datagram now old → ⊥
  pub init_ack : c.typ ≡ 2 → old.machine.state ≢ CookieWait
  pub same : new ≡ old

-- it is an INIT ACK for which this side waits, and brings neither a cookie nor the end
pub record IsUnread (c : ChunkPlace) (datagram : List ℕ) (a : Association) : Type 0 where
  pub typ : c.typ ≡ 2
  pub waits : a.machine.state ≡ CookieWait
  pub cookie : BringsCookie c datagram → ⊥
  pub end : BringsEnd c datagram → ⊥

-- The datagram is read no further: behind the first chunk, this one may not stand there, or is such an INIT ACK. Nothing changes.
pub record EndsUnread (c : ChunkPlace) (tag : ℕ) (datagram : List ℕ) (old new : Association)
    : Type 0 where
  pub why : (is_admitted c tag 2 old.machine ≡ false) ⊎ IsUnread c datagram old
  pub same : new ≡ old

-- ## Behind the first chunk

-- a chunk counts that is no COOKIE-ECHO, and whose kind has not come, where a datagram has at most one of it
abbrev pub counts : (typ : ℕ) → Once → Bool
counts typ o = not (has_seen typ o) && not (typ == 10)

-- what becomes of one that counts
abbrev pub OtherOn : ChunkPlace → (tag : ℕ) → List ℕ → (now : ℕ) → Step → (old new : Association)
    → Type 0
OtherOn c tag datagram now Next old new =
    TakesChunk c tag 2 datagram now Next old new ⊎ PassesOver c tag 2 datagram now old new
OtherOn c tag datagram now Stop old new = TakesChunk c tag 2 datagram now Stop old new
OtherOn c tag datagram now Cut old new = CutsChunk c tag 2 datagram now old new
OtherOn c tag datagram now (Refused r) old new = EndsUnread c tag datagram old new

-- Chunks lead on so, each in its turn, where these kinds came before: up to the last one, or up to one behind which nothing more is looked at. One that
-- does not count is passed over.
abbrev pub Walks : (tag : ℕ) → List ℕ → (now : ℕ) → Once → List ChunkPlace
    → (old last : Association) → Type 0
Walks tag datagram now o [] old last = last ≡ old
Walks tag datagram now o (c ∷ cs) old last =
    ((counts c.typ o ≡ false) × Walks tag datagram now (seen c.typ o) cs old last)
    ⊎ ((counts c.typ o ≡ true)
    × (((mid : Association) × OtherOn c tag datagram now Next old mid
    × Walks tag datagram now (seen c.typ o) cs mid last)
    ⊎ (OtherOn c tag datagram now Stop old last ⊎ EndsUnread c tag datagram old last)))

-- ## A datagram

-- The first one of so many chunks is passed over only where others stand behind it: never in Closed, and never an INIT or a COOKIE-ECHO (5.2.5).
pub record PassesFirst (c : ChunkPlace) (tag count : ℕ) (datagram : List ℕ) (now : ℕ)
    (old new : Association) : Type 0 where
  pub passes : PassesOver c tag count datagram now old new
  pub others : 1 < count
  pub begun : old.machine.state ≡ Closed → ⊥
  pub init : c.typ ≡ 1 → ⊥
  pub cookie_echo : c.typ ≡ 10 → ⊥

-- what becomes of it
abbrev pub FirstOn : ChunkPlace → (tag count : ℕ) → List ℕ → (now : ℕ) → Step
    → (old new : Association) → Type 0
FirstOn c tag count datagram now Next old new =
    TakesChunk c tag count datagram now Next old new
    ⊎ PassesFirst c tag count datagram now old new
FirstOn c tag count datagram now Stop old new = TakesChunk c tag count datagram now Stop old new
FirstOn c tag count datagram now Cut old new = CutsChunk c tag count datagram now old new
FirstOn c tag count datagram now (Refused r) old new = ⊤

-- The datagram ends: what follows from its chunks (9.2). Where DATA came in it, a SACK is due: now where it is to be at once, or one more packet waits for
-- one, and else within SACK.Delay (6.2). What is told, the receiver, and the HEARTBEAT that waits for its answer stay.
pub record EndsDatagram (now : ℕ) (old new : Association) : Type 0 where
  pub settles : Settles now old new
  pub events : new.events ≡ old.events
  pub receiver : receiver_of new.inbound ≡ receiver_of old.inbound
  pub heartbeat : new.heartbeat ≡ old.heartbeat
  pub acks : acks_of new.inbound ≡ option_map (ended now) (acks_of old.inbound)

-- the first chunk leads on, then the others do, and the datagram ends
pub record WalksOn (c : ChunkPlace) (cs : List ChunkPlace) (datagram : List ℕ) (now : ℕ)
    (old new : Association) : Type 0 where
  pub behind : Association
  pub first : FirstOn c (u32_at datagram 4) (length (c ∷ cs)) datagram now Next old behind
  pub last : Association
  pub others : Walks (u32_at datagram 4) datagram now (seen c.typ none_seen) cs behind last
  pub ends : EndsDatagram now last new

-- so it is of these chunks; or behind the first one nothing more is looked at
abbrev pub WalksOf : List ChunkPlace → List ℕ → (now : ℕ) → (old new : Association) → Type 0
WalksOf [] datagram now old new = ⊥
WalksOf (c ∷ cs) datagram now old new =
    FirstOn c (u32_at datagram 4) (length (c ∷ cs)) datagram now Stop old new
    ⊎ WalksOn c cs datagram now old new
