-- What a datagram makes that is taken in part: memory is wanting at one of its chunks. Moments are nanoseconds.
use Rattle.std.specs.Prelude.{◌≡◌, ◌⊎◌, ℕ, true, false, List, [], ◌∷◌, length}
use Rattle.sctp_association.specs.Once.{none_seen, seen}
use Rattle.sctp_association.specs.Partly.{CutsChunk}
use Rattle.sctp_association.specs.Walks.{EndsDatagram, FirstOn, OtherOn, counts}
use Rattle.sctp_association.specs.declared.association.Association.{Association}
use Rattle.sctp_association.specs.declared.association.arrivals.Step.TheVariants.{Next}
use Rattle.sctp_association.specs.declared.once.Once.{Once}
use Rattle.sctp_datagram.specs.declared.datagram.ChunkPlace.{ChunkPlace}
use Rattle.sctp_util.specs.Field.{u32_at}

-- behind the first one: nothing changes by the chunk, or it is taken in part
abbrev pub CutsAt : ChunkPlace → (tag : ℕ) → List ℕ → (now : ℕ) → (old new : Association) → Type 0
CutsAt c tag datagram now old new = (new ≡ old) ⊎ CutsChunk c tag 2 datagram now old new

-- Chunks lead on so, each in its turn, up to one that counts and at which memory is wanting. Nothing behind it is looked at.
abbrev pub WalksTo : (tag : ℕ) → List ℕ → (now : ℕ) → Once → List ChunkPlace
    → (old last : Association) → Type 0
WalksTo tag datagram now o [] old last = ⊥
WalksTo tag datagram now o (c ∷ cs) old last =
    ((counts c.typ o ≡ false) × WalksTo tag datagram now (seen c.typ o) cs old last)
    ⊎ ((counts c.typ o ≡ true)
    × (((mid : Association) × OtherOn c tag datagram now Next old mid
    × WalksTo tag datagram now (seen c.typ o) cs mid last)
    ⊎ CutsAt c tag datagram now old last))

-- the first chunk is taken in part, and the datagram ends
pub record CutsFirst (c : ChunkPlace) (cs : List ChunkPlace) (datagram : List ℕ) (now : ℕ)
    (old new : Association) : Type 0 where
  pub last : Association
  pub cut : CutsChunk c (u32_at datagram 4) (length (c ∷ cs)) datagram now old last
  pub ends : EndsDatagram now last new

-- or it leads on, then others do up to such a chunk, and the datagram ends
pub record WalksInPart (c : ChunkPlace) (cs : List ChunkPlace) (datagram : List ℕ) (now : ℕ)
    (old new : Association) : Type 0 where
  pub behind : Association
  pub first : FirstOn c (u32_at datagram 4) (length (c ∷ cs)) datagram now Next old behind
  pub last : Association
  pub others : WalksTo (u32_at datagram 4) datagram now (seen c.typ none_seen) cs behind last
  pub ends : EndsDatagram now last new

abbrev pub PartOf : List ChunkPlace → List ℕ → (now : ℕ) → (old new : Association) → Type 0
PartOf [] datagram now old new = ⊥
PartOf (c ∷ cs) datagram now old new =
    CutsFirst c cs datagram now old new ⊎ WalksInPart c cs datagram now old new
