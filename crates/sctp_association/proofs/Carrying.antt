-- Each chunk that is still to come is one of the datagram.
use Rattle.std.proofs.Common.{◌≡◌, ◌≤◌, ℕ, ◌+◌, ◌-◌, List, [], ◌∷◌, length, take, drop, slice_range, ap, subst, ◌∙◌, arith}
use Rattle.std.proofs.lemmas.List.{length-drop}
use Rattle.std.proofs.lemmas.List.Elements.{Contains-append_left, Contains-append_right}
use Rattle.std.specs.List.{AllByRecursion}
use Rattle.std.specs.Prelude.{Contains}
use Rattle.sctp_association.proofs.Putting.{there}
use Rattle.sctp_chunks.specs.Framing.{declared_length}
use Rattle.sctp_chunks.specs.Wire.{ReadsChunk, Wire}
use Rattle.sctp_datagram.proofs.Alone.{cut_reads, reads_of_cut}
use Rattle.sctp_datagram.specs.Carried.{IsChunkOf}
use Rattle.sctp_datagram.specs.Framing.{StartsWith}
use Rattle.sctp_datagram.specs.declared.datagram.ChunkPlace.{ChunkPlace}
use Rattle.sctp_datagram.specs.Places.{IsPlace, TellsAll, place_at}

each-own : (d : List ℕ) (rows : List ChunkPlace) → TellsAll place_at d rows → (cs : List ChunkPlace) → ((c : ChunkPlace) → Contains cs c → Contains rows c)
    → AllByRecursion (IsChunkOf d) cs
each-own d rows t [] of = tt
each-own d rows t (c ∷ cs) of = (
  record { chunks = rows; tells = t; own = of c (Contains-append_left (c ∷ []) cs c (there c)) },
  each-own d rows t cs (λ k h. of k (Contains-append_right (c ∷ []) cs k h)),
)

pub all_own : (d : List ℕ) (rows : List ChunkPlace) → TellsAll place_at d rows → AllByRecursion (IsChunkOf d) rows
all_own d rows t = each-own d rows t rows (λ c h. h)

-- the next one, and the others
pub next_own : (d : List ℕ) (rows rest : List ChunkPlace) (p : ChunkPlace) → rows ≡ p ∷ rest → AllByRecursion (IsChunkOf d) rows
    → AllByRecursion (IsChunkOf d) (p ∷ rest)
next_own d rows rest p e own = subst (λ l. AllByRecursion (IsChunkOf d) l) e own

-- a chunk that is there ends within the datagram
pub place_within : (d : List ℕ) (p : ChunkPlace) → IsPlace d p → p.at + p.length ≤ length d
place_within d p place =
    let size : p.length ≡ declared_length (drop p.at d) = ap (λ k. k.length) place.told in
    omega (arith, size, place.there.is_framed.within, place.there.is_framed.least, length-drop p.at d)

-- what its bytes alone are read as, it is read as where it lies
pub read_there : (d : List ℕ) (p : ChunkPlace) → IsPlace d p → (end : ℕ) → end ≡ p.at + p.length → (raw : List ℕ) → raw ≡ slice_range d p.at end
    → (w : Wire) → ReadsChunk raw w → StartsWith (drop p.at d) w
read_there d p place end is raw cut w reads =
    let size : p.length ≡ declared_length (drop p.at d) = ap (λ k. k.length) place.told in
    let span : end - p.at ≡ declared_length (drop p.at d) = omega (arith, is, size) in
    reads_of_cut (drop p.at d) raw w place.there.is_framed (cut ∙ ap (λ n. take n (drop p.at d)) span) reads

-- and what it is read as where it lies, its bytes alone are read as
pub read_cut : (d : List ℕ) (p : ChunkPlace) → IsPlace d p → (end : ℕ) → end ≡ p.at + p.length → (raw : List ℕ) → raw ≡ slice_range d p.at end
    → (w : Wire) → StartsWith (drop p.at d) w → ReadsChunk raw w
read_cut d p place end is raw cut w reads =
    let size : p.length ≡ declared_length (drop p.at d) = ap (λ k. k.length) place.told in
    let span : end - p.at ≡ declared_length (drop p.at d) = omega (arith, is, size) in
    cut_reads (drop p.at d) raw w (cut ∙ ap (λ n. take n (drop p.at d)) span) reads
