-- Whose packet it is (RFC 9260 8.5, 8.5.1).
use Rattle.std.specs.Prelude.{◌≡◌, ℕ, ◌==◌, ◌&&◌, ◌||◌, bit_and, not, Bool, true, false, if◌then◌else◌, List, [], ◌∷◌, length, drop, Option, Some, None}
use Rattle.sctp_association.specs.Cookies.{cookie_in, IsAlive, IsSealed}
use Rattle.sctp_chunks.specs.Framing.{type_at}
use Rattle.sctp_util.specs.Field.{u32_at}
use Rattle.sctp_datagram.specs.Places.{TellsAll, behind, place_at}
use Rattle.sctp_datagram.specs.declared.datagram.ChunkPlace.{ChunkPlace}
use Rattle.sctp_handshake.specs.declared.machine.Machine.{Machine}
use Rattle.sctp_handshake.specs.declared.offer.Offer.{Offer}

abbrev pub has_tag : ℕ → Option Offer → Bool
has_tag tag None = false
has_tag tag (Some o) = tag == o.tag

-- an ABORT or a SHUTDOWN-COMPLETE with the T bit: its packet has the tag that this side puts into its own (8.5.1 B, C)
abbrev pub is_reflected : ChunkPlace → Bool
is_reflected c = (c.typ == 6 || c.typ == 14) && not (bit_and c.flags 1 == 0)

-- A chunk may stand in a packet with this tag, of so many chunks: an INIT alone and with 0 (8.5.1 A), a COOKIE-ECHO with any, since its
-- cookie has the tag (5.1.5), any other with the own tag.
abbrev pub is_admitted : ChunkPlace → ℕ → ℕ → Machine → Bool
is_admitted c tag count m =
    if c.typ == 1 then tag == 0 && count == 1
    else (if c.typ == 10 then true
    else (if is_reflected c then has_tag tag m.peer else tag == m.own.tag))

-- INIT, ABORT, ERROR, COOKIE-ECHO, COOKIE-ACK and SHUTDOWN-COMPLETE begin a packet that is not answered behind the end (8.4, 2 to 7)
abbrev pub is_ending : ℕ → Bool
is_ending t = t == 1 || (t == 6 || (t == 9 || (t == 10 || (t == 11 || t == 14))))

-- A datagram of these chunks is for the association with this key: the first of them may stand there, and where that is a COOKIE-ECHO, this
-- side sealed the cookie, with the tag of the packet.
pub record AdmitsFirst (datagram : List ℕ) (chunks : List ChunkPlace) (key : List ℕ) (m : Machine) : Type 0 where
  pub first : ChunkPlace
  pub rest : List ChunkPlace
  pub are : chunks ≡ first ∷ rest
  pub admitted : is_admitted first (u32_at datagram 4) (length chunks) m ≡ true
  pub cookie : first.typ ≡ 10 → IsSealed key (u32_at datagram 4) (cookie_in datagram first)

-- so of a datagram
pub record IsFor (datagram : List ℕ) (key : List ℕ) (m : Machine) : Type 0 where
  pub chunks : List ChunkPlace
  pub tells : TellsAll place_at datagram chunks
  pub admits : AdmitsFirst datagram chunks key m

-- the first one, if there is one, is of this type
abbrev pub FirstIs : ℕ → List ChunkPlace → Type 0
FirstIs typ [] = Unit {0}
FirstIs typ (first ∷ rest) = first.typ ≡ typ

-- the first one is a COOKIE-ECHO whose cookie this side sealed, with the tag of the packet, and not longer than its life ago
pub record FirstIsAlive (datagram : List ℕ) (chunks : List ChunkPlace) (key : List ℕ) (now life : ℕ) : Type 0 where
  pub first : ChunkPlace
  pub rest : List ChunkPlace
  pub are : chunks ≡ first ∷ rest
  pub typ : first.typ ≡ 10
  pub cookie : IsAlive now life key (u32_at datagram 4) (cookie_in datagram first)

-- ## Of a datagram, without its chunks

-- the type of its first chunk
abbrev pub first_type : List ℕ → ℕ
first_type datagram = type_at (drop 12 datagram)

-- it begins with a COOKIE-ECHO whose cookie this side sealed, with the tag of the packet, and not longer than its life ago
pub record BeginsByCookie (datagram : List ℕ) (key : List ℕ) (now life : ℕ) : Type 0 where
  pub typ : first_type datagram ≡ 10
  pub cookie : IsAlive now life key (u32_at datagram 4) (cookie_in datagram (place_at datagram 12))

-- its first chunk is its last one
abbrev pub EndsWithFirst : List ℕ → Type 0
EndsWithFirst datagram = drop (behind datagram 12) datagram ≡ []

-- where memory is wanting, a chunk of this type has changed nothing. DATA and FORWARD-TSN may have opened streams, and a RE-CONFIG may have reset some
abbrev pub is_all_or_nothing : ℕ → Bool
is_all_or_nothing typ = not ((typ == 0) || (typ == 130) || (typ == 192))
