-- The cause that an ERROR tells (RFC 9260 3.3.10).
use Rattle.std.specs.Prelude.{◌≡◌, ℕ, ◌||◌, nat_lt, if◌then◌else◌, List, drop, length, Option, Some, None}
use Rattle.sctp_datagram.specs.Carried.{IsChunkOf}
use Rattle.sctp_datagram.specs.declared.datagram.ChunkPlace.{ChunkPlace}
use Rattle.sctp_util.specs.Field.{u16_at}

-- the code of the first cause of an ERROR, if it has one
abbrev pub cause_in : List ℕ → ChunkPlace → Option ℕ
cause_in datagram c =
    if nat_lt c.length 8 || nat_lt (length (drop c.at datagram)) 8 then None
    else Some (u16_at (drop c.at datagram) 4)

-- the cause that waits to be told, once an ERROR with this one came: the last one
abbrev pub cause_after : Option ℕ → Option ℕ → Option ℕ
cause_after None waits = waits
cause_after (Some code) waits = Some code

-- an ERROR of the datagram tells that the cookie is stale (3.3.10.3)
pub record TellsStale (datagram : List ℕ) : Type 0 where
  pub place : ChunkPlace
  pub own : IsChunkOf datagram place
  pub typ : place.typ ≡ 9
  pub cause : cause_in datagram place ≡ Some 3
