-- Cookies of this side: of what it sealed, and when (RFC 9260 5.1.3, 5.1.5).
use Rattle.std.specs.Prelude.{◌≡◌, ℕ, ◌-◌, ◌≤◌, List, slice_range, drop, Ok}
use Rattle.sctp_cookie.specs.Cookie.{sealed}
use Rattle.sctp_cookie.specs.Hmac.{hmac_sha256}
use Rattle.sctp_datagram.specs.declared.datagram.ChunkPlace.{ChunkPlace}
use Rattle.sctp_handshake.specs.declared.ticket.Ticket.{Ticket}
use Rattle.sctp_handshake.specs.Tickets.{ticket_in}

-- the cookie of a COOKIE-ECHO
abbrev pub cookie_in : List ℕ → ChunkPlace → List ℕ
cookie_in datagram c = slice_range (drop c.at datagram) 4 c.length

-- It was sealed under the key at that moment, over a ticket with this tag. Who has not the key can make none, as long as nobody can forge
-- HMAC-SHA-256.
pub record IsSealedAt (moment : ℕ) (key : List ℕ) (tag : ℕ) (cookie : List ℕ) : Type 0 where
  pub payload : List ℕ
  pub ticket : Ticket
  pub code : cookie ≡ sealed (hmac_sha256 key) moment payload
  pub holds : ticket_in payload ≡ Ok ticket
  pub own : ticket.own.tag ≡ tag

-- it was sealed at some moment
abbrev pub IsSealed : List ℕ → ℕ → List ℕ → Type 0
IsSealed key tag cookie = (moment : ℕ) × IsSealedAt moment key tag cookie

-- it was sealed not longer than its life ago
abbrev pub IsAlive : ℕ → ℕ → List ℕ → ℕ → List ℕ → Type 0
IsAlive now life key tag cookie =
    (moment : ℕ) × (now - moment ≤ life) × IsSealedAt moment key tag cookie
