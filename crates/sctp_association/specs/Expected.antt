-- Of which packets something is taken, by their first chunk (RFC 9260 5, 6, 8.3, 9). Moments are nanoseconds.
use Rattle.std.specs.Prelude.{◌≡◌, ◌⊎◌, ℕ, ◌<◌, ◌^◌, ◌==◌, ◌&&◌, ◌||◌, not, if◌then◌else◌, Bool, true, false, List}
use Rattle.std.specs.Prelude.{◌∷◌, length, None, is_none, is_some, ◌+◌, ◌≤◌, ◌≢◌, Ok}
use Rattle.crc32c.specs.Castagnoli.{crc32c_of}
use Rattle.sctp_association.specs.Beginnings.{is_standing}
use Rattle.sctp_association.specs.Coming.{goes_on, is_due, zero_checksum_of}
use Rattle.sctp_association.specs.Cookies.{IsSealedAt, cookie_in}
use Rattle.sctp_association.specs.Openings.{BringsEnd, echo_step}
use Rattle.sctp_association.specs.Reports.{value_in}
use Rattle.sctp_association.specs.Rows.{row_at}
use Rattle.sctp_association.specs.Tags.{is_admitted}
use Rattle.sctp_association.specs.declared.association.Association.{Association}
use Rattle.sctp_association.specs.declared.association.Reason.TheVariants.{Unexpected}
use Rattle.sctp_association.specs.declared.association.arrivals.Step.{Step}
use Rattle.sctp_association.specs.declared.association.arrivals.Step.TheVariants.{Next, Stop, Cut, Refused}
use Rattle.sctp_datagram.specs.declared.datagram.ChunkPlace.{ChunkPlace}
use Rattle.sctp_datagram.specs.Fault.{IsAccepted}
use Rattle.sctp_datagram.specs.Places.{TellsAll, place_at}
use Rattle.sctp_datagram.specs.declared.params.ParamPlace.{ParamPlace}
use Rattle.sctp_handshake.specs.InitValues.{host_name_of, init_in}
use Rattle.sctp_handshake.specs.InitValues as values
use Rattle.sctp_handshake.specs.States.{takes_data, takes_sacks}
use Rattle.sctp_handshake.specs.declared.answer.Answer.{Answer}
use Rattle.sctp_handshake.specs.declared.init_value.Said.{Said}
use Rattle.sctp_handshake.specs.declared.offer.Offer.{Offer}
use Rattle.sctp_handshake.specs.declared.state.State.{State}
use Rattle.sctp_handshake.specs.declared.state.State.TheVariants.{Closed, CookieWait, ShutdownReceived}
use Rattle.sctp_util.specs.Field.{u16_at, u32_at}

-- the machine replies, or tells
abbrev pub speaks : Answer → Bool
speaks a = is_some a.reply || is_some a.told

abbrev pub is_closed : State → Bool
is_closed Closed = true
is_closed _ = false

abbrev pub is_received : State → Bool
is_received ShutdownReceived = true
is_received _ = false

-- where an association stands it may begin anew; else it begins once
abbrev pub may_begin : Association → Bool
may_begin a = is_standing a.machine.state || is_none a.inbound

-- a RE-CONFIG is taken where DATA or SACKs are (RFC 6525 5.2)
abbrev pub takes_resets : State → Bool
takes_resets s = takes_data s || takes_sacks s

-- A control chunk of this type is expected. A HEARTBEAT is, once the peer is known, and its answer, once the association stood (8.3). ABORT, SHUTDOWN,
-- SHUTDOWN-ACK, COOKIE-ACK and SHUTDOWN-COMPLETE are where the row of the state is not empty; and a further SHUTDOWN is (9.2). INIT, INIT ACK
-- and COOKIE-ECHO are not among these. An ERROR and a chunk of an unknown type are expected, and a RE-CONFIG where it is taken.
abbrev pub expects : (typ : ℕ) → Association → Bool
expects typ a =
    if typ == 4 then is_some a.machine.peer
    else (if typ == 5 then is_some a.heartbeat
    else (if (typ == 6) || ((typ == 8) || (typ == 14)) then speaks (row_at typ None 0 a.machine).answer
    else (if typ == 7 then speaks (row_at 7 None 0 a.machine).answer || is_received a.machine.state
    else (if typ == 11 then speaks (row_at 11 None 0 a.machine).answer && may_begin a
    else (if typ == 130 then takes_resets a.machine.state
    else not ((typ == 1) || ((typ == 2) || (typ == 10))))))))

-- once the association is not closed
abbrev pub is_expected : (typ : ℕ) → Association → Bool
is_expected typ a = if goes_on typ then is_due typ a
    else not (is_closed a.machine.state) && expects typ a

-- a chunk is taken where it is expected; elsewhere it is refused for that reason
abbrev pub AsExpected : (expected : Bool) → Step → Type 0
AsExpected expected Next = expected ≡ true
AsExpected expected Stop = expected ≡ true
AsExpected expected Cut = expected ≡ true
AsExpected expected (Refused r) = (r ≡ Unexpected) × (expected ≡ false)

-- a COOKIE-ECHO brings back a cookie that this side has sealed, and the machine replies or tells (5.1 D, 5.2.4)
pub record IsEchoExpected (c : ChunkPlace) (tag : ℕ) (datagram : List ℕ) (now : ℕ) (a : Association)
    : Type 0 where
  pub typ : c.typ ≡ 10
  pub moment : ℕ
  pub long : moment < 2 ^ 64
  pub made : IsSealedAt moment a.key tag (cookie_in datagram c)
  pub begins : may_begin a ≡ true
  pub speaks : speaks (echo_step now moment made.ticket a).answer ≡ true

-- An INIT is read, and its offer has a tag: it is answered (5.1 B, 5.2.1, 5.2.2)
pub record IsInitExpected (c : ChunkPlace) (datagram : List ℕ) : Type 0 where
  pub typ : c.typ ≡ 1
  pub said : Said
  pub reads : init_in (value_in datagram c) ≡ Ok said
  pub tagged : said.offer.tag ≢ 0

-- an INIT ACK without a Host Name Address is read, and its cookie lies within it (5.1 C, 5.1.2)
pub record BringsCookie (c : ChunkPlace) (datagram : List ℕ) : Type 0 where
  pub plain : host_name_of (value_in datagram c) ≡ None
  pub offer : Offer
  pub place : ParamPlace
  pub reads : values.cookie_in (init_in (value_in datagram c)) ≡ Ok (offer, place)
  pub within : place.at + place.length ≤ length (value_in datagram c)

-- this side waits for it, and it brings that, or ends what was begun
pub record IsInitAckExpected (c : ChunkPlace) (datagram : List ℕ) (a : Association) : Type 0 where
  pub typ : c.typ ≡ 2
  pub waits : a.machine.state ≡ CookieWait
  pub brings : BringsCookie c datagram ⊎ BringsEnd c datagram

-- a chunk of a packet with this tag is expected
abbrev pub IsExpected : ChunkPlace → (tag : ℕ) → List ℕ → (now : ℕ) → Association → Type 0
IsExpected c tag datagram now a =
    (is_expected c.typ a ≡ true)
    ⊎ (IsEchoExpected c tag datagram now a ⊎ (IsInitExpected c datagram ⊎ IsInitAckExpected c datagram a))

-- a packet for the association, which goes on: it is valid, has its ports and its tag, and begins with a chunk that is expected
pub record IsDue (datagram : List ℕ) (now : ℕ) (a : Association) : Type 0 where
  pub going : a.is_over ≡ false
  pub valid : IsAccepted (zero_checksum_of a.config) crc32c_of datagram
  pub first : ChunkPlace
  pub rest : List ChunkPlace
  pub tells : TellsAll place_at datagram (first ∷ rest)
  pub source : u16_at datagram 0 ≡ a.config.destination_port
  pub destination : u16_at datagram 2 ≡ a.config.source_port
  pub admitted : is_admitted first (u32_at datagram 4) (length (first ∷ rest)) a.machine ≡ true
  pub expected : IsExpected first (u32_at datagram 4) datagram now a
