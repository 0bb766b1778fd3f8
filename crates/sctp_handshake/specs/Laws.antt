-- What holds of any inputs, one after another.
use Rattle.std.specs.Prelude.{◌≡◌, ◌≢◌, ◌⊎◌, Bool, true, false, List, [], ◌∷◌, ℕ, zero, suc, ◌+◌, ◌<◌, ◌≤◌, is_some}
use Rattle.sctp_handshake.specs.declared.machine.cookies.CookieRow.{CookieRow}
use Rattle.sctp_handshake.specs.declared.machine.cookies.CookieRow.TheVariants.{First, Restart, Collision, Late, Repeat, Unlisted}
use Rattle.sctp_handshake.specs.declared.machine.Machine.{Machine}
use Rattle.sctp_handshake.specs.declared.machine.Limits.{Limits}
use Rattle.sctp_handshake.specs.declared.state.State.{State}
use Rattle.sctp_handshake.specs.declared.state.State.TheVariants.{Closed, CookieWait, CookieEchoed, Established}
use Rattle.sctp_handshake.specs.declared.state.State.TheVariants.{ShutdownPending, ShutdownSent, ShutdownReceived, ShutdownAckSent}
use Rattle.sctp_handshake.specs.Cookies.{row_of}
use Rattle.sctp_handshake.specs.Histories.{Input, cookie_echo, cookie_ack, timed_out}
use Rattle.sctp_handshake.specs.Histories.{on, after}
use Rattle.sctp_handshake.specs.Machines.{KnowsPeer}
use Rattle.sctp_handshake.specs.States.{timer}

-- the peer's offer stays known exactly in the states in which it is to be
abbrev pub PeerIsKnown : Type 0
PeerIsKnown = (is : List Input) (m : Machine) → KnowsPeer m → KnowsPeer (after is m)

-- ## Only a cookie of its own, or the answer to the peer's, makes an association stand (RFC 9260 5.1)

abbrev pub IsNoCookie : Input → Type 0
IsNoCookie (cookie_echo ticket stale) = ⊥
IsNoCookie cookie_ack = ⊥
IsNoCookie _ = Unit {0}

abbrev pub AreNoCookies : List Input → Type 0
AreNoCookies [] = Unit {0}
AreNoCookies (i ∷ is) = IsNoCookie i × AreNoCookies is

abbrev pub NeedsCookie : Type 0
NeedsCookie = (is : List Input) (m : Machine) → AreNoCookies is → m.state ≢ Established
    → (after is m).state ≢ Established

-- ## Where no answer comes, each state with a timer ends

-- how often the timer may run out without an end (RFC 9260 4, 9.2)
abbrev pub retries : State → Limits → ℕ
retries Closed l = 0
retries CookieWait l = l.max_init_retransmits
retries CookieEchoed l = l.max_init_retransmits
retries Established l = 0
retries ShutdownPending l = 0
retries ShutdownSent l = l.association_max_retrans
retries ShutdownReceived l = 0
retries ShutdownAckSent l = l.association_max_retrans

abbrev pub timeouts : ℕ → List Input
timeouts zero = []
timeouts (suc n) = timed_out ∷ timeouts n

abbrev pub SilenceEnds : Type 0
SilenceEnds = (n : ℕ) (m : Machine) → is_some (timer m.state) ≡ true
    → m.attempts ≤ retries m.state m.limits → retries m.state m.limits < m.attempts + n
    → (after (timeouts n) m).state ≡ Closed

-- ## Where an association stands, only rows A and B give it other offers, and so other tags (RFC 9260 5.2.4)

abbrev pub is_renewal_row : CookieRow → Bool
is_renewal_row First = false
is_renewal_row Restart = true
is_renewal_row Collision = true
is_renewal_row Late = false
is_renewal_row Repeat = false
is_renewal_row Unlisted = false

abbrev pub is_renewal : Input → Machine → Bool
is_renewal (cookie_echo ticket stale) m = is_renewal_row (row_of ticket m)
is_renewal _ m = false

abbrev pub KeepsOffers : Machine → Machine → Type 0
KeepsOffers m n = (n.own ≡ m.own) × ((n.peer ≡ m.peer) ⊎ (n.state ≡ Closed))

abbrev pub OffersStay : Type 0
OffersStay = (i : Input) (m : Machine) → m.state ≡ Established → is_renewal i m ≡ false
    → KeepsOffers m (on i m).machine
