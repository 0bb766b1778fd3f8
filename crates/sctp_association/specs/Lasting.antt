-- How long an association lasts that hears nothing of its peer: each expiry of T3-rtx, and of the timer of the state, leaves fewer (RFC 9260 4, 8.1, 9.2).
-- And the limits that it goes by.
use Rattle.std.specs.Prelude.{◌≡◌, ℕ, suc, ◌+◌, ◌-◌, ◌^◌, ◌<◌, ◌≤◌, max, Bool, true, false, not, ◌&&◌, ◌||◌, if◌then◌else◌, List, [], ◌∷◌, is_some}
use Rattle.sctp_association.specs.declared.association.Association.{Association}
use Rattle.sctp_association.specs.declared.config.Config.{Config}
use Rattle.sctp_handshake.specs.declared.machine.Limits.{Limits}
use Rattle.sctp_handshake.specs.declared.machine.Machine.{Machine}
use Rattle.sctp_handshake.specs.declared.state.State.{State}
use Rattle.sctp_handshake.specs.declared.state.State.TheVariants.{Closed, CookieWait, CookieEchoed, Established}
use Rattle.sctp_handshake.specs.declared.state.State.TheVariants.{ShutdownPending, ShutdownSent, ShutdownReceived, ShutdownAckSent}
use Rattle.sctp_handshake.specs.States.{timer}
use Rattle.sctp_path.specs.Congestion.{first as first_control}
use Rattle.sctp_path.specs.declared.failures.Failures.{Failures}
use Rattle.sctp_path.specs.Rto.{first as first_rto}
use Rattle.sctp_path.specs.Timers.{is_due}

-- ## Expiries that are left

-- of T3-rtx, until its limit is reached: Association.Max.Retrans
abbrev pub t3_left : Failures → ℕ
t3_left f = f.most - f.count

-- Of the timer of the state. In a state without one: of the state to which `connect`, or an end of what is to be sent, leads
abbrev pub left_in : State → Limits → (attempts : ℕ) → ℕ
left_in Closed l attempts = l.max_init_retransmits
left_in CookieWait l attempts = l.max_init_retransmits - attempts
left_in CookieEchoed l attempts = l.max_init_retransmits - attempts
left_in Established l attempts = l.association_max_retrans
left_in ShutdownPending l attempts = l.association_max_retrans
left_in ShutdownSent l attempts = l.association_max_retrans - attempts
left_in ShutdownReceived l attempts = l.association_max_retrans
left_in ShutdownAckSent l attempts = l.association_max_retrans - attempts

abbrev pub control_left : Machine → ℕ
control_left m = left_in m.state m.limits m.attempts

-- with so many expiries, while nothing of the peer comes, the association is over
abbrev pub expiries_left : Association → ℕ
expiries_left a =
    if a.is_over then 0 else suc (t3_left a.outbound.failures + control_left a.machine)

-- the timer of the state expires: T1-init, T1-cookie or T2-shutdown
abbrev pub expires_control : (now : ℕ) → Association → Bool
expires_control now a = is_some (timer a.machine.state) && is_due now a.control.at

-- T3-rtx expires, or the timer of the state
abbrev pub expires : (now : ℕ) → Association → Bool
expires now a = not a.is_over && (is_due now a.outbound.timer.at || expires_control now a)

-- Max.Init.Retransmits and Association.Max.Retrans of a config
abbrev pub limits_by : Config → Limits
limits_by c = record {
  max_init_retransmits = c.max_init_retrans;
  association_max_retrans = c.max_retrans;
}

-- A new association counts up to the limits of its `Config`; its RTO is RTO.Initial, and cwnd the first window of its MTU (6.3.1 C1, 7.2.1)
pub record BeginsWithin (c : Config) (a : Association) : Type 0 where
  pub failures : a.outbound.failures ≡ record { count = 0; most = c.max_retrans }
  pub limits : a.machine.limits ≡ limits_by c
  pub rto : a.outbound.rto ≡ first_rto c.rto
  pub congestion : a.outbound.congestion ≡ first_control c.mtu 0

-- ## What calls leave

-- no more are left than were, and the limit is the same
pub record LastsNoLonger (old new : Association) : Type 0 where
  pub most : new.outbound.failures.most ≡ old.outbound.failures.most
  pub left : expiries_left new ≤ expiries_left old

-- where a timer expires fewer are left; a limit of 2^32 - 1 is never passed
pub record Expires (is_expiry : Bool) (old new : Association) : Type 0 where
  pub lasts : LastsNoLonger old new
  pub fewer : is_expiry ≡ true → old.outbound.failures.most < 2 ^ 32 - 1
      → expiries_left new < expiries_left old

-- ## The limits of the Config

-- The sending half counts failures up to Association.Max.Retrans of the config, and its RTO stays between RTO.Min and RTO.Max of it (8.1, 6.3.1): if it did,
-- it still does. One that begins anew does so by the config
abbrev pub StaysWithin : (old new : Association) → Type 0
StaysWithin old new =
    (old.outbound.failures.most ≡ old.config.max_retrans
    → new.outbound.failures.most ≡ new.config.max_retrans)
    × (old.outbound.rto.limits ≡ old.config.rto → new.outbound.rto.limits ≡ new.config.rto)

-- so of the config itself, and of the limits of its handshake and its shutdown
pub record KeepsLimits (old new : Association) : Type 0 where
  pub config : new.config ≡ old.config
  pub machine : new.machine.limits ≡ old.machine.limits
  pub sending : StaysWithin old new

-- ## The law

-- calls one after another: of each, whether a timer expired
abbrev pub LastsAlong : List Bool → Association → Association → Type 0
LastsAlong [] old new = new ≡ old
LastsAlong (e ∷ es) old new = (mid : Association) × (Expires e old mid × LastsAlong es mid new)

-- how many are expiries
abbrev pub expiries : List Bool → ℕ
expiries [] = 0
expiries (true ∷ es) = suc (expiries es)
expiries (false ∷ es) = expiries es

-- a call that leaves the machine and the failures as they are
abbrev pub EachQuietCallLasts : Type 0
EachQuietCallLasts =
    (a b : Association) → b.is_over ≡ a.is_over → b.machine ≡ a.machine
    → b.outbound.failures ≡ a.outbound.failures → Expires false a b

-- a call that leaves no more expiries, behind another one
abbrev pub EachLaterCallLasts : Type 0
EachLaterCallLasts =
    (e : Bool) (a b c : Association) → Expires e a b → LastsNoLonger b c → Expires e a c

-- along calls that bring nothing of the peer: with each expiry fewer are left
abbrev pub EachExpiryCounts : Type 0
EachExpiryCounts =
    (es : List Bool) (old new : Association) → old.outbound.failures.most < 2 ^ 32 - 1
    → LastsAlong es old new → expiries_left new + expiries es ≤ expiries_left old

-- so with as many as were left it is over
abbrev pub EachEnds : Type 0
EachEnds =
    (es : List Bool) (old new : Association) → old.outbound.failures.most < 2 ^ 32 - 1
    → LastsAlong es old new → expiries_left old ≤ expiries es → new.is_over ≡ true

-- no more are left than by Association.Max.Retrans twice, or by it and Max.Init.Retransmits, and one
abbrev pub FewAreLeft : Type 0
FewAreLeft =
    (a : Association) → expiries_left a ≤ suc (a.outbound.failures.most
    + max a.machine.limits.max_init_retransmits a.machine.limits.association_max_retrans)
