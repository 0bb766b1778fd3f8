-- What the state machine makes of a chunk that comes (RFC 9260 4, 5, 9), and what follows from its answer. Moments are nanoseconds.
use Rattle.std.specs.Prelude.{◌≡◌, ◌⊎◌, ⊤, ℕ, ◌≢◌, ◌==◌, ◌||◌, Bool, true, false, not, if◌then◌else◌, List, [], Option, Some, None, is_some}
use Rattle.sctp_association.specs.Causes.{cause_in}
use Rattle.sctp_association.specs.Coming.{goes_on}
use Rattle.sctp_association.specs.Ends.{IsAbortedBy, IsAbortedByPeer}
use Rattle.sctp_association.specs.Fresh.{fresh_tag}
use Rattle.sctp_association.specs.Reports.{to_tag}
use Rattle.sctp_association.specs.Runs.{Sends}
use Rattle.sctp_association.specs.Sending.{holds_nothing}
use Rattle.sctp_association.specs.Telling.{ending_by, passed_on, whole_of}
use Rattle.sctp_association.specs.Timers.{EntersTimers, RunsTimers}
use Rattle.sctp_association.specs.declared.association.Association.{Association}
use Rattle.sctp_association.specs.declared.association.arrivals.Step.TheVariants as chunk
use Rattle.sctp_association.specs.declared.association.arrivals.Step as arrivals
use Rattle.sctp_association.specs.declared.due.AloneKind.TheVariants as alone
use Rattle.sctp_association.specs.declared.due.Due.{Due}
use Rattle.sctp_datagram.specs.declared.datagram.ChunkPlace.{ChunkPlace}
use Rattle.sctp_handshake.specs.Cookies.{on_cookie_ack, on_stale_cookie}
use Rattle.sctp_handshake.specs.Endings.{on_abort, on_drained, on_shutdown, on_shutdown_ack, on_shutdown_complete}
use Rattle.sctp_handshake.specs.Machines.{Step, dropped, into}
use Rattle.sctp_handshake.specs.Timeouts.{on_packet_arrived}
use Rattle.sctp_handshake.specs.declared.answer.AbortCause.{AbortCause}
use Rattle.sctp_handshake.specs.declared.answer.AbortCause.TheVariants.{InvalidMandatoryParameter, UserInitiatedAbort}
use Rattle.sctp_handshake.specs.declared.answer.Answer.{Answer}
use Rattle.sctp_handshake.specs.declared.answer.Reply.{Reply}
use Rattle.sctp_handshake.specs.declared.answer.Reply.TheVariants as reply
use Rattle.sctp_handshake.specs.declared.answer.Told.{Told}
use Rattle.sctp_handshake.specs.declared.answer.Told.TheVariants as told
use Rattle.sctp_handshake.specs.declared.machine.Machine.{Machine}
use Rattle.sctp_handshake.specs.declared.offer.Offer.{Offer}
use Rattle.sctp_handshake.specs.declared.state.State.{State}
use Rattle.sctp_handshake.specs.declared.state.State.TheVariants.{Closed, CookieWait, CookieEchoed, Established}
use Rattle.sctp_handshake.specs.declared.state.State.TheVariants.{ShutdownPending, ShutdownSent, ShutdownReceived, ShutdownAckSent}
use Rattle.sctp_sender.specs.Sender.{Transmission}

-- ## What follows from an answer of the state machine

-- the code of a cause (3.3.10)
abbrev pub cause_code : AbortCause → ℕ
cause_code InvalidMandatoryParameter = 7
cause_code UserInitiatedAbort = 12

-- What is due once this reply is, to who has the tag. An INIT ACK is due by its INIT alone, and no SHUTDOWN-COMPLETE leaves with the T bit (8.4).
abbrev pub owed_by : Option Reply → (tag : ℕ) → Due → Due
owed_by None tag d = d
owed_by (Some reply.Init) tag d = record d { alone = Some (to_tag alone.Init 0) }
owed_by (Some (reply.InitAck ticket)) tag d = d
owed_by (Some reply.CookieEcho) tag d = record d { cookie_echo = true }
owed_by (Some reply.CookieAck) tag d = record d { cookie_ack = true }
owed_by (Some reply.StaleCookie) tag d =
    record d { alone = Some (to_tag (alone.StaleCookie 0) tag) }
owed_by (Some reply.CookieWhileShuttingDown) tag d =
    record d { alone = Some (to_tag alone.ShuttingDown tag) }
owed_by (Some reply.Shutdown) tag d = record d { shutdown = true }
owed_by (Some reply.ShutdownAck) tag d = record d { shutdown_ack = true }
owed_by (Some (reply.ShutdownComplete true)) tag d = d
owed_by (Some (reply.ShutdownComplete false)) tag d = record d {
  alone = Some (to_tag alone.ShutdownComplete tag);
  farewell = Some (to_tag alone.ShutdownComplete tag);
}
owed_by (Some (reply.Abort cause)) tag d =
    record d { alone = Some (to_tag (alone.Abort (cause_code cause)) tag) }

-- the association is over where the machine tells that it ended
abbrev pub over_by : Option Told → Bool → Bool
over_by None was = was
over_by (Some told.Connected) was = was
over_by (Some told.Restarted) was = was
over_by (Some told.ShutdownBegun) was = was
over_by (Some told.Closed) was = true
over_by (Some told.Failed) was = true

-- once the association stands no COOKIE-ECHO is due (5.1 C)
abbrev pub owed_once : Option Told → Due → Due
owed_once None d = d
owed_once (Some told.Connected) d = record d { cookie_echo = false }
owed_once (Some told.Restarted) d = record d { cookie_echo = false }
owed_once (Some told.ShutdownBegun) d = d
owed_once (Some told.Closed) d = d
owed_once (Some told.Failed) d = d

-- What the machine answers is followed: its reply is due, what it tells waits to be told, and nothing else of the whole association. It is over where
-- that ends it. The timers of the state run. Beside that a HEARTBEAT-ACK or a report may be due.
pub record FollowsAnswer (a : Answer) (tag : ℕ) (before : State) (now : ℕ)
    (old new : Association) : Type 0 where
  pub due : new.due ≡ record (owed_once a.told (owed_by a.reply tag old.due)) {
    heartbeat = new.due.heartbeat;
    report = new.due.report;
  }
  pub timers : RunsTimers a before now old new
  pub over : new.is_over ≡ over_by a.told old.is_over
  pub told : whole_of new.events
      ≡ passed_on a.told (ending_by (is_some a.reply)) (whole_of old.events)
  pub wants : new.wants_shutdown ≡ old.wants_shutdown

-- the machine takes the step, and what it answers is followed
pub record FollowsStep (s : Step) (tag now : ℕ) (old new : Association) : Type 0 where
  pub machine : new.machine ≡ s.machine
  pub answer : FollowsAnswer s.answer tag old.machine.state now old new

-- so it is of a chunk that is taken; it ends no datagram
abbrev pub StepsOn : Step → (tag now : ℕ) → arrivals.Step → (old new : Association) → Type 0
StepsOn s tag now chunk.Next old new = FollowsStep s tag now old new
StepsOn s tag now chunk.Stop old new = ⊥
StepsOn s tag now chunk.Cut old new = ⊥
StepsOn s tag now (chunk.Refused r) old new = ⊤

-- ## The end of a datagram

-- the shutdown that was asked for before the association stood begins (9.2)
abbrev pub asked_in : State → Machine → Machine
asked_in Closed m = m
asked_in CookieWait m = m
asked_in CookieEchoed m = m
asked_in Established m = into ShutdownPending m
asked_in ShutdownPending m = m
asked_in ShutdownSent m = m
asked_in ShutdownReceived m = m
asked_in ShutdownAckSent m = m

abbrev pub asked_for : (wants : Bool) → Machine → Machine
asked_for wants m = if wants then asked_in m.state m else m

-- then it is asked for no more
abbrev pub still_wants : State → Bool → Bool
still_wants Established wants = false
still_wants _ wants = wants

-- a shutdown goes on once nothing waits or is in flight (9.2)
abbrev pub drained_where : Bool → Machine → Step
drained_where drained m = if drained then on_drained m else dropped m

-- both, as the datagram ends
abbrev pub settled : Association → Step
settled a =
    drained_where (holds_nothing a.outbound.sender) (asked_for a.wants_shutdown a.machine)

-- the timers of the state run as behind the answer to that
pub record Settles (now : ℕ) (old new : Association) : Type 0 where
  pub machine : new.machine ≡ (settled old).machine
  pub due : new.due ≡ owed_by (settled old).answer.reply 0 old.due
  pub over : new.is_over ≡ old.is_over
  pub outbound : new.outbound ≡ old.outbound
  pub wants : new.wants_shutdown ≡ still_wants old.machine.state old.wants_shutdown
  pub timers : RunsTimers (settled old).answer
      (asked_for old.wants_shutdown old.machine).state now old new

-- So it is of a call that sends, by what waits or is in flight once messages past their lifetime are dropped. The timers begin as another state is
-- entered.
pub record SettlesToSend (now : ℕ) (old new : Association) : Type 0 where
  pub kept : Transmission
  pub dropped : Sends [] old.outbound.sender kept
  pub machine : new.machine ≡ (drained_where (holds_nothing kept)
      (asked_for old.wants_shutdown old.machine)).machine
  pub over : new.is_over ≡ old.is_over
  pub wants : new.wants_shutdown ≡ still_wants old.machine.state old.wants_shutdown
  pub timers : EntersTimers now old new

-- `shutdown` asks for one, where none has begun
abbrev pub wants_at : State → Bool → Bool
wants_at CookieWait wants = true
wants_at CookieEchoed wants = true
wants_at Established wants = true
wants_at _ wants = wants

abbrev pub asking : Association → Association
asking a = record a { wants_shutdown = wants_at a.machine.state a.wants_shutdown }

-- ## The row of a chunk

-- cause 3: the cookie is stale, and the next INIT has a fresh tag (5.2.6); another one changes nothing
abbrev pub error_row : Option ℕ → (fresh : ℕ) → Machine → Step
error_row None fresh m = dropped m
error_row (Some code) fresh m = if code == 3 then on_stale_cookie fresh m else dropped m

-- What the machine makes of a chunk of this type: of DATA, ABORT, SHUTDOWN, SHUTDOWN-ACK, ERROR, COOKIE-ACK, SHUTDOWN-COMPLETE; of others nothing
abbrev pub row_at : (typ : ℕ) → (cause : Option ℕ) → (fresh : ℕ) → Machine → Step
row_at typ cause fresh m =
    if typ == 0 then on_packet_arrived true m
    else (if typ == 6 then on_abort m
    else (if typ == 7 then on_shutdown m
    else (if typ == 8 then on_shutdown_ack m
    else (if typ == 9 then error_row cause fresh m
    else (if typ == 11 then on_cookie_ack m
    else (if typ == 14 then on_shutdown_complete m
    else dropped m))))))

abbrev pub row_of : ChunkPlace → List ℕ → (now : ℕ) → Association → Step
row_of c datagram now a =
    row_at c.typ (cause_in datagram c) (fresh_tag a.key now a.machine.own) a.machine

-- INIT, INIT ACK and COOKIE-ECHO are not among them
abbrev pub has_row : ℕ → Bool
has_row typ = not ((typ == 1) || ((typ == 2) || (typ == 10)))

abbrev pub tag_of : Option Offer → ℕ
tag_of None = 0
tag_of (Some peer) = peer.tag

-- a SHUTDOWN-ACK is answered to the tag of the peer
abbrev pub tag_to : (typ : ℕ) → Machine → ℕ
tag_to typ m = if typ == 8 then tag_of m.peer else 0

-- It is taken so. With an ABORT the datagram ends, and the association; with DATA, a SACK or a FORWARD-TSN where this side ends it by them.
abbrev pub RowOn : ChunkPlace → List ℕ → (now : ℕ) → arrivals.Step → (old new : Association)
    → Type 0
RowOn c datagram now chunk.Next old new = (c.typ ≢ 6)
    × FollowsStep (row_of c datagram now old) (tag_to c.typ old.machine) now old new
RowOn c datagram now chunk.Stop old new = ((c.typ ≡ 6) × IsAbortedByPeer old new)
    ⊎ ((goes_on c.typ ≡ true) × IsAbortedBy c datagram old.machine.peer new)
RowOn c datagram now chunk.Cut old new = ⊤
RowOn c datagram now (chunk.Refused r) old new = ⊤
