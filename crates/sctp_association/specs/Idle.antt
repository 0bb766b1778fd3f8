-- What waits for a SACK or a timer, where nothing more leaves (RFC 9260 6.1, 6.2, 6.3).
use Rattle.std.specs.Prelude.{◌≡◌, ◌≢◌, ◌⊎◌, ℕ, ◌-◌, ◌<◌, Bool, true, false, List, [], Option, None, IfSome, find, is_some}
use Rattle.std.specs.Option.{option_map}
use Rattle.sctp_association.specs.declared.association.Association.{Association}
use Rattle.sctp_association.specs.declared.outbound.Outbound.{Outbound}
use Rattle.sctp_association.specs.Kept.{unknown_in}
use Rattle.sctp_association.specs.Leaving.{beats}
use Rattle.sctp_association.specs.Sending.{IsTimed, flight_of, marked_in}
use Rattle.sctp_data.specs.declared.chunk.chunk_payload_data.ChunkPayloadData.{ChunkPayloadData}
use Rattle.sctp_handshake.specs.declared.state.State.{State}
use Rattle.sctp_handshake.specs.declared.state.State.TheVariants.{Closed, CookieWait, CookieEchoed, Established}
use Rattle.sctp_handshake.specs.declared.state.State.TheVariants.{ShutdownPending, ShutdownSent, ShutdownReceived, ShutdownAckSent}
use Rattle.sctp_outbound.specs.pending_queue.PendingQueue.{next_pending}
use Rattle.sctp_path.specs.Timers.{Delay, is_due}
use Rattle.sctp_sender.specs.Resending.{fits, is_to_resend}
use Rattle.sctp_sender.specs.Sender.{Transmission}

-- DATA leaves in this state (4)
abbrev pub sends : State → Bool
sends Closed = false
sends CookieWait = false
sends CookieEchoed = false
sends Established = true
sends ShutdownPending = true
sends ShutdownSent = false
sends ShutdownReceived = true
sends ShutdownAckSent = false

-- ## A sender

abbrev pub in_flight : Transmission → List ChunkPayloadData
in_flight t = t.flight.queue.inflight.chunks

-- the first chunk that waits does so since something is in flight, if it fits into so many bytes
abbrev pub WaitsBehind : (room : ℕ) → Transmission → Type 0
WaitsBehind room t =
    IfSome (next_pending t.flight.queue.pending) (λ c. fits room c ≡ true → in_flight t ≢ [])

-- the first chunk that is marked is not sent again since something is outstanding, if it fits into so many bytes
abbrev pub IsMarkedBehind : (room : ℕ) → Transmission → Type 0
IsMarkedBehind room t =
    IfSome (find is_to_resend (in_flight t))
    (λ c. fits room c ≡ true → 0 < flight_of (in_flight t))

-- nothing was sent again
pub record SendsNoneAgain (room : ℕ) (old new : Outbound) : Type 0 where
  pub sender : new.sender ≡ old.sender
  pub marked : IsMarkedBehind room old.sender

-- nothing was sent that waits
pub record SendsNoneNew (room : ℕ) (old new : Outbound) : Type 0 where
  pub sender : new.sender ≡ old.sender
  pub waiting : marked_in old.sender ≡ 0 → WaitsBehind room old.sender

-- ## An association

-- Of what waits, or is to be sent again, the first chunk does so behind what is in flight, or outstanding: a SACK of that, or T3-rtx, is to
-- come. This is said of chunks that fit into a packet of at most so many bytes, behind its header of 12
pub record WaitsForSacks (limit : ℕ) (t : Transmission) : Type 0 where
  pub waiting : WaitsBehind (limit - 12) t
  pub marked : IsMarkedBehind (limit - 12) t

-- DATA leaves in its state, to a peer that is known
pub record MaySend (a : Association) : Type 0 where
  pub going : a.is_over ≡ false
  pub state : sends a.machine.state ≡ true
  pub known : is_some a.machine.peer ≡ true

-- SACK.Delay, and when a SACK is due, where there is a receiver
abbrev pub sack_delay : Association → Option Delay
sack_delay a = option_map (λ i. i.delay) a.inbound

abbrev pub HasNoSackDue : ℕ → Association → Type 0
HasNoSackDue now a = IfSome (sack_delay a) (λ d. is_due now d.due ≡ false)

-- ## Replies

-- it goes on with a peer that is known, and is not in the state in which a COOKIE-ECHO goes alone (5.1 C)
pub record MayReply (a : Association) : Type 0 where
  pub going : a.is_over ≡ false
  pub known : is_some a.machine.peer ≡ true
  pub state : a.machine.state ≢ CookieEchoed

-- no SHUTDOWN is due, where there is a receiver whose TSN it acknowledges, no SHUTDOWN-ACK, and neither a HEARTBEAT nor the answer to one (8.3, 9.2);
-- and no ERROR, that reports or tells of a stream (3.2, 6.5)
pub record OwesNoControl (now : ℕ) (a : Association) : Type 0 where
  pub shutdown : (a.due.shutdown ≡ false) ⊎ (sack_delay a ≡ None)
  pub shutdown_ack : a.due.shutdown_ack ≡ false
  pub heartbeat : a.due.heartbeat ≡ None
  pub beat : beats now a ≡ false
  pub report : a.due.report ≡ None
  pub unknown : unknown_in a.inbound ≡ None

-- and no COOKIE-ACK (5.1 D)
pub record OwesNone (now : ℕ) (a : Association) : Type 0 where
  pub cookie_ack : a.due.cookie_ack ≡ false
  pub control : OwesNoControl now a

-- ## Where nothing leaves

-- Neither a SACK nor a FORWARD-TSN is due (RFC 3758 3.5). What waits, or is to be sent again, waits for a SACK, and T3-rtx runs where something is in
-- flight.
pub record IsIdle (now : ℕ) (a : Association) : Type 0 where
  pub acked : HasNoSackDue now a
  pub sent : WaitsForSacks a.draft.limit a.outbound.sender
  pub timed : IsTimed (in_flight a.outbound.sender) a.outbound.timer.at
  pub skip : a.outbound.is_skip_due ≡ false
