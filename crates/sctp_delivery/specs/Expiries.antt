-- Which messages a sender lets expire, and when (RFC 3758 3.5, 4.1; RFC 7496 3.1): by how each was written, as the calls of a session say it.
use Rattle.std.specs.Prelude.{◌≡◌, ◌≢◌, ⊤, AllPairs, ℕ, ◌+◌, ◌-◌, ◌^◌, ◌<◌, ◌==◌, Bool, true, false, not, ◌&&◌, ◌||◌, All, List, [], ◌∷◌, ◌++◌, length, map}
use Rattle.std.specs.Prelude.{Contains, Option, Some, None, is_some, nat_eq, slice_index_or}
use Rattle.std.specs.List.{filter, list_any}
use Rattle.sctp_data.specs.Reliability.{is_past}
use Rattle.sctp_data.specs.declared.chunk.chunk_payload_data.ChunkPayloadData.{ChunkPayloadData}
use Rattle.sctp_data.specs.declared.chunk.chunk_payload_data.ReliabilityType.TheVariants.{Reliable}
use Rattle.sctp_outbound.specs.outbound_queue.OutboundQueue.{expiring, expiring_tail, late_tsns}
use Rattle.sctp_outbound.specs.pending_queue.PendingQueue.{Pending, next_pending}
use Rattle.sctp_outbound.specs.pending_queue.Whole.{waits}
use Rattle.sctp_receiver.specs.declared.receiver.limits.Limits.{Limits}
use Rattle.sctp_sender.specs.Resending.{is_over, is_to_resend, limit_of, worn_tsns}
use Rattle.sctp_sender.specs.Sender.{Transmission}
use Rattle.sctp_delivery.specs.Abandoned.{abandoned_by}
use Rattle.sctp_delivery.specs.Complete.{is_exhausted}
use Rattle.sctp_delivery.specs.Messages.{StandAt}
use Rattle.sctp_delivery.specs.Modes.{Sending, deadline_of, numbered_in, sendings, unknown}
use Rattle.sctp_delivery.specs.Sacks.{tsns_given}
use Rattle.sctp_delivery.specs.SenderCalls.{SenderCall, abandons, expires, expires_late, expires_rexmit, expires_tail}
use Rattle.sctp_delivery.specs.Session.{Call, RunsTo, Session, at_start, of_receiver, of_sender}

-- ## When

-- the lifetime of the write is over: it has one, which started, and so many milliseconds went by since
abbrev pub is_lifetime_over : ℕ → Sending → Bool
is_lifetime_over now w = is_past now (deadline_of w)

-- a chunk that was sent so often was sent again more often than its write allows, where that is limited
abbrev pub is_limit_passed : ℕ → Sending → Bool
is_limit_passed count w = is_over count (limit_of w.mode.reliability w.mode.value)

-- a chunk in flight of the message with the number was sent so often
abbrev pub is_sent_too_often : ℕ → Sending → Transmission → Bool
is_sent_too_often n w t =
    list_any (λ c. (c.message_id == n) && is_limit_passed c.nsent w)
    t.flight.queue.inflight.chunks

-- ## Only what is due expires

-- why a call abandons a message: by an expiry, its lifetime is over, or it was sent again too often; else that it was asked to
abbrev pub IsReason : SenderCall → Transmission → ℕ → Sending → Type 0
IsReason (expires now m) t n w = is_lifetime_over now w ≡ true
IsReason (expires_tail now m) t n w = is_lifetime_over now w ≡ true
IsReason (expires_late now gone) t n w = is_lifetime_over now w ≡ true
IsReason (expires_rexmit gone) t n w = is_sent_too_often n w t ≡ true
IsReason _ t n w = ⊤

-- whatever call comes next, each message that it abandons has its reason: none but `abandon` abandons a reliable one, or one of DCEP
abbrev pub OnlyTheDueExpire : List Call → Session → Type 0
OnlyTheDueExpire calls s =
    (call : SenderCall)
    → All (λ n. IsReason call s.sending.sender n (numbered_in n (sendings calls)))
    (abandoned_by call s.sending.sender)

-- ## And each that is

-- the chunk in front begins its message, or goes on with it, and the lifetime of that is over
abbrev pub is_due_in_front : Bool → ℕ → List Sending → Option ChunkPayloadData → Bool
is_due_in_front begins now ws None = false
is_due_in_front true now ws (Some c) =
    c.beginning_fragment && is_lifetime_over now (numbered_in c.message_id ws)
is_due_in_front false now ws (Some c) =
    not c.beginning_fragment && is_lifetime_over now (numbered_in c.message_id ws)

-- the message in front is removed where it is unsent, and its rest where some was sent, exactly where its lifetime is over
abbrev pub GoesInFront : ℕ → List Sending → Transmission → Type 0
GoesInFront now ws t =
    (is_some (expiring now t.flight.queue)
    ≡ is_due_in_front true now ws (next_pending t.flight.queue.pending))
    × (is_some (expiring_tail now t.flight.queue)
    ≡ is_due_in_front false now ws (next_pending t.flight.queue.pending))

-- a chunk in flight is late where the lifetime of its write is over, it is not abandoned, and it is not acknowledged or some of its
-- message waits
abbrev pub is_late_as_written : ℕ → List Sending → Pending → ChunkPayloadData → Bool
is_late_as_written now ws q c =
    not c.abandoned
    && (is_lifetime_over now (numbered_in c.message_id ws)
    && (not c.acked || waits c.message_id q))

-- it is worn where it is marked, outstanding, and was sent again more often than its write allows
abbrev pub is_worn_as_written : List Sending → ChunkPayloadData → Bool
is_worn_as_written ws c =
    is_to_resend c && is_limit_passed c.nsent (numbered_in c.message_id ws)

-- what `expire_late` and `expire_rexmit` abandon are the messages of the chunks in flight that are so
abbrev pub GoesInFlight : ℕ → List Sending → Transmission → Type 0
GoesInFlight now ws t =
    (late_tsns now t.flight.queue
    ≡ map (λ c. c.tsn)
    (filter (is_late_as_written now ws t.flight.queue.pending) t.flight.queue.inflight.chunks))
    × (worn_tsns t.flight
    ≡ map (λ c. c.tsn) (filter (is_worn_as_written ws) t.flight.queue.inflight.chunks))

-- at each moment
abbrev pub EachDueExpires : List Call → Session → Type 0
EachDueExpires calls s =
    (now : ℕ)
    → GoesInFront now (sendings calls) s.sending.sender
    × GoesInFlight now (sendings calls) s.sending.sender

-- ## What is reliable

-- the numbers of the messages that calls of `abandon` gave up
abbrev pub asked_by : SenderCall → Transmission → List ℕ
asked_by (abandons tsn a) t = abandoned_by (abandons tsn a) t
asked_by _ t = []

abbrev pub asked_in : (old : Session) (calls : List Call) (new : Session)
    → RunsTo old calls new → List ℕ
asked_in old [] new run = []
asked_in old (of_sender call ∷ cs) new run =
    asked_by call old.sending.sender ++ asked_in run.0 cs new run.1.1
asked_in old (of_receiver call ∷ cs) new run = asked_in run.0 cs new run.1.1

-- each message that was read is a write at a place of its own; and each write that is reliable, and whose message is none of these,
-- stands at one of these places, so it was read exactly once
abbrev pub EachReliableIsReadOnce : List Sending → List ℕ → Session → Type 0
EachReliableIsReadOnce ws asked s =
    (places : List ℕ) × StandAt s.written s.receiving.read places
    × AllPairs (λ p q. p ≢ q) places
    × ((k : ℕ) → k < length s.written → (slice_index_or ws k unknown).mode.reliability ≡ Reliable
    → list_any (nat_eq (length s.written - (k + 1))) asked ≡ false → Contains places k)

-- P of how the writes are sent, of the messages that `abandon` gave up and of the session, after each session that gives out fewer
-- than 2^31 TSNs; the first one is a number of 32 bits, and fragments have some bytes
abbrev pub AfterEachRunOfAsked : (List Sending → List ℕ → Session → Type 0) → Type 0
AfterEachRunOfAsked P =
    (tsn size max most : ℕ) (limits : Option Limits) (calls : List Call) (s : Session)
    (run : RunsTo (at_start tsn size max most limits) calls s) → tsn < 2 ^ 32 → 0 < size
    → tsns_given (at_start tsn size max most limits) calls s run < 2 ^ 31
    → P (sendings calls) (asked_in (at_start tsn size max most limits) calls s run) s

-- where nothing waits to be sent, nothing is in flight, and nothing is to be read, each such write that no call of `abandon` gave up
-- was read exactly once
abbrev pub IsEachReliableReadInTheEnd : List Sending → List ℕ → Session → Type 0
IsEachReliableReadInTheEnd ws asked s =
    is_exhausted s.sending.sender s.receiving.receiver ≡ true
    → EachReliableIsReadOnce ws asked s
