-- Which messages calls of a sender abandon or let expire (RFC 3758 3.5), and what is read in the end where some are.
use Rattle.std.specs.Prelude.{◌≡◌, ◌≢◌, AllPairs, ℕ, ◌+◌, ◌-◌, ◌^◌, ◌<◌, if◌then◌else◌, nat_eq, true, false, All, List, [], ◌∷◌, ◌++◌, map, length, Contains}
use Rattle.std.specs.Prelude.{Option, None, is_some, option_to_list}
use Rattle.std.specs.List.{filter, list_any, sum_by}
use Rattle.sctp_data.specs.declared.chunk.chunk_payload_data.ChunkPayloadData.{ChunkPayloadData}
use Rattle.sctp_outbound.specs.outbound_queue.OutboundQueue.{expiring, expiring_tail, message_of}
use Rattle.sctp_sender.specs.Flight.{message_to_abandon}
use Rattle.sctp_sender.specs.Late.{late_order, leaving_each, worn_order}
use Rattle.sctp_sender.specs.Sender.{Transmission}
use Rattle.sctp_receiver.specs.declared.receiver.limits.Limits.{Limits}
use Rattle.sctp_receiver.specs.ReceiverRuns.{fragments_read}
use Rattle.sctp_serial.specs.DataChunks.{is_on}
use Rattle.sctp_delivery.specs.Complete.{fragments_held, is_exhausted}
use Rattle.sctp_delivery.specs.Messages.{StandAt}
use Rattle.sctp_delivery.specs.Modes.{AreFewInFlight}
use Rattle.sctp_delivery.specs.Sacks.{tsns_given, was_passed}
use Rattle.sctp_delivery.specs.SenderCalls.{SenderCall, abandons, expires, expires_late, expires_rexmit, expires_tail}
use Rattle.sctp_delivery.specs.Session.{Call, RunsTo, Session, at_start, of_receiver, of_sender}

-- ## Messages that are abandoned

-- the numbers of the messages that a call abandons, by itself or since they expire. A message's number is how many writes of some
-- bytes were made before it
abbrev pub abandoned_by : SenderCall → Transmission → List ℕ
abandoned_by (abandons tsn a) t = option_to_list (message_to_abandon tsn t.flight)
abandoned_by (expires now m) t = option_to_list (message_of (expiring now t.flight.queue))
abandoned_by (expires_tail now m) t =
    option_to_list (if is_some m then message_of (expiring_tail now t.flight.queue) else None)
abandoned_by (expires_late now gone) t =
    map (λ a. a.number) (leaving_each (late_order now t.flight) t.flight)
abandoned_by (expires_rexmit gone) t =
    map (λ a. a.number) (leaving_each (worn_order t.flight) t.flight)
abandoned_by _ t = []

-- of all calls of a session
abbrev pub abandoned_in : (old : Session) (calls : List Call) (new : Session)
    → RunsTo old calls new → List ℕ
abandoned_in old [] new run = []
abandoned_in old (of_sender call ∷ cs) new run =
    abandoned_by call old.sending.sender ++ abandoned_in run.0 cs new run.1.1
abandoned_in old (of_receiver call ∷ cs) new run = abandoned_in run.0 cs new run.1.1

-- P of the size of fragments at the start, of the messages that were abandoned and of the session, after each session that gives out
-- fewer than 2^31 TSNs; the first one is a number of 32 bits
abbrev pub AfterEachSessionOfMessages : (ℕ → List ℕ → Session → Type 0) → Type 0
AfterEachSessionOfMessages P =
    (tsn size max most : ℕ) (limits : Option Limits) (calls : List Call) (s : Session)
    (run : RunsTo (at_start tsn size max most limits) calls s) → tsn < 2 ^ 32
    → tsns_given (at_start tsn size max most limits) calls s run < 2 ^ 31
    → P size (abandoned_in (at_start tsn size max most limits) calls s run) s

-- and after each in which fewer than 2^31 chunks are in flight after each call, however many TSNs were given out
abbrev pub AfterEachOfFewInFlight : (List ℕ → Session → Type 0) → Type 0
AfterEachOfFewInFlight P =
    (tsn size max most : ℕ) (limits : Option Limits) (calls : List Call) (s : Session)
    → tsn < 2 ^ 32 → 0 < size → (r : RunsTo (at_start tsn size max most limits) calls s)
    → AreFewInFlight (at_start tsn size max most limits) calls s r
    → P (abandoned_in (at_start tsn size max most limits) calls s r) s

-- each of these messages is a write
abbrev pub AreOfWrites : List ℕ → Session → Type 0
AreOfWrites gone s = All (λ m. m < length s.written) gone

-- and of the chunks in flight those of such messages alone are marked as abandoned
abbrev pub OnlyTheirsAreMarked : List ℕ → Session → Type 0
OnlyTheirsAreMarked gone s =
    All (λ c. c.abandoned ≡ true → list_any (nat_eq c.message_id) gone ≡ true)
    s.sending.sender.flight.queue.inflight.chunks

-- ## What is held

-- however chunks are weighed, those that were taken on a stream weigh as much as the fragments that were read there, those that are
-- held there, and these, which FORWARD-TSNs pass that were made: so what is dropped is among these, and no chunk is twice
abbrev pub IsHeldReadOrPassed : Session → Type 0
IsHeldReadOrPassed s =
    (stream : ℕ) → (dropped : List ChunkPayloadData)
    × All (λ c. was_passed c.tsn s ≡ true) dropped
    × ((weight : ChunkPayloadData → ℕ)
    → sum_by weight (filter (is_on stream) s.receiving.accepted)
    ≡ sum_by weight (fragments_read stream s.receiving.read)
    + sum_by weight (fragments_held stream s.receiving.receiver) + sum_by weight dropped)

-- ## In the end

-- each message that was read is a write at a place of its own; and each write whose message is none of these stands at one of these
-- places, so it was read exactly once. Writes have the last one first: the one at place k has the number length s.written - (k + 1)
abbrev pub EachOtherIsReadOnce : List ℕ → Session → Type 0
EachOtherIsReadOnce gone s =
    (places : List ℕ) × StandAt s.written s.receiving.read places
    × AllPairs (λ p q. p ≢ q) places
    × ((k : ℕ) → k < length s.written
    → list_any (nat_eq (length s.written - (k + 1))) gone ≡ false → Contains places k)

-- where nothing waits to be sent, nothing is in flight, and nothing is to be read, each other write was read exactly once
abbrev pub IsEachOtherReadInTheEnd : List ℕ → Session → Type 0
IsEachOtherReadInTheEnd gone s =
    is_exhausted s.sending.sender s.receiving.receiver ≡ true → EachOtherIsReadOnce gone s
