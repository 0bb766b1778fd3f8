-- What a sender drops once it has expired (RFC 3758 3.5, 4.1; RFC 7496 3.1).
use Rattle.std.specs.Prelude.{◌≡◌, ℕ, Bool, true, false, ◌||◌, List, [], ◌∷◌, Option, Some, None, is_some}
use Rattle.std.specs.List.{sum_by}
use Rattle.sctp_data.specs.declared.chunk.chunk_payload_data.ChunkPayloadData.{ChunkPayloadData}
use Rattle.sctp_outbound.specs.outbound_queue.OutboundQueue.{all_started, expiring, expiring_tail, late_tsns}
use Rattle.sctp_sender.specs.declared.sender.Dropped.{Dropped}
use Rattle.sctp_sender.specs.declared.sender.Dropped.TheVariants.{Expired, Abandoned}
use Rattle.sctp_sender.specs.declared.sender.ExpiredMessages.{ExpiredMessages}
use Rattle.sctp_sender.specs.declared.sender.flight.late.AbandonedMessage.{AbandonedMessage}
use Rattle.sctp_sender.specs.Flight.{Flight, with_queue}
use Rattle.sctp_sender.specs.Late.{with_tail}
use Rattle.sctp_sender.specs.Resending.{worn_tsns}
use Rattle.sctp_sender.specs.Sender.{Transmission, after_abandon, with_flight}

-- ## An answer

-- the messages in front that it tells, wholly unsent
abbrev pub run_in : Option Dropped → Option ExpiredMessages
run_in (Some (Expired run)) = Some run
run_in _ = None

-- the messages that it tells of which some was sent
abbrev pub list_in : Option Dropped → Option (List AbandonedMessage)
list_in (Some (Abandoned gone)) = Some gone.items
list_in _ = None

-- the bytes that it tells
abbrev pub bytes_dropped : Option Dropped → ℕ
bytes_dropped None = 0
bytes_dropped (Some (Expired run)) = run.bytes
bytes_dropped (Some (Abandoned gone)) = sum_by (λ g. g.bytes) gone.items

-- ## What is to be dropped

abbrev pub any_of : List ℕ → Bool
any_of [] = false
any_of (t ∷ ts) = true

-- some message of which a part was sent is to be dropped
abbrev pub is_begun_due : ℕ → Flight → Bool
is_begun_due now f =
    is_some (expiring_tail now f.queue)
    || (any_of (late_tsns now f.queue) || any_of (worn_tsns f))

-- some message is
abbrev pub is_due : ℕ → Flight → Bool
is_due now f = is_some (expiring now f.queue) || is_begun_due now f

-- one of which some waits, so that it needs a terminal chunk under a further TSN
abbrev pub needs_tsn : ℕ → Flight → Bool
needs_tsn now f =
    is_some (expiring_tail now f.queue)
    || (is_some (with_tail (late_tsns now f.queue) f) || is_some (with_tail (worn_tsns f) f))

-- ## What is left

-- the rest of the message of a chunk in front is abandoned, and it alone is told
abbrev pub TailGoes : ChunkPayloadData → Transmission → Transmission → List AbandonedMessage → Type 0
TailGoes c old new (a ∷ []) =
    (a.stream ≡ c.stream_identifier) × (a.number ≡ c.message_id)
    × (new ≡ after_abandon (Some c.message_id) a.stream a.bytes old)
TailGoes c old new _ = ⊥

-- the lifetimes of the messages written since the last time start
abbrev pub with_lifetimes : ℕ → Transmission → Transmission
with_lifetimes now t = with_flight (with_queue t.flight (all_started now t.flight.queue)) t
