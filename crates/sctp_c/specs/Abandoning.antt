-- Messages that are abandoned or expire, as a caller in C is told of them.
use Rattle.std.specs.Prelude.{◌≡◌, ℕ, ◌+◌, if◌then◌else◌, List, length, map, Option, Some, None, is_some, option_map}
use Rattle.std.specs.List.{find}
use Rattle.sctp_data.specs.declared.chunk.chunk_payload_data.ChunkPayloadData.{ChunkPayloadData}
use Rattle.sctp_outbound.specs.outbound_queue.OutboundQueue.{expiring, expiring_tail, total_bytes}
use Rattle.sctp_sender.specs.declared.sender.flight.late.AbandonedMessage.{AbandonedMessage}
use Rattle.sctp_sender.specs.Abandonment.{abandon_refusal}
use Rattle.sctp_sender.specs.Flight.{Flight, may_send, message_to_abandon}
use Rattle.sctp_sender.specs.Late.{leaving_each, with_tail}
use Rattle.sctp_sender.specs.Sender.{Transmission, after_abandon, after_expire}
use Rattle.sctp_sender.specs.Thresholds.{fell, with_message_lows}
use Rattle.sctp_sender.specs.declared.sender.refusal.SenderRefusal.{SenderRefusal}
use Rattle.sctp_sender.specs.declared.sender.refusal.SenderRefusal.TheVariants.{TsnsUsedUp}
use Rattle.sctp_serial.specs.DataChunks.{has_tsn}
use Rattle.sctp_c.specs.declared.sender.abandoning.SctpAbandoned.{SctpAbandoned}
use Rattle.sctp_c.specs.declared.sender.abandoning.SctpExpired.{SctpExpired}
use Rattle.sctp_c.specs.Flags.{flag}
use Rattle.sctp_c.specs.Out.{filled}
use Rattle.sctp_c.specs.Rows.{abandoned_row}

-- the message of a chunk in flight is abandoned, and the row tells of it
pub record Abandons (tsn : ℕ) (row : SctpAbandoned) (old new : Transmission) : Type 0 where
  pub accepted : abandon_refusal tsn old.flight ≡ None
  pub after : new ≡ after_abandon (message_to_abandon tsn old.flight) row.stream row.bytes old
  pub stream : Some row.stream ≡ option_map
      (λ c. c.stream_identifier) (find (has_tsn tsn) old.flight.queue.inflight.chunks)
  pub number : Some row.number ≡ option_map
      (λ c. c.message_id) (find (has_tsn tsn) old.flight.queue.inflight.chunks)
  pub released : total_bytes new.flight.queue + row.bytes ≡ total_bytes old.flight.queue
  pub low : row.is_low ≡ flag (fell row.stream old new)

-- the message in front is gone, unsent, and the row tells of it
pub record Expires (now : ℕ) (row : SctpExpired) (old new : Transmission) : Type 0 where
  pub chunk : ChunkPayloadData
  pub front : expiring now old.flight.queue ≡ Some chunk
  pub stream : row.stream ≡ chunk.stream_identifier
  pub after : new ≡ after_expire chunk row.bytes now old
  pub released : total_bytes new.flight.queue + row.bytes ≡ total_bytes old.flight.queue
  pub low : row.is_low ≡ flag (fell row.stream old new)

-- the rest of the partially sent message in front is abandoned, and the row tells of it
pub record ExpiresTail (now : ℕ) (row : SctpAbandoned) (old new : Transmission) : Type 0 where
  pub chunk : ChunkPayloadData
  pub front : expiring_tail now old.flight.queue ≡ Some chunk
  pub stream : row.stream ≡ chunk.stream_identifier
  pub number : row.number ≡ chunk.message_id
  pub after : new ≡ after_abandon (Some chunk.message_id) row.stream row.bytes old
  pub released : total_bytes new.flight.queue + row.bytes ≡ total_bytes old.flight.queue
  pub low : row.is_low ≡ flag (fell row.stream old new)

-- the messages of these TSNs that leave, each with whether the amount of its stream falls with it
abbrev pub leaving_to : List ℕ → Transmission → List AbandonedMessage
leaving_to tsns t = with_message_lows (leaving_each tsns t.flight) t.streams

-- a row tells of each, as far as there is room
pub record AbandonsEach (tsns : List ℕ) (rows_old rows_new : List SctpAbandoned) (count : ℕ)
    (old : Transmission) : Type 0 where
  pub rows : rows_new ≡ filled (map abandoned_row (leaving_to tsns old)) rows_old
  pub size : count ≡ length (leaving_to tsns old)

-- why the messages of these TSNs do not leave: some of one waits, and no TSN is left for its terminal chunk
abbrev pub leaving_refusal : List ℕ → Flight → Option SenderRefusal
leaving_refusal tsns f =
    if may_send f then None
    else (if is_some (with_tail tsns f) then Some TsnsUsedUp else None)
