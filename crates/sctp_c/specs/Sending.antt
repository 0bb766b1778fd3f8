-- What the calls of a sender answer a caller in C.
use Rattle.std.specs.Prelude.{◌≡◌, ◌⊎◌, ℕ, ◌==◌, true, if◌then◌else◌, List, [], ◌∷◌, length, map, All, Option, Some, None, option_map}
use Rattle.std.specs.List.{find}
use Rattle.sctp_data.specs.declared.chunk.chunk_payload_data.ChunkPayloadData.{ChunkPayloadData}
use Rattle.sctp_data.specs.declared.chunk.chunk_payload_data.ReliabilityType.{ReliabilityType}
use Rattle.sctp_data.specs.declared.chunk.chunk_payload_data.ReliabilityType.TheVariants.{Reliable, Rexmit, Timed}
use Rattle.sctp_data.specs.PayloadData.{payload_type_from}
use Rattle.sctp_outbound.specs.outbound_queue.OutboundQueue.{sent_next, with_message_id}
use Rattle.sctp_outbound.specs.pending_queue.PendingQueue.{next_pending}
use Rattle.sctp_sender.specs.declared.sender.refusal.SenderRefusal.{SenderRefusal}
use Rattle.sctp_sender.specs.Flight.{can_resend, next_after_send}
use Rattle.sctp_sender.specs.Numbers.{send_refusal}
use Rattle.sctp_sender.specs.Outgoing.{fragments_with_mode}
use Rattle.sctp_sender.specs.Resending.{resent_at}
use Rattle.sctp_sender.specs.Sender.{Transmission, stream_of, with_flight, written_to}
use Rattle.sctp_serial.specs.DataChunks.{has_tsn}
use Rattle.sctp_stream.specs.declared.outbound_stream.OutboundStream.{OutboundStream}
use Rattle.sctp_c.specs.Out.{at_front, padded}
use Rattle.sctp_c.specs.Codes.{sender_code}
use Rattle.sctp_c.specs.PayloadTypes.{as_sent}
use Rattle.sctp_c.specs.Types.{KeepsTypes, noted, type_sent}
use Rattle.sctp_c.specs.declared.sender.typed.TypedSender.{TypedSender}
use Rattle.sctp_c.specs.declared.sender.types.Noted.{Noted}

-- the code of a refusal for a reason, or for want of memory where there is none
abbrev pub sender_code_for : Option SenderRefusal → ℕ
sender_code_for None = 16
sender_code_for (Some e) = sender_code e

-- memory ran out, or it is the code of the reason
abbrev pub IsSenderCode : Option SenderRefusal → ℕ → Type 0
IsSenderCode reason code = (code ≡ 16) ⊎ (option_map sender_code reason ≡ Some code)

-- the reliability that a number names
abbrev pub reliability_named : ℕ → Option ReliabilityType
reliability_named n =
    if n == 0 then Some Reliable
    else (if n == 1 then Some Rexmit else (if n == 2 then Some Timed else None))

-- ## Writing

-- a sender to which nothing was written
abbrev pub new_sender : Transmission → TypedSender
new_sender t = record { own = t; types = [] }

-- the fragments of the message wait, each with the payload type that was given, and each other chunk keeps its own; the message's
-- number, and how many fragments it has, are told
pub record Writes (stream payload_type : ℕ) (bytes : List ℕ) (number fragments : ℕ)
    (old new : TypedSender) : Type 0 where
  pub state : OutboundStream
  pub found : stream_of stream old.own ≡ Some state
  pub typed : All (λ c. type_sent new.types c ≡ payload_type)
      (map (with_message_id number)
      (fragments_with_mode state (payload_type_from payload_type) bytes))
  pub others : (new.types ≡ old.types) ⊎ KeepsTypes (noted number payload_type ∷ old.types)
      new.types new.own.flight.queue
  pub after : new.own ≡ written_to state stream (payload_type_from payload_type) bytes old.own
  pub message : number ≡ old.own.flight.queue.next_message_id
  pub count : fragments
      ≡ length (fragments_with_mode state (payload_type_from payload_type) bytes)

-- ## Sending

-- the chunk with a TSN, and as it is sent so
abbrev pub with_tsn : ℕ → ChunkPayloadData → ChunkPayloadData
with_tsn tsn c = record c { tsn = tsn }

abbrev pub sent_with : List Noted → ℕ → ChunkPayloadData → List ℕ
sent_with rs tsn c = as_sent rs (with_tsn tsn c)

-- the fragment that is next is in flight under the next TSN, and lifetimes start
abbrev pub after_send : ℕ → Transmission → Transmission
after_send now t = with_flight (record t.flight {
  queue = sent_next t.flight.queue t.flight.next_tsn now;
  next_tsn = next_after_send t.flight;
}) t

-- it is sent: its DATA chunk stands at the front of the buffer
pub record Sends (now : ℕ) (out_old out_new : List ℕ) (written tsn : ℕ)
    (old new : TypedSender) : Type 0 where
  pub chunk : ChunkPayloadData
  pub next : next_pending old.own.flight.queue.pending ≡ Some chunk
  pub accepted : send_refusal old.own.flight ≡ None
  pub number : tsn ≡ old.own.flight.next_tsn
  pub bytes : out_new ≡ at_front (padded (sent_with old.types tsn chunk)) out_old
  pub size : written ≡ length (padded (sent_with old.types tsn chunk))
  pub after : new.own ≡ after_send now old.own

-- the chunk in flight with a TSN is sent again: it stands at the front of the buffer
pub record Resends (tsn now : ℕ) (out_old out_new : List ℕ) (written : ℕ)
    (old new : TypedSender) : Type 0 where
  pub chunk : ChunkPayloadData
  pub held : find (has_tsn tsn) old.own.flight.queue.inflight.chunks ≡ Some chunk
  pub outstanding : can_resend tsn old.own.flight ≡ true
  pub bytes : out_new ≡ at_front (padded (as_sent old.types chunk)) out_old
  pub size : written ≡ length (padded (as_sent old.types chunk))
  pub after : new.own ≡ with_flight (resent_at tsn now chunk old.own.flight) old.own
