-- A peer resets a stream that it sends on (RFC 6525 5.2.2).
use Rattle.std.specs.Prelude.{ℕ, Bool, false, if◌then◌else◌, Option, Some, None}
use Rattle.std.specs.List.{list_any}
use Rattle.sctp_util.specs.Lists.{change_where}
use Rattle.sctp_util.specs.Serial.{comes_before}
use Rattle.sctp_reassembly.specs.reassembly_queue.Resets.{is_old_message, after_reset}
use Rattle.sctp_receiver.specs.declared.receiver.inbound_streams.InboundStream.{InboundStream}
use Rattle.sctp_receiver.specs.declared.receiver.refusal.ReceiverRefusal.{ReceiverRefusal}
use Rattle.sctp_receiver.specs.declared.receiver.refusal.ReceiverRefusal.TheVariants.{StreamUnknown, ResetInProgress}
use Rattle.sctp_receiver.specs.Inbound.{has_number}
use Rattle.sctp_receiver.specs.Receiver.{Reception, stream_of, is_open}

abbrev pub stream_reset : ℕ → InboundStream → InboundStream
stream_reset last l = record l { queue = after_reset last l.queue }

-- its queue begins anew behind the last TSN; its counters stay, and all TSNs
abbrev pub reset_stream : ℕ → ℕ → Reception → Reception
reset_stream s last r =
    record r { streams = change_where (has_number s) (stream_reset last) r.streams }

-- while the cumulative TSN is before the last one, chunks that were sent before may still come
abbrev pub reset_refusal : ℕ → ℕ → Reception → Option ReceiverRefusal
reset_refusal s last r =
    if is_open s r then (if comes_before r.cumulative_tsn last then Some ResetInProgress else None)
    else Some StreamUnknown

abbrev pub keeps_message : ℕ → Option InboundStream → Bool
keeps_message last None = false
keeps_message last (Some l) = list_any (is_old_message last) l.queue.held.ordered

-- whether memory may be asked for: a complete ordered message is to be kept
abbrev pub reset_takes_memory : ℕ → ℕ → Reception → Bool
reset_takes_memory s last r = keeps_message last (stream_of s r)
