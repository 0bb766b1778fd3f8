-- What the counters of a sender's stream are: sums over what was written to it.
use Rattle.std.specs.Prelude.{◌≡◌, ℕ, ◌-◌, ◌^◌, ◌==◌, ◌&&◌, All, if◌then◌else◌, length, min}
use Rattle.std.specs.List.{sum_by}
use Rattle.sctp_data.specs.PayloadTypes.{has_bytes, is_counted}
use Rattle.sctp_stream.specs.declared.outbound_stream.OutboundStream.{OutboundStream}
use Rattle.sctp_delivery.specs.SenderCalls.{Write}
use Rattle.sctp_delivery.specs.Session.{Session}

-- a write of the stream is one message, where its payload type is counted
abbrev pub messages_on : ℕ → Write → ℕ
messages_on stream w = if (w.stream == stream) && is_counted w.payload_type then 1 else 0

-- and as many bytes as it has, where those of its payload type are
abbrev pub bytes_on : ℕ → Write → ℕ
bytes_on stream w =
    if (w.stream == stream) && has_bytes w.payload_type then length w.bytes else 0

-- the counters are these sums, up to the greatest number of 64 bits
pub record HasSums (s : Session) (l : OutboundStream) : Type 0 where
  pub messages : l.stats.messages_sent
      ≡ min (sum_by (messages_on l.stream_identifier) s.written) (2 ^ 64 - 1)
  pub bytes : l.stats.bytes_sent
      ≡ min (sum_by (bytes_on l.stream_identifier) s.written) (2 ^ 64 - 1)

-- so it is of each open stream
abbrev pub AreSums : Session → Type 0
AreSums s = All (HasSums s) s.sending.sender.streams
