-- What the counters of a receiver's streams say, after each run of its calls.
use Rattle.std.specs.Prelude.{◌≡◌, ℕ, ◌-◌, ◌^◌, ◌==◌, min, Bool, true, false, if◌then◌else◌, List, [], ◌∷◌, length, option_map, Option, Some, None, IfSome}
use Rattle.std.specs.List.{filter, sum_by}
use Rattle.sctp_data.specs.declared.chunk.chunk_payload_data.PayloadProtocolIdentifier.{PayloadProtocolIdentifier}
use Rattle.sctp_data.specs.declared.chunk.chunk_payload_data.PayloadProtocolIdentifier.TheVariants.{String, Binary, StringEmpty, BinaryEmpty}
use Rattle.sctp_data.specs.ChunkSet.{ChunkSet}
use Rattle.sctp_receiver.specs.Beside.{AfterEachRunBeside}
use Rattle.sctp_receiver.specs.Receiver.{Reception, message_on, stream_of}
use Rattle.sctp_receiver.specs.ReceiverRuns.{Call, closes, opens, reads}
use Rattle.sctp_serial.specs.DataChunks.{bytes_of}
use Rattle.sctp_stream.specs.declared.stream.DataChannelStats.{DataChannelStats}

-- a message of a channel (RFC 8831 8.1)
abbrev pub is_of_channel : PayloadProtocolIdentifier → Bool
is_of_channel String = true
is_of_channel Binary = true
is_of_channel StringEmpty = true
is_of_channel BinaryEmpty = true
is_of_channel _ = false

-- its bytes; the one byte that is sent in place of none is not counted (RFC 8831 6.6)
abbrev pub channel_bytes : PayloadProtocolIdentifier → ℕ → ℕ
channel_bytes String bytes = bytes
channel_bytes Binary bytes = bytes
channel_bytes _ bytes = 0

-- the messages that were read on a stream since it was opened, the last one first
abbrev pub with_read : Option ChunkSet → List ChunkSet → List ChunkSet
with_read None ms = ms
with_read (Some set) ms = set ∷ ms

abbrev pub read_since : ℕ → Call → Reception → List ChunkSet → List ChunkSet
read_since stream (opens s) r ms = if s == stream then [] else ms
read_since stream (closes s) r ms = if s == stream then [] else ms
read_since stream (reads s) r ms = if s == stream then with_read (message_on s r) ms else ms
read_since stream _ r ms = ms

-- the counters that `stats` answers
abbrev pub stats_on : ℕ → Reception → Option DataChannelStats
stats_on stream r = option_map (λ l. l.stats) (stream_of stream r)

-- they are these messages, and their bytes, each up to the greatest u64
pub record Count (ms : List ChunkSet) (stats : DataChannelStats) : Type 0 where
  pub messages : stats.messages_received
      ≡ min (length (filter (λ m. is_of_channel m.ppi) ms)) (2 ^ 64 - 1)
  pub bytes : stats.bytes_received
      ≡ min (sum_by (λ m. channel_bytes m.ppi (bytes_of m.chunks)) ms) (2 ^ 64 - 1)

-- after each run, those of each stream count what was read there
abbrev pub CountersAreSums : Type 0
CountersAreSums =
    (stream : ℕ)
    → AfterEachRunBeside (read_since stream) [] (λ s ms. IfSome (stats_on stream s.receiver) (Count ms))
