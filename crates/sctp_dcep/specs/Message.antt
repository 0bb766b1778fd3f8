-- The messages of the Data Channel Establishment Protocol (RFC 8832 5).
use Rattle.std.specs.Prelude.{ℕ, ◌+◌, ◌%◌, ◌^◌, ◌<◌, ◌==◌, nat_lt, nat_le, Bool, true, false, not, if◌then◌else◌, List, [], ◌∷◌, ◌++◌, length, slice_index}
use Rattle.std.specs.Prelude.{slice_range, Option, Some, None, Result, Ok, Err}
use Rattle.sctp_util.specs.Field.{be16, be32, u16_at, u32_at}
use Rattle.sctp_data.specs.Reliability.{reliability_from}
use Rattle.sctp_data.specs.declared.chunk.chunk_payload_data.ReliabilityType.{ReliabilityType}
use Rattle.sctp_data.specs.declared.chunk.chunk_payload_data.ReliabilityType.TheVariants.{Reliable, Rexmit, Timed}
use Rattle.sctp_dcep.specs.declared.fault.Fault.{Fault}
use Rattle.sctp_dcep.specs.declared.fault.Fault.TheVariants.{Empty, UnknownMessageType, TooShort, UnknownChannelType, WrongLength, LabelTooLong}
use Rattle.sctp_dcep.specs.declared.fault.Fault.TheVariants.{ProtocolTooLong}
use Rattle.sctp_dcep.specs.declared.message.Open.{Open}
use Rattle.sctp_dcep.specs.declared.message.Message.{Message}
use Rattle.sctp_dcep.specs.declared.message.Message.TheVariants as messages

-- ---- channel types

-- the channel type (RFC 8832 5.1, 8.2.2)
abbrev pub channel_type : Bool → ReliabilityType → ℕ
channel_type false Reliable = 0x00
channel_type true Reliable = 0x80
channel_type false Rexmit = 0x01
channel_type true Rexmit = 0x81
channel_type false Timed = 0x02
channel_type true Timed = 0x82

-- it is one of the six
abbrev pub is_channel_type : ℕ → Bool
is_channel_type typ = nat_lt (typ % 0x80) 3

-- the reliability parameter of a reliable channel is 0 for a sender, and ignored by a receiver (RFC 8832 5.1)
abbrev pub parameter_of : ReliabilityType → ℕ → ℕ
parameter_of Reliable value = 0
parameter_of Rexmit value = value
parameter_of Timed value = value

-- ---- reading

-- how far sending goes, by the channel type without its highest bit
abbrev pub reliability_in : List ℕ → ReliabilityType
reliability_in bytes = reliability_from (slice_index bytes 1 % 0x80)

-- where the label ends
abbrev pub label_end : List ℕ → ℕ
label_end bytes = 12 + u16_at bytes 8

-- the fields of a DATA_CHANNEL_OPEN (RFC 8832 5.1)
abbrev pub open_in : List ℕ → Open
open_in bytes = record {
  unordered = nat_le 0x80 (slice_index bytes 1);
  reliability = reliability_in bytes;
  value = parameter_of (reliability_in bytes) (u32_at bytes 4);
  priority = u16_at bytes 2;
  label = slice_range bytes 12 (label_end bytes);
  protocol = slice_range bytes (label_end bytes) (length bytes);
}

-- what is read of one: it ends with its protocol
abbrev pub read_open_of : List ℕ → Result Open Fault
read_open_of bytes =
    if nat_lt (length bytes) 12 then Err TooShort
    else (if not (is_channel_type (slice_index bytes 1)) then Err UnknownChannelType
    else (if length bytes == label_end bytes + u16_at bytes 10 then Ok (open_in bytes) else Err WrongLength))

-- that as a message
abbrev pub opened : Result Open Fault → Result Message Fault
opened (Ok o) = Ok (messages.Open o)
opened (Err fault) = Err fault

-- what bytes are read as. A DATA_CHANNEL_ACK has one byte (RFC 8832 5.2); bytes behind it are passed over, since pion sends four
abbrev pub read_of : List ℕ → Result Message Fault
read_of bytes =
    if length bytes == 0 then Err Empty
    else (if slice_index bytes 0 == 2 then Ok messages.Ack
    else (if slice_index bytes 0 == 3 then opened (read_open_of bytes) else Err UnknownMessageType))

-- ---- writing

-- two bytes say how long a label and a protocol are
abbrev pub is_too_long : List ℕ → Bool
is_too_long text = nat_le (2 ^ 16) (length text)

abbrev pub write_refusal : Message → Option Fault
write_refusal messages.Ack = None
write_refusal (messages.Open o) =
    if is_too_long o.label then Some LabelTooLong
    else (if is_too_long o.protocol then Some ProtocolTooLong else None)

-- the numbers of a request fit their fields
pub record FitsFields (o : Open) : Type 0 where
  pub priority : o.priority < 2 ^ 16
  pub value : o.value < 2 ^ 32
  pub label : length o.label < 2 ^ 16
  pub protocol : length o.protocol < 2 ^ 16

-- a DATA_CHANNEL_OPEN (RFC 8832 5.1)
unfoldable pub open_encoding : Open → List ℕ
open_encoding o =
    3 ∷ channel_type o.unordered o.reliability ∷ be16 o.priority ++ be32 (parameter_of o.reliability o.value)
    ++ be16 (length o.label) ++ be16 (length o.protocol) ++ o.label ++ o.protocol

abbrev pub encoding : Message → List ℕ
encoding messages.Ack = 2 ∷ []
encoding (messages.Open o) = open_encoding o

-- the message that its encoding is read as: the parameter of a reliable channel is 0
abbrev pub as_read : Message → Message
as_read messages.Ack = messages.Ack
as_read (messages.Open o) = messages.Open (record o { value = parameter_of o.reliability o.value })
