-- Messages of the Data Channel Establishment Protocol (RFC 8832 5).
use Rattle.std.specs.Prelude.{◌≡◌, ℕ, ◌+◌, ◌⊎◌, List, length, slice_index, slice_range}
use Rattle.sctp_util.specs.Field.{u16_at, u32_at}
use Rattle.sctp_show.specs.declared.dcep.Open.{Open}
use Rattle.sctp_show.specs.declared.dcep.Message.{Message}
use Rattle.sctp_show.specs.declared.dcep.Message.TheVariants as messages

-- a DATA_CHANNEL_OPEN: type 3, its fields, then the label and the protocol, to the last byte
pub record IsOpen (bytes : List ℕ) (o : Open) : Type 0 where
  pub long : length bytes ≡ 12 + u16_at bytes 8 + u16_at bytes 10
  pub typ : slice_index bytes 0 ≡ 3
  pub channel_type : o.channel_type ≡ slice_index bytes 1
  pub priority : o.priority ≡ u16_at bytes 2
  pub reliability : o.reliability ≡ u32_at bytes 4
  pub label : o.label.now ≡ slice_range bytes 12 (12 + u16_at bytes 8)
  pub protocol : o.protocol.now ≡ slice_range bytes (12 + u16_at bytes 8) (length bytes)

-- a DATA_CHANNEL_ACK is its type, 2, in one byte (RFC 8832 5.2), or with three more behind it, as some stacks send it
pub record IsAck (bytes : List ℕ) : Type 0 where
  pub long : (length bytes ≡ 1) ⊎ (length bytes ≡ 4)
  pub typ : slice_index bytes 0 ≡ 2

abbrev pub IsMessage : List ℕ → Message → Type 0
IsMessage bytes messages.Ack = IsAck bytes
IsMessage bytes (messages.Open o) = IsOpen bytes o
