-- Worked examples of the definitions.
use Rattle.std.proofs.Common.{◌≡◌, true, false, [], ◌∷◌, codes, refl, Some, None, Ok, Err}
use Rattle.sctp_util.specs.Field.{be16, be32, u16_at, u32_at}
use Rattle.sctp_data.specs.declared.chunk.chunk_payload_data.ReliabilityType.TheVariants.{Reliable, Rexmit, Timed}
use Rattle.sctp_dcep.specs.declared.fault.Fault.TheVariants.{Empty, UnknownMessageType, TooShort, UnknownChannelType, WrongLength}
use Rattle.sctp_dcep.specs.declared.message.Message.TheVariants.{Ack, Open}
use Rattle.sctp_dcep.specs.Message.{encoding, open_encoding, read_of}
use Rattle.sctp_dcep.specs.Side.{next_of}

-- type, channel type, priority, reliability parameter, both lengths, label, protocol (RFC 8832 5.1): a reliable channel "chat" of priority 256
chat_bytes : encoding (Open (record { unordered = false; reliability = Reliable; value = 0; priority = 256; label = codes "chat"; protocol = codes "bob" }))
    ≡ 3 ∷ 0 ∷ 1 ∷ 0 ∷ 0 ∷ 0 ∷ 0 ∷ 0 ∷ 0 ∷ 4 ∷ 0 ∷ 3 ∷ 99 ∷ 104 ∷ 97 ∷ 116 ∷ 98 ∷ 111 ∷ 98 ∷ []
unfolding open_encoding be16 be32
chat_bytes = refl

-- an unordered channel without a name whose messages live for 500 milliseconds
timed_bytes : encoding (Open (record { unordered = true; reliability = Timed; value = 500; priority = 0; label = []; protocol = [] }))
    ≡ 3 ∷ 0x82 ∷ 0 ∷ 0 ∷ 0 ∷ 0 ∷ 1 ∷ 244 ∷ 0 ∷ 0 ∷ 0 ∷ 0 ∷ []
unfolding open_encoding be16 be32
timed_bytes = refl

-- the parameter of a reliable channel is ignored
reads_parameter : read_of (3 ∷ 0x80 ∷ 0 ∷ 1 ∷ 9 ∷ 9 ∷ 9 ∷ 9 ∷ 0 ∷ 1 ∷ 0 ∷ 0 ∷ 97 ∷ [])
    ≡ Ok (Open (record { unordered = true; reliability = Reliable; value = 0; priority = 1; label = codes "a"; protocol = [] }))
unfolding u16_at u32_at
reads_parameter = refl

reads_rexmit : read_of (3 ∷ 1 ∷ 0 ∷ 0 ∷ 0 ∷ 0 ∷ 0 ∷ 3 ∷ 0 ∷ 0 ∷ 0 ∷ 1 ∷ 98 ∷ [])
    ≡ Ok (Open (record { unordered = false; reliability = Rexmit; value = 3; priority = 0; label = []; protocol = codes "b" }))
unfolding u16_at u32_at
reads_rexmit = refl

-- an acknowledgement of one byte (RFC 8832 5.2), and of four as pion sends it
reads_ack : read_of (2 ∷ []) ≡ Ok Ack
reads_ack = refl

reads_padded_ack : read_of (2 ∷ 0 ∷ 0 ∷ 0 ∷ []) ≡ Ok Ack
reads_padded_ack = refl

-- what is refused
no_byte : read_of [] ≡ Err Empty
no_byte = refl

other_type : read_of (1 ∷ []) ≡ Err UnknownMessageType
other_type = refl

cut_off : read_of (3 ∷ 0 ∷ 0 ∷ 0 ∷ 0 ∷ 0 ∷ 0 ∷ 0 ∷ 0 ∷ 0 ∷ 0 ∷ []) ≡ Err TooShort
cut_off = refl

other_channel : read_of (3 ∷ 3 ∷ 0 ∷ 0 ∷ 0 ∷ 0 ∷ 0 ∷ 0 ∷ 0 ∷ 0 ∷ 0 ∷ 0 ∷ []) ≡ Err UnknownChannelType
unfolding u16_at
other_channel = refl

byte_behind : read_of (3 ∷ 0 ∷ 0 ∷ 0 ∷ 0 ∷ 0 ∷ 0 ∷ 0 ∷ 0 ∷ 0 ∷ 0 ∷ 0 ∷ 7 ∷ []) ≡ Err WrongLength
unfolding u16_at
byte_behind = refl

-- the last numbers of both sides
last_even : next_of 65532 ≡ Some 65534
last_even = refl

no_even : next_of 65534 ≡ None
no_even = refl

no_odd : next_of 65533 ≡ None
no_odd = refl
