-- What the payload type of a message decides (RFC 8831 6.6, RFC 8832 6).
use Rattle.std.specs.Prelude.{ℕ, Bool, true, false, ◌||◌, not, if◌then◌else◌, Option, Some, None}
use Rattle.sctp_data.specs.declared.chunk.chunk_payload_data.PayloadProtocolIdentifier.{PayloadProtocolIdentifier}
use Rattle.sctp_data.specs.declared.chunk.chunk_payload_data.PayloadProtocolIdentifier.TheVariants.{Dcep, String, Binary, StringEmpty, BinaryEmpty}

-- a message that establishes a channel
abbrev pub is_dcep : PayloadProtocolIdentifier → Bool
is_dcep Dcep = true
is_dcep _ = false

-- a message is ordered where its stream is, and a DCEP message always
abbrev pub is_ordered : Bool → PayloadProtocolIdentifier → Bool
is_ordered unordered ppi = is_dcep ppi || not unordered

-- a payload type whose bytes are counted: text and binary
abbrev pub has_bytes : PayloadProtocolIdentifier → Bool
has_bytes String = true
has_bytes Binary = true
has_bytes _ = false

-- a payload type whose messages are counted: those and the two empty kinds
abbrev pub is_counted : PayloadProtocolIdentifier → Bool
is_counted StringEmpty = true
is_counted BinaryEmpty = true
is_counted ppi = has_bytes ppi

-- the bytes that a message of so many bytes counts for, where it is counted
abbrev pub counted_as : PayloadProtocolIdentifier → ℕ → Option ℕ
counted_as ppi bytes = if is_counted ppi then Some (if has_bytes ppi then bytes else 0) else None
