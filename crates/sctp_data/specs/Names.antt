-- The printed names of error causes (RFC 4960 3.3.10), of payload types (RFC 8831 8) and of reliability types (RFC 8832 5.1).
use Rattle.std.specs.Prelude.{ℕ, List, [], ◌∷◌, codes, Option}
use Rattle.sctp_util.specs.Names.{name_in}
use Rattle.sctp_data.specs.declared.chunk.error_cause.ErrorCauseCode.{ErrorCauseCode}
use Rattle.sctp_data.specs.declared.chunk.chunk_payload_data.PayloadProtocolIdentifier.{PayloadProtocolIdentifier}
use Rattle.sctp_data.specs.declared.chunk.chunk_payload_data.PayloadProtocolIdentifier.TheVariants as types
use Rattle.sctp_data.specs.declared.chunk.chunk_payload_data.ReliabilityType.{ReliabilityType}
use Rattle.sctp_data.specs.declared.chunk.chunk_payload_data.ReliabilityType.TheVariants as reliabilities

abbrev pub cause_code_names : List (ℕ × List ℕ)
cause_code_names =
    (1, codes "Invalid Stream Identifier")
    ∷ (2, codes "Missing Mandatory Parameter")
    ∷ (3, codes "Stale Cookie Error")
    ∷ (4, codes "Out Of Resource")
    ∷ (5, codes "Unresolvable IP")
    ∷ (6, codes "Unrecognized Chunk Type")
    ∷ (7, codes "Invalid Mandatory Parameter")
    ∷ (8, codes "Unrecognized Parameters")
    ∷ (9, codes "No User Data")
    ∷ (10, codes "Cookie Received While Shutting Down")
    ∷ (11, codes "Restart Of An Association With New Addresses")
    ∷ (12, codes "User Initiated Abort")
    ∷ (13, codes "Protocol Violation")
    ∷ []

-- the fixed name of a cause, where it has one
abbrev pub cause_code_name : ErrorCauseCode → Option (List ℕ)
cause_code_name c = name_in cause_code_names c.0

abbrev pub payload_type_name : PayloadProtocolIdentifier → List ℕ
payload_type_name types.Dcep = codes "WebRTC DCEP"
payload_type_name types.String = codes "WebRTC String"
payload_type_name types.Binary = codes "WebRTC Binary"
payload_type_name types.StringEmpty = codes "WebRTC String (Empty)"
payload_type_name types.BinaryEmpty = codes "WebRTC Binary (Empty)"
payload_type_name types.Unknown = codes "Unknown Payload Protocol Identifier"

abbrev pub reliability_name : ReliabilityType → List ℕ
reliability_name reliabilities.Reliable = codes "Reliable"
reliability_name reliabilities.Rexmit = codes "Rexmit"
reliability_name reliabilities.Timed = codes "Timed"
