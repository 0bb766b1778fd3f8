-- Messages of channels (RFC 8831 6.6, 8).
use Rattle.std.specs.Prelude.{◌≡◌, ℕ, Bool, true, false, if◌then◌else◌, List, [], ◌∷◌, Some}
use Rattle.sctp_association.specs.Waiting.{opened}
use Rattle.sctp_association.specs.declared.association.Association.{Association}
use Rattle.sctp_data.specs.declared.chunk.chunk_payload_data.PayloadProtocolIdentifier.{PayloadProtocolIdentifier}
use Rattle.sctp_data.specs.declared.chunk.chunk_payload_data.PayloadProtocolIdentifier.TheVariants.{Dcep, String, Binary, StringEmpty, BinaryEmpty, Unknown}
use Rattle.sctp_dcep.specs.Message.{encoding}
use Rattle.sctp_dcep.specs.declared.message.Message.TheVariants as message
use Rattle.sctp_dcep.specs.declared.message.Open as request
use Rattle.sctp_sender.specs.Sender.{stream_of, with_mode_on, written_to}
use Rattle.sctp_stream.specs.declared.outbound_stream.OutboundStream.{OutboundStream}

-- ## What is written

-- the payload type of text, or of bytes; an empty message has one of its own
abbrev pub kind_of : Bool → List ℕ → PayloadProtocolIdentifier
kind_of true [] = StringEmpty
kind_of true (b ∷ bytes) = String
kind_of false [] = BinaryEmpty
kind_of false (b ∷ bytes) = Binary

-- an empty message is sent as one byte
abbrev pub sent_of : List ℕ → List ℕ
sent_of [] = 0 ∷ []
sent_of (b ∷ bytes) = b ∷ bytes

-- the sender of the association has taken the message on the stream, and nothing else of what it sends has changed
abbrev pub IsHanded : ℕ → PayloadProtocolIdentifier → List ℕ → Association → Association → Type 0
IsHanded stream ppi bytes old new = (l : OutboundStream)
    → stream_of stream (opened stream old.outbound.sender) ≡ Some l
    → new.outbound ≡ record old.outbound {
      sender = written_to l stream ppi bytes (opened stream old.outbound.sender);
    }

-- ## What is read

abbrev pub is_text_kind : PayloadProtocolIdentifier → Bool
is_text_kind Dcep = false
is_text_kind String = true
is_text_kind Binary = false
is_text_kind StringEmpty = true
is_text_kind BinaryEmpty = false
is_text_kind Unknown = false

abbrev pub is_empty_kind : PayloadProtocolIdentifier → Bool
is_empty_kind Dcep = false
is_empty_kind String = false
is_empty_kind Binary = false
is_empty_kind StringEmpty = true
is_empty_kind BinaryEmpty = true
is_empty_kind Unknown = false

-- an empty message has no bytes, though one came
abbrev pub bytes_in : PayloadProtocolIdentifier → List ℕ → List ℕ
bytes_in ppi bytes = if is_empty_kind ppi then [] else bytes

-- ## What opens a channel

-- the mode of the stream is set as the request says, but in order, and DATA_CHANNEL_OPEN is written on it (RFC 8832 5.1, 6)
pub record IsOpened (stream : ℕ) (o : request.Open) (old new : Association) : Type 0 where
  pub mid : Association
  pub mode : mid.outbound ≡ record old.outbound {
    sender = with_mode_on stream false o.reliability o.value (opened stream old.outbound.sender);
  }
  pub written : IsHanded stream Dcep (encoding (message.Open o)) mid new
