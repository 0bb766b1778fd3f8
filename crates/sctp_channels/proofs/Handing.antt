-- A message that has bytes is sent as it is.
use Rattle.std.proofs.Common.{◌≡◌, ℕ, ◌<◌, Bool, true, false, List, [], ◌∷◌, if◌then◌else◌, length, refl, ap, arith}
use Rattle.sctp_channels.specs.Messages.{kind_of, sent_of}
use Rattle.sctp_dcep.specs.Message.{encoding, open_encoding}
use Rattle.sctp_dcep.specs.declared.message.Message.{Message}
use Rattle.sctp_dcep.specs.declared.message.Message.TheVariants as message
use Rattle.sctp_dcep.specs.declared.message.Open as request
use Rattle.sctp_data.specs.declared.chunk.chunk_payload_data.PayloadProtocolIdentifier.TheVariants.{String, Binary}

pub kind_is : (b : Bool) (bytes : List ℕ) → 0 < length bytes → kind_of b bytes ≡ (if b then String else Binary)
kind_is true [] h = absurd (omega (arith, h))
kind_is false [] h = absurd (omega (arith, h))
kind_is true (x ∷ bytes) h = refl
kind_is false (x ∷ bytes) h = refl

pub sent_is : (bytes : List ℕ) → 0 < length bytes → sent_of bytes ≡ bytes
sent_is [] h = absurd (omega (arith, h))
sent_is (x ∷ bytes) h = refl

pub open_some : (o : request.Open) → 0 < length (encoding (message.Open o))
unfolding open_encoding
open_some o = omega arith

-- the request of a message, or this one
request_in : request.Open → Message → request.Open
request_in o message.Ack = o
request_in _ (message.Open o) = o

pub open_same : (a b : request.Open) → message.Open a ≡ message.Open b → a ≡ b
unfolding request_in
open_same a b same = ap (request_in a) same
