-- What is told of the next message of a stream.
use Rattle.std.proofs.Common.{◌≡◌, ℕ, ◌-◌, ◌^◌, List, [], ◌∷◌, length, Option, Some, None, ◌<◌, refl, sym, subst, ap, ◌∙◌, arith, length-append}
use Rattle.std.specs.Prelude.{min, option_map, IfSome}
use Rattle.std.proofs.lemmas.List.Sums.{sum_by-cons}
use Rattle.std.proofs.lemmas.Option.{none-some, same_Some}
use Rattle.sctp_data.specs.ChunkSet.{ChunkSet}
use Rattle.sctp_data.specs.declared.chunk.chunk_payload_data.ChunkPayloadData.{ChunkPayloadData}
use Rattle.sctp_data.specs.declared.chunk.chunk_payload_data.PayloadProtocolIdentifier.{PayloadProtocolIdentifier}
use Rattle.sctp_reassembly.specs.reassembly_queue.Fragments.{payload_of}
use Rattle.sctp_reassembly.specs.reassembly_queue.ReassemblyQueue.{ReassemblyState, at_start, message_read}
use Rattle.sctp_reassembly.specs.declared.reassembly_queue.chunks.Chunks.{Chunks}
use Rattle.sctp_receiver.specs.Receiver.{Reception, message_of, message_on}
use Rattle.sctp_receiver.specs.declared.receiver.inbound_streams.InboundStream.{InboundStream}
use Rattle.sctp_serial.specs.DataChunks.{bytes_of}
use Rattle.sctp_c.specs.Receiving.{TellsNext, payload_type_of}

-- what a function makes of an option is there: so is what it is made of
pub made-of : {A B : Type 0} (f : A → B) (o : Option A) (b : B) → Some b ≡ option_map f o → (a : A) × ((o ≡ Some a) × (b ≡ f a))
made-of f None b h = absurd (none-some b (sym h))
made-of f (Some a) b h = (a, (refl, same_Some b (f a) h))

pub payload-size : (cs : List ChunkPayloadData) → bytes_of cs ≡ length (payload_of cs)
payload-size [] = refl
payload-size (c ∷ cs) =
    let a = sum_by-cons (λ (x : ChunkPayloadData). length x.user_data) c cs in
    let b = payload-size cs in
    let d = length-append c.user_data (payload_of cs) in
    omega arith

-- the number is the payload type of the message, if there is one
abbrev pub IsTypeOf : ℕ → Option ChunkSet → Type 0
IsTypeOf n o = IfSome o (λ (m : ChunkSet). n ≡ payload_type_of m.chunks)

-- of an open stream's next message
pub type-on : (n : ℕ) (q : ReassemblyState) (o : Option InboundStream) → Some q ≡ option_map (λ (l : InboundStream). l.queue) o
    → IsTypeOf n (message_read q.held) → IsTypeOf n (message_of o)
type-on n q None h is = tt
type-on n q (Some l) h is = subst (λ (x : ReassemblyState). IsTypeOf n (message_read x.held)) (same_Some q l.queue h) is

-- a stream that is not open has none
pub type-closed : (n : ℕ) (o : Option InboundStream) → None ≡ option_map (λ (l : InboundStream). l.queue) o → IsTypeOf n (message_of o)
type-closed n None h = tt
type-closed n (Some l) h = absurd (none-some l.queue h)

pub type-is : (n : ℕ) (o : Option ChunkSet) (m : ChunkSet) → o ≡ Some m → IsTypeOf n o → n ≡ payload_type_of m.chunks
type-is n o m is typed = subst (IsTypeOf n) is typed

abbrev pub answered : ChunkSet → ℕ × PayloadProtocolIdentifier
answered s = (min (bytes_of s.chunks) (2 ^ 64 - 1), s.ppi)

pub tells-next : (stream size number : ℕ) (ppi : PayloadProtocolIdentifier) (r : Reception) (o : Option (ℕ × PayloadProtocolIdentifier)) → o ≡ Some (size, ppi)
    → o ≡ option_map answered (message_on stream r) → IsTypeOf number (message_on stream r) → TellsNext stream size number r
tells-next stream size number ppi r o is e typed =
    let found = made-of answered (message_on stream r) (size, ppi) (grind (arith, is, e)) in
    record {
      message = found.0;
      next = found.1.0;
      size = ap (λ x. x.0) found.1.1;
      typ = type-is number (message_on stream r) found.0 found.1.0 typed;
    }

-- a buffer that is no shorter than what is told is no shorter than the message
pub not-short : (m : Option ChunkSet) (o : Option (ℕ × PayloadProtocolIdentifier)) (size : ℕ) (ppi : PayloadProtocolIdentifier) (p : Option Chunks)
    (message : Chunks) (n : ℕ) → o ≡ Some (size, ppi) → o ≡ option_map answered m → p ≡ Some message → p ≡ option_map at_start m → (n < size → ⊥) → n < 2 ^ 63
    → n < length (payload_of message.set.chunks) → ⊥
not-short m o size ppi p message n is e there f le small short =
    let found = made-of answered m (size, ppi) (sym is ∙ e) in
    let read = made-of at_start m message (sym there ∙ f) in
    let same : found.0 ≡ read.0 = same_Some found.0 read.0 (sym found.1.0 ∙ read.1.0) in
    let size-is : size ≡ min (bytes_of found.0.chunks) (2 ^ 64 - 1) = ap (λ (x : ℕ × PayloadProtocolIdentifier). x.0) found.1.1 in
    let chunks : found.0.chunks ≡ message.set.chunks = ap (λ (s : ChunkSet). s.chunks) same ∙ sym (ap (λ (x : Chunks). x.set.chunks) read.1.1) in
    let bytes : bytes_of found.0.chunks ≡ length (payload_of message.set.chunks) = ap bytes_of chunks ∙ payload-size message.set.chunks in
    grind (arith, size-is, bytes, le, small, short)
