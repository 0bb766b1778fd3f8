-- What is written of chunks.
use Rattle.std.proofs.Common.{◌≡◌, ℕ, zero, suc, ◌+◌, ◌-◌, ◌<◌, ◌≤◌, List, [], ◌∷◌, ◌++◌, length, get_or, take, replicate, refl, arith, ap, ◌∙◌, length-append}
use Rattle.std.proofs.Common.{append_assoc, inl, inr}
use Rattle.std.specs.Prelude.{map, min}
use Rattle.std.specs.List.{AllByRecursion}
use Rattle.std.proofs.lemmas.Bool.{cases_lt}
use Rattle.std.proofs.lemmas.List.{length-replicate}
use Rattle.std.proofs.lemmas.List.Concat.{flat_map-cons}
use Rattle.sctp_util.specs.declared.error.Error.{Error}
use Rattle.sctp_util.specs.Padding.{padding_of}
use Rattle.sctp_chunks.specs.declared.chunk.chunk_kind.ChunkKind.{ChunkKind}
use Rattle.sctp_chunks.specs.Kind.{wire_of}
use Rattle.sctp_chunks.specs.Wire.{Wire, HasEncoding, encoding_of, value_of}
use Rattle.sctp_chunks.specs.Check.{EncodingFault, IsEncodingError}
use Rattle.sctp_chunks.proofs.Encodings.{no_encoding}
use Rattle.sctp_util.specs.Field.{be16, le32}
use Rattle.sctp_util.specs.Padding.{four_zeroes}
use Rattle.sctp_util.proofs.Fields.{length_be16, length_le32}
use Rattle.sctp_packets.specs.Packet.{Parts, padded_encoding, body_of, head_of, packet_encoding}
use Rattle.sctp_packets.specs.Fault.{FirstEncodingFault, LacksRoom}
use Rattle.sctp_packets.proofs.Sealed.{length_head_encoding}

-- chunks that have an encoding, and then one that has none
pub first_fault_at : (e : Error) (cs : List ChunkKind) (i : ℕ) (d : ChunkKind) → i < length cs → AllByRecursion HasEncoding (map wire_of (take i cs))
    → EncodingFault e (wire_of (get_or cs i d)) → FirstEncodingFault e (map wire_of cs)
first_fault_at e [] i d lt encodings fault = absurd (omega arith)
first_fault_at e (c ∷ cs) zero d lt encodings fault = inl fault
first_fault_at e (c ∷ cs) (suc i) d lt encodings fault = inr (encodings.0, first_fault_at e cs i d (omega arith) encodings.1 fault)

-- chunks that have an encoding, and one more
pub encodings_next : (cs : List ChunkKind) (i : ℕ) (d : ChunkKind) → i < length cs → AllByRecursion HasEncoding (map wire_of (take i cs))
    → HasEncoding (wire_of (get_or cs i d)) → AllByRecursion HasEncoding (take (suc i) (map wire_of cs))
encodings_next [] i d lt encodings encoding = absurd (omega arith)
encodings_next (c ∷ cs) zero d lt encodings encoding = (encoding, tt)
encodings_next (c ∷ cs) (suc i) d lt encodings encoding = (encodings.0, encodings_next cs i d (omega arith) encodings.1 encoding)

-- an encoding and its padding, appended one after the other
pub padded_after : (old new after : List ℕ) (w : Wire) (padding : ℕ) → new ≡ old ++ encoding_of w → padding ≡ padding_of (length new - length old)
    → after ≡ new ++ replicate padding 0 → after ≡ old ++ padded_encoding w
unfolding padded_encoding
padded_after old new after w padding written counted filled =
    let encoding : List ℕ = encoding_of w in
    let len : length new - length old ≡ length encoding = omega (arith, ap length written, length-append old encoding) in
    filled ∙ rw (counted, len, written, append_assoc) refl

pub length_encoding : (w : Wire) → length (encoding_of w) ≡ 4 + length (value_of w)
length_encoding w = omega (arith, length-append (be16 (4 + length (value_of w))) (value_of w), length_be16 (4 + length (value_of w)))

-- how much a chunk takes with its padding
pub length_padded_encoding : (w : Wire) → length (padded_encoding w) ≡ 4 + length (value_of w) + padding_of (4 + length (value_of w))
unfolding padded_encoding
length_padded_encoding w = rw (length-append, length-replicate, length_encoding w) refl

length_body : (w : Wire) (ws : List Wire) → length (body_of (w ∷ ws)) ≡ length (padded_encoding w) + length (body_of ws)
length_body w ws = rw (flat_map-cons, length-append) refl

-- how much the chunks up to a place and the one there take
pub length_body_next : (cs : List ChunkKind) (i : ℕ) (d : ChunkKind) → i < length cs
    → length (body_of (take (suc i) (map wire_of cs))) ≡ length (body_of (map wire_of (take i cs))) + length (padded_encoding (wire_of (get_or cs i d)))
length_body_next [] i d lt = absurd (omega arith)
length_body_next (c ∷ cs) zero d lt = omega (arith, length_body (wire_of c) [])
length_body_next (c ∷ cs) (suc i) d lt =
    let more = length_body_next cs i d (omega arith) in
    let here = length_body (wire_of c) (map wire_of (take i cs)) in
    let next = length_body (wire_of c) (take (suc i) (map wire_of cs)) in
    omega (arith, more, here, next)

-- the first chunks take no more than all of them
pub length_body_take : (n : ℕ) (ws : List Wire) → length (body_of (take n ws)) ≤ length (body_of ws)
length_body_take zero ws = omega arith
length_body_take (suc n) [] = omega arith
length_body_take (suc n) (w ∷ ws) = omega (arith, length_body_take n ws, length_body w ws, length_body w (take n ws))

pub length_packet_encoding : (sum : List ℕ → ℕ) (p : Parts) → length (packet_encoding sum p) ≡ 12 + length (body_of p.chunks)
length_packet_encoding sum p =
    let total = sum (head_of p ++ four_zeroes ++ body_of p.chunks) in
    omega (
      arith,
      length-append (head_of p ++ le32 total) (body_of p.chunks),
      length-append (head_of p) (le32 total),
      length_le32 total,
      length_head_encoding p.source_port p.destination_port p.verification_tag,
    )

-- room for the encoding of a packet is room for its header and its first chunks
pub lacks_encoding : (sum : List ℕ → ℕ) (room : ℕ) (p : Parts) → LacksRoom room 12 p.chunks → room < length (packet_encoding sum p)
lacks_encoding sum room p lacks = omega (arith, lacks.2, length_body_take lacks.0 p.chunks, length_packet_encoding sum p)

-- what lacks room with more of it lacks it with less
pub less_room : (room more head : ℕ) (ws : List Wire) → room ≤ more → LacksRoom more head ws → LacksRoom room head ws
less_room room more head ws le lacks = (lacks.0, lacks.1, omega (arith, le, lacks.2))

-- a packet whose writing names a fault has no encoding
pub no_packet_encoding : (e : Error) (ws : List Wire) → FirstEncodingFault e ws → IsEncodingError e × (AllByRecursion HasEncoding ws → ⊥)
no_packet_encoding e [] fault = absurd fault
no_packet_encoding e (w ∷ ws) (inl fault) = let n = no_encoding e w fault in (n.0, λ all. n.1 all.0)
no_packet_encoding e (w ∷ ws) (inr more) = let n = no_packet_encoding e ws more.1 in (n.0, λ all. n.1 all.1)

-- a length with its padding, up to the greatest number
pub padded_up : (top value len sum : ℕ) → len ≡ min (min value top + 4) top → sum ≡ min (len + padding_of len) top
    → sum ≡ min (4 + value + padding_of (4 + value)) top
padded_up top value len sum is-len is-sum =
    elim (cases_lt top (4 + value)) [
      | inr fits ↦
          let exact : len ≡ 4 + value = omega (arith, is-len, fits) in
          rw exact at is-sum
      | inl over ↦ omega (arith, is-len, is-sum, over)
    ]
