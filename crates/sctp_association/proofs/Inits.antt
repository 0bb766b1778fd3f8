-- An INIT of a packet that is written, read where it lies.
use Rattle.std.proofs.Common.{◌≡◌, ℕ, zero, suc, ◌<◌, ◌≤◌, Bool, true, false, List, [], ◌∷◌, ◌++◌, length, drop, replicate, refl, sym, ap, ◌∙◌}
use Rattle.std.proofs.Common.{append_assoc, arith, inl, inr, length-append, subst}
use Rattle.std.proofs.lemmas.Bool.{false≢true}
use Rattle.std.proofs.lemmas.List.{drop-drop, drop_at, length-replicate}
use Rattle.std.proofs.lemmas.List.Concat.{flat_map-cons}
use Rattle.std.specs.List.{AllByRecursion, AllZip}
use Rattle.std.specs.Prelude.{Contains, slice_index_or}
use Rattle.sctp_util.proofs.Fields.{length_le32}
use Rattle.sctp_util.specs.Field.{le32}
use Rattle.sctp_util.specs.Padding.{four_zeroes, padded_length, padding_of}
use Rattle.sctp_chunks.proofs.Again.{framed_declared, framed_value}
use Rattle.sctp_chunks.specs.Framing.{declared_length, type_at, value_at}
use Rattle.sctp_chunks.specs.Init.{Init, ack_type}
use Rattle.sctp_chunks.specs.Wire.{HasEncoding, Wire, encoding_of, flags_of, init_chunk, type_of, value_of}
use Rattle.sctp_datagram.specs.Carried.{IsChunkOf}
use Rattle.sctp_datagram.specs.Places.{IsThere, Passes, TellsAll, behind, place_at}
use Rattle.sctp_datagram.specs.Types.{is_stopping}
use Rattle.sctp_datagram.specs.declared.datagram.ChunkPlace.{ChunkPlace}
use Rattle.sctp_packets.proofs.Sealed.{length_head_encoding}
use Rattle.sctp_packets.proofs.Written.{length_encoding}
use Rattle.sctp_packets.specs.Packet.{HavePacketEncoding, Parts, body_of, head_of, packet_encoding, padded_encoding}

-- an item of the one list has its partner in the other
partner : {A B : Type 0} (R : A → B → Type 0) (xs : List A) (ys : List B) → AllZip R xs ys → (x : A) (k : ℕ) → k < length xs → slice_index_or xs k x ≡ x
    → (y : B) × Contains ys y × R x y
partner R [] ys z x k lt is = absurd (omega (arith, lt))
partner R (a ∷ xs) [] z x k lt is = absurd z
partner {A} {B} R (a ∷ xs) (b ∷ ys) z x zero lt is = (b, (0, omega arith, refl), subst (λ (v : A). R v b) is z.0)
partner R (a ∷ xs) (b ∷ ys) z x (suc k) lt is =
    let h = partner R xs ys z.1 x k (omega (arith, lt)) is in
    (h.0, (suc h.1.0, omega (arith, h.1.1), h.1.2), h.2)

-- ## One chunk

abbrev pad : Wire → List ℕ
pad w = replicate (padding_of (length (encoding_of w))) 0

body-next : (w : Wire) (ws : List Wire) → body_of (w ∷ ws) ≡ encoding_of w ++ (pad w ++ body_of ws)
unfolding padded_encoding
body-next w ws = rw flat_map-cons (append_assoc (encoding_of w) (pad w) (body_of ws))

body-long : (w : Wire) (ws : List Wire) → 4 ≤ length (body_of (w ∷ ws))
body-long w ws =
    omega (arith, ap (λ (l : List ℕ). length l) (body-next w ws), length-append (encoding_of w) (pad w ++ body_of ws), length_encoding w)

-- the bytes begin with the chunk, and others follow
record Starts (bytes : List ℕ) (w : Wire) (ws : List Wire) : Type 0 where
  typ : type_at bytes ≡ type_of w
  value : value_at bytes ≡ value_of w
  next : drop (padded_length (declared_length bytes)) bytes ≡ body_of ws

module _ (w : Wire) (ws : List Wire) (short : HasEncoding w) where
  abbrev whole : List ℕ
  whole = encoding_of w ++ (pad w ++ body_of ws)

  span : length (encoding_of w ++ pad w) ≡ padded_length (declared_length whole)
  span = rw (framed_declared (type_of w) (flags_of w) (value_of w) (pad w ++ body_of ws) short.1) (omega (
    arith,
    length-append (encoding_of w) (pad w),
    length_encoding w,
    length-replicate {A = ℕ} (padding_of (length (encoding_of w))) 0,
  ))

  starts : (bytes : List ℕ) → bytes ≡ body_of (w ∷ ws) → Starts bytes w ws
  starts bytes is = subst (λ (b : List ℕ). Starts b w ws) (sym (is ∙ body-next w ws)) (record {
    typ = refl;
    value = framed_value (type_of w) (flags_of w) (value_of w) (pad w ++ body_of ws) short.1;
    next = ap (drop (padded_length (declared_length whole))) (sym (append_assoc (encoding_of w) (pad w) (body_of ws)))
        ∙ drop_at (encoding_of w ++ pad w) (body_of ws) _ span;
  })

-- none stops the reading
ack-goes : (b : Bool) → is_stopping (ack_type b) ≡ false
ack-goes true = refl
ack-goes false = refl

goes : (w : Wire) → is_stopping (type_of w) ≡ false
goes (init_chunk i) = ack-goes i.is_ack
goes _ = refl

-- of the types 1 and 2 there are INIT and INIT ACK alone
is-init : (b : Bool) (w : Wire) → type_of w ≡ ack_type b → (i : Init) × (w ≡ init_chunk i) × (ack_type i.is_ack ≡ ack_type b)
is-init b (init_chunk i) e = (i, refl, e)
is-init true _ e = absurd (omega (arith, e))
is-init false _ e = absurd (omega (arith, e))

-- ## The places of a packet

-- the value stands there as it was put
abbrev Holds : List ℕ → ChunkPlace → Wire → Type 0
Holds packet place w = (place.typ ≡ type_of w) × (value_at (drop place.at packet) ≡ value_of w)

later : (packet : List ℕ) (at : ℕ) (w : Wire) (ws : List Wire) → Starts (drop at packet) w ws → drop (behind packet at) packet ≡ body_of ws
later packet at w ws s = sym (drop-drop (padded_length (declared_length (drop at packet))) at packet) ∙ s.next

-- no chunk is there where none is left
none-there : (packet : List ℕ) (at : ℕ) → drop at packet ≡ [] → IsThere (drop at packet) → ⊥
none-there packet at none there = omega (arith, ap (λ (l : List ℕ). length l) none, there.is_framed.headed)

module _ (packet : List ℕ) where
  told : (at : ℕ) (places : List ChunkPlace) (end : ℕ) (ws : List Wire) → AllByRecursion HasEncoding ws → drop at packet ≡ body_of ws
      → Passes place_at packet at places end → drop end packet ≡ [] → AllZip (Holds packet) places ws
  told at [] end [] short is passes ended = tt
  told at [] end (w ∷ ws) short is passes ended =
      let none : drop at packet ≡ [] = ap (λ (k : ℕ). drop k packet) passes ∙ ended in
      absurd (omega (arith, ap (λ (l : List ℕ). length l) (sym none ∙ is), body-long w ws))
  told at (p ∷ places) end [] short is passes ended = absurd (none-there packet at is passes.1)
  told at (p ∷ places) end (w ∷ ws) short is passes ended =
      let s = starts w ws short.0 (drop at packet) is in (
        subst (λ (q : ChunkPlace). Holds packet q w) (sym passes.0) (s.typ, s.value),
        told (behind packet at) places end ws short.1 (later packet at w ws s) passes.3 ended,
      )

  -- the reading does not stop before
  no-stop : (at : ℕ) (places : List ChunkPlace) (end : ℕ) (ws : List Wire) → AllByRecursion HasEncoding ws → drop at packet ≡ body_of ws
      → Passes place_at packet at places end → IsThere (drop end packet) → is_stopping (type_at (drop end packet)) ≡ true → ⊥
  no-stop at [] end [] short is passes there stops = none-there packet end (ap (λ (k : ℕ). drop k packet) (sym passes) ∙ is) there
  no-stop at [] end (w ∷ ws) short is passes there stops =
      let s = starts w ws short.0 (drop at packet) is in
      false≢true (sym (ap is_stopping s.typ ∙ goes w) ∙ ap (λ (k : ℕ). is_stopping (type_at (drop k packet))) passes ∙ stops)
  no-stop at (p ∷ places) end [] short is passes there stops = none-there packet at is passes.1
  no-stop at (p ∷ places) end (w ∷ ws) short is passes there stops =
      no-stop (behind packet at) places end ws short.1 (later packet at w ws (starts w ws short.0 (drop at packet) is)) passes.3 there stops

  all-told : (places : List ChunkPlace) (ws : List Wire) → AllByRecursion HasEncoding ws → drop 12 packet ≡ body_of ws → TellsAll place_at packet places
      → AllZip (Holds packet) places ws
  all-told places ws short is all = elim all.ended [
    | inl e ↦ subst (λ (ps : List ChunkPlace). AllZip (Holds packet) ps ws) (sym e.1) (told 12 all.passed all.end ws short is all.passes e.0)
    | inr e ↦ absurd (no-stop 12 all.passed all.end ws short is all.passes e.0 e.1)
  ]

-- an INIT or an INIT ACK that is read was put, and its value is that
module _ (sum : List ℕ → ℕ) (p : Parts) (encodings : HavePacketEncoding p) where
  abbrev bytes : List ℕ
  bytes = packet_encoding sum p

  -- the chunks begin behind the header
  body : drop 12 bytes ≡ body_of p.chunks
  body =
      let total = sum (head_of p ++ four_zeroes ++ body_of p.chunks) in
      let eight = length_head_encoding p.source_port p.destination_port p.verification_tag in
      drop_at (head_of p ++ le32 total) (body_of p.chunks) 12 (omega (arith, length-append (head_of p) (le32 total), eight, length_le32 total))

  pub init_there : (b : Bool) (place : ChunkPlace) → IsChunkOf bytes place → place.typ ≡ ack_type b
      → (i : Init) × Contains p.chunks (init_chunk i) × (ack_type i.is_ack ≡ ack_type b) × (value_at (drop place.at bytes) ≡ value_of (init_chunk i))
  init_there b place own typ =
      let at = own.own in
      let found = partner (Holds bytes) own.chunks p.chunks (all-told bytes own.chunks p.chunks encodings body own.tells) place at.0 at.1 at.2 in
      let k = is-init b found.0 (sym found.2.0 ∙ typ) in
      (k.0, subst (λ (w : Wire). Contains p.chunks w) k.1 found.1, k.2, found.2.1 ∙ ap value_of k.1)
