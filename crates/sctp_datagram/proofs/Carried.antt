-- A packet that is written, read where it lies.
use Rattle.std.proofs.Common.{◌≡◌, ℕ, ◌+◌, ◌<◌, ◌≤◌, Bool, true, false, List, [], ◌∷◌, ◌++◌, length, drop, replicate, All, refl, sym, ap, ◌∙◌, subst, inl, inr, arith}
use Rattle.std.proofs.Common.{append_assoc, length-append}
use Rattle.std.proofs.lemmas.Bool.{false≢true}
use Rattle.std.proofs.lemmas.List.{append-nil, drop-drop, drop_at, length-replicate}
use Rattle.std.proofs.lemmas.List.Concat.{flat_map-cons}
use Rattle.std.proofs.lemmas.List.Elements.{All-contains, All-from_recursion, All-replicate}
use Rattle.std.specs.List.{AllByRecursion, AllZip}
use Rattle.std.specs.Prelude.{Contains, nat_lt, not, slice_index_or, suc, zero, ◌&&◌}
use Rattle.sctp_util.proofs.Fields.{length_le32}
use Rattle.sctp_util.specs.Field.{le32}
use Rattle.sctp_util.specs.Padding.{four_zeroes, padded_length, padding_of}
use Rattle.sctp_chunks.proofs.Again.{framed_declared, framed_reads}
use Rattle.sctp_chunks.proofs.AgainKinds.{chunk_again}
use Rattle.sctp_chunks.proofs.One.{reads_one}
use Rattle.sctp_chunks.specs.Fits.{Canonical, Fits}
use Rattle.sctp_chunks.specs.Framing.{declared_length, type_at}
use Rattle.sctp_chunks.specs.Init.{ack_type}
use Rattle.sctp_chunks.specs.Wire.{HasEncoding, Wire, encoding_of, flags_of, type_of, value_of}
use Rattle.sctp_chunks.specs.Wire.{abort_chunk, cookie_ack_chunk, cookie_echo_chunk, data_chunk, error_chunk, forward_tsn_chunk, heartbeat_ack_chunk}
use Rattle.sctp_chunks.specs.Wire.{heartbeat_chunk, i_forward_tsn_chunk, init_chunk, reconfig_chunk, sack_chunk, shutdown_ack_chunk, shutdown_chunk}
use Rattle.sctp_chunks.specs.Wire.{shutdown_complete_chunk}
use Rattle.sctp_datagram.proofs.Alone.{alone-reads, has-frame, starts-with}
use Rattle.sctp_datagram.proofs.Strict.{read-type}
use Rattle.sctp_datagram.specs.Carried.{AddsNoPlain, AddsNone, Carries, CarriesEach, IsPassed, IsPlain, IsReadAt, KeepsOrder}
use Rattle.sctp_datagram.specs.Framing.{HasFrame, StartsWith, alone}
use Rattle.sctp_datagram.specs.Places.{IsThere, Passes, TellsAll, behind, place_at}
use Rattle.sctp_datagram.specs.Types.{is_read_type, is_stopping, is_whole_type}
use Rattle.sctp_datagram.specs.declared.datagram.ChunkPlace.{ChunkPlace}
use Rattle.sctp_packets.proofs.Sealed.{length_head_encoding}
use Rattle.sctp_packets.proofs.Written.{length_encoding}
use Rattle.sctp_packets.specs.Packet.{FitsParts, HavePacketEncoding, Parts, body_of, head_of, packet_encoding, padded_encoding}

-- ## Two lists, item by item

module _ {A B : Type 0} (R : A → B → Type 0) where
  -- an item of the one list has its partner in the other
  partner : (xs : List A) (ys : List B) → AllZip R xs ys → (x : A) (k : ℕ) → k < length xs → slice_index_or xs k x ≡ x → (y : B) × Contains ys y × R x y
  partner [] ys z x k lt is = absurd (omega (arith, lt))
  partner (a ∷ xs) [] z x k lt is = absurd z
  partner (a ∷ xs) (b ∷ ys) z x zero lt is = (b, (0, omega arith, refl), subst (λ (v : A). R v b) is z.0)
  partner (a ∷ xs) (b ∷ ys) z x (suc k) lt is =
      let h = partner xs ys z.1 x k (omega (arith, lt)) is in
      (h.0, (suc h.1.0, omega (arith, h.1.1), h.1.2), h.2)

  -- and the other way round
  partner-of : (xs : List A) (ys : List B) → AllZip R xs ys → (y : B) (k : ℕ) → k < length ys → slice_index_or ys k y ≡ y → (x : A) × Contains xs x × R x y
  partner-of xs [] z y k lt is = absurd (omega (arith, lt))
  partner-of [] (b ∷ ys) z y k lt is = absurd z
  partner-of (a ∷ xs) (b ∷ ys) z y zero lt is = (a, (0, omega arith, refl), subst (λ (v : B). R a v) is z.0)
  partner-of (a ∷ xs) (b ∷ ys) z y (suc k) lt is =
      let h = partner-of xs ys z.1 y k (omega (arith, lt)) is in
      (h.0, (suc h.1.0, omega (arith, h.1.1), h.1.2), h.2)

contained : {A : Type 0} (P : A → Type 0) (xs : List A) → AllByRecursion P xs → (x : A) → Contains xs x → P x
contained P xs all x c = All-contains P xs x (All-from_recursion P xs all) c

-- ## One chunk

abbrev pad : Wire → List ℕ
pad w = replicate (padding_of (length (encoding_of w))) 0

body_next : (w : Wire) (ws : List Wire) → body_of (w ∷ ws) ≡ encoding_of w ++ (pad w ++ body_of ws)
unfolding padded_encoding
body_next w ws = rw flat_map-cons (append_assoc (encoding_of w) (pad w) (body_of ws))

body_long : (w : Wire) (ws : List Wire) → 4 ≤ length (body_of (w ∷ ws))
body_long w ws =
    omega (arith, ap (λ (l : List ℕ). length l) (body_next w ws), length-append (encoding_of w) (pad w ++ body_of ws), length_encoding w)

-- fewer than four bytes behind it are its padding
zeros_behind : (w : Wire) (ws : List Wire) → length (pad w ++ body_of ws) < 4 → All (λ x. x ≡ 0) (pad w ++ body_of ws)
zeros_behind w [] short = rw append-nil (All-replicate (λ (x : ℕ). x ≡ 0) (padding_of (length (encoding_of w))) 0 refl)
zeros_behind w (v ∷ ws) short = absurd (omega (arith, short, length-append (pad w) (body_of (v ∷ ws)), body_long v ws))

-- the bytes begin with the chunk, and others follow
record Starts (bytes : List ℕ) (w : Wire) (ws : List Wire) : Type 0 where
  is_framed : HasFrame bytes
  typ : type_at bytes ≡ type_of w
  whole : padded_length (declared_length bytes) ≤ length bytes
  next : drop (padded_length (declared_length bytes)) bytes ≡ body_of ws
  reads : Canonical w → Fits w → StartsWith bytes w

module _ (w : Wire) (ws : List Wire) (short : HasEncoding w) where
  abbrev whole : List ℕ
  whole = encoding_of w ++ (pad w ++ body_of ws)

  declared : declared_length whole ≡ 4 + length (value_of w)
  declared = framed_declared (type_of w) (flags_of w) (value_of w) (pad w ++ body_of ws) short.1

  span : length (encoding_of w ++ pad w) ≡ padded_length (declared_length whole)
  span = rw declared (omega (
    arith,
    length-append (encoding_of w) (pad w),
    length_encoding w,
    length-replicate {A = ℕ} (padding_of (length (encoding_of w))) 0,
  ))

  begins : Starts whole w ws
  begins = record {
    is_framed = has-frame whole (framed_reads (type_of w) (flags_of w) (value_of w) (pad w ++ body_of ws) short.1 (zeros_behind w ws));
    typ = refl;
    whole = omega (
      arith,
      span,
      length-append (encoding_of w) (pad w ++ body_of ws),
      length-append (pad w) (body_of ws),
      length-append (encoding_of w) (pad w),
    );
    next = ap (drop (padded_length (declared_length whole))) (sym (append_assoc (encoding_of w) (pad w) (body_of ws)))
        ∙ drop_at (encoding_of w ++ pad w) (body_of ws) _ span;
    reads = λ plain fits. starts-with whole w (chunk_again w (pad w ++ body_of ws) plain fits short.1 (zeros_behind w ws));
  }

starts : (w : Wire) (ws : List Wire) (bytes : List ℕ) → HasEncoding w → bytes ≡ body_of (w ∷ ws) → Starts bytes w ws
starts w ws bytes short is = subst (λ (b : List ℕ). Starts b w ws) (sym (is ∙ body_next w ws)) (begins w ws short)

-- none stops the reading
goes-on : (bytes : List ℕ) (w : Wire) (ws : List Wire) → Starts bytes w ws → is_stopping (type_at bytes) ≡ false
goes-on bytes w ws s =
    let known = subst (λ (t : ℕ). is_read_type t ≡ true) (sym s.typ) (read-type w) in
    ap (λ (b : Bool). not b && nat_lt (type_at bytes) 128) known

-- ## Which chunks read back

not-whole : (b : Bool) → is_whole_type (ack_type b) ≡ false
not-whole true = refl
not-whole false = refl

-- what is read whole with the packet
again : (w : Wire) → IsPassed w → is_whole_type (type_of w) ≡ true → Canonical w
again (data_chunk d) plain full = tt
again (init_chunk i) plain full = absurd (false≢true (sym (not-whole i.is_ack) ∙ full))
again (sack_chunk s) plain full = tt
again (heartbeat_chunk ps) plain full = plain
again (heartbeat_ack_chunk ps) plain full = plain
again (abort_chunk cs) plain full = tt
again (shutdown_chunk n) plain full = tt
again shutdown_ack_chunk plain full = tt
again (error_chunk cs) plain full = tt
again (cookie_echo_chunk b) plain full = tt
again cookie_ack_chunk plain full = tt
again shutdown_complete_chunk plain full = tt
again (reconfig_chunk r) plain full = absurd (false≢true full)
again (forward_tsn_chunk f) plain full = tt
again (i_forward_tsn_chunk f) plain full = tt

ack-range : (b : Bool) → (1 ≤ ack_type b) × (ack_type b ≤ 2)
ack-range true = (omega arith, omega arith)
ack-range false = (omega arith, omega arith)

-- whatever chunk has the type of a plain one
alike : (v w : Wire) → type_of v ≡ type_of w → IsPlain w → Canonical v
alike v (init_chunk i) same plain = absurd plain
alike v (heartbeat_chunk ps) same plain = absurd plain
alike v (heartbeat_ack_chunk ps) same plain = absurd plain
alike v (reconfig_chunk r) same plain = absurd plain
alike (init_chunk i) w same plain = absurd (omega (arith, same, ack-range i.is_ack))
alike (heartbeat_chunk ps) w same plain = absurd (omega (arith, same))
alike (heartbeat_ack_chunk ps) w same plain = absurd (omega (arith, same))
alike (reconfig_chunk r) w same plain = absurd (omega (arith, same))
alike v w same plain = tt

-- ## The places of a packet

-- a chunk of the type stands at the place, and reads back there
abbrev Stands : List ℕ → ChunkPlace → Wire → Type 0
Stands packet place w = (type_at (drop place.at packet) ≡ type_of w) × IsReadAt packet place w

later : (packet : List ℕ) (at : ℕ) (w : Wire) (ws : List Wire) → Starts (drop at packet) w ws → drop (behind packet at) packet ≡ body_of ws
later packet at w ws s = sym (drop-drop (padded_length (declared_length (drop at packet))) at packet) ∙ s.next

-- no chunk is there where none is left
none-there : (packet : List ℕ) (at : ℕ) → drop at packet ≡ [] → IsThere (drop at packet) → ⊥
none-there packet at none there = omega (arith, ap (λ (l : List ℕ). length l) none, there.is_framed.headed)

module _ (packet : List ℕ) where
  -- places up to the end are those of the chunks
  told : (at : ℕ) (places : List ChunkPlace) (end : ℕ) (ws : List Wire) → AllByRecursion HasEncoding ws → AllByRecursion Fits ws → drop at packet ≡ body_of ws
      → Passes place_at packet at places end → drop end packet ≡ [] → AllZip (Stands packet) places ws
  told at [] end [] short fits is passes ended = tt
  told at [] end (w ∷ ws) short fits is passes ended =
      let none : drop at packet ≡ [] = ap (λ (k : ℕ). drop k packet) passes ∙ ended in
      absurd (omega (arith, ap (λ (l : List ℕ). length l) (sym none ∙ is), body_long w ws))
  told at (p ∷ places) end [] short fits is passes ended = absurd (none-there packet at is passes.1)
  told at (p ∷ places) end (w ∷ ws) short fits is passes ended =
      let s = starts w ws (drop at packet) short.0 is in (
        subst (λ (q : ChunkPlace). Stands packet q w) (sym passes.0) (s.typ, λ plain. s.reads plain fits.0),
        told (behind packet at) places end ws short.1 fits.1 (later packet at w ws s) passes.3 ended,
      )

  -- the reading does not stop before
  no-stop : (at : ℕ) (places : List ChunkPlace) (end : ℕ) (ws : List Wire) → AllByRecursion HasEncoding ws → drop at packet ≡ body_of ws
      → Passes place_at packet at places end → IsThere (drop end packet) → is_stopping (type_at (drop end packet)) ≡ true → ⊥
  no-stop at [] end [] short is passes there stops = none-there packet end (ap (λ (k : ℕ). drop k packet) (sym passes) ∙ is) there
  no-stop at [] end (w ∷ ws) short is passes there stops =
      let on = goes-on (drop at packet) w ws (starts w ws (drop at packet) short.0 is) in
      false≢true (sym on ∙ ap (λ (k : ℕ). is_stopping (type_at (drop k packet))) passes ∙ stops)
  no-stop at (p ∷ places) end [] short is passes there stops = none-there packet at is passes.1
  no-stop at (p ∷ places) end (w ∷ ws) short is passes there stops =
      no-stop (behind packet at) places end ws short.1 (later packet at w ws (starts w ws (drop at packet) short.0 is)) passes.3 there stops

  -- all of its places
  all-told : (places : List ChunkPlace) (ws : List Wire) → AllByRecursion HasEncoding ws → AllByRecursion Fits ws → drop 12 packet ≡ body_of ws
      → TellsAll place_at packet places → AllZip (Stands packet) places ws
  all-told places ws short fits is all = elim all.ended [
    | inl e ↦ subst (λ (ps : List ChunkPlace). AllZip (Stands packet) ps ws) (sym e.1) (told 12 all.passed all.end ws short fits is all.passes e.0)
    | inr e ↦ absurd (no-stop 12 all.passed all.end ws short is all.passes e.0 e.1)
  ]

  -- there are such places
  passed : (at : ℕ) (ws : List Wire) → AllByRecursion HasEncoding ws → AllByRecursion Fits ws → AllByRecursion IsPassed ws → drop at packet ≡ body_of ws
      → (places : List ChunkPlace) × (end : ℕ) × Passes place_at packet at places end × (drop end packet ≡ [])
  passed at [] short fits plain is = ([], at, refl, is)
  passed at (w ∷ ws) short fits plain is =
      let s = starts w ws (drop at packet) short.0 is in
      let more = passed (behind packet at) ws short.1 fits.1 plain.1 (later packet at w ws s) in
      let there : IsThere (drop at packet) = record {
        is_framed = s.is_framed;
        whole = s.whole;
        reads = λ full. (w, s.reads (again w plain.0 (ap is_whole_type (sym s.typ) ∙ full)) fits.0);
      } in
      (place_at packet at ∷ more.0, more.1, (refl, there, goes-on (drop at packet) w ws s, more.2), more.3)

-- each reads back at its place
weaker : (packet : List ℕ) (places : List ChunkPlace) (ws : List Wire) → AllZip (Stands packet) places ws → AllZip (IsReadAt packet) places ws
weaker packet [] [] z = tt
weaker packet [] (w ∷ ws) z = absurd z
weaker packet (p ∷ places) [] z = absurd z
weaker packet (p ∷ places) (w ∷ ws) z = (z.0.1, weaker packet places ws z.1)

-- ## A packet

module _ (sum : List ℕ → ℕ) (p : Parts) (fits : FitsParts p) (encodings : HavePacketEncoding p) where
  abbrev bytes : List ℕ
  bytes = packet_encoding sum p

  -- its chunks begin behind its header
  body : drop 12 bytes ≡ body_of p.chunks
  body =
      let total = sum (head_of p ++ four_zeroes ++ body_of p.chunks) in
      let eight = length_head_encoding p.source_port p.destination_port p.verification_tag in
      drop_at (head_of p ++ le32 total) (body_of p.chunks) 12 (omega (arith, length-append (head_of p) (le32 total), eight, length_le32 total))

  zipped : (places : List ChunkPlace) → TellsAll place_at bytes places → AllZip (Stands bytes) places p.chunks
  zipped places all = all-told bytes places p.chunks encodings fits.chunks body all

  -- what is carried stands at the place of a chunk of its type
  put : (w : Wire) → Carries bytes w → (v : Wire) × Contains p.chunks v × (type_of v ≡ type_of w) × (Canonical v → v ≡ w)
  put w c =
      let at = c.own.own in
      let own = partner (Stands bytes) c.own.chunks p.chunks (zipped c.own.chunks c.own.tells) c.place at.0 at.1 at.2 in
      (own.0, own.1, sym own.2.0 ∙ c.reads.typ, λ plain. reads_one (alone (drop c.place.at bytes)) own.0 w (alone-reads _ own.0 (own.2.1 plain)) (alone-reads _ w c.reads))

  pub adds-no-plain : AddsNoPlain p bytes
  adds-no-plain w plain c =
      let own = put w c in
      subst (λ (v : Wire). Contains p.chunks v) (own.3 (alike own.0 w own.2 plain)) own.1

  pub adds-none : AddsNone p bytes
  adds-none canonical w c =
      let own = put w c in
      subst (λ (v : Wire). Contains p.chunks v) (own.3 (contained Canonical p.chunks canonical own.0 own.1)) own.1

  pub carries-each : CarriesEach p bytes
  carries-each plain w c canonical =
      let all = passed bytes 12 p.chunks encodings fits.chunks plain body in
      let tells : TellsAll place_at bytes all.0 = record { passed = all.0; end = all.1; passes = all.2; ended = inl (all.3, refl) } in
      let own = partner-of (Stands bytes) all.0 p.chunks (zipped all.0 tells) w c.0 c.1 c.2 in
      record { place = own.0; own = record { chunks = all.0; tells = tells; own = own.1 }; reads = own.2.1 canonical }

  pub keeps-order : KeepsOrder p bytes
  keeps-order places all = weaker bytes places p.chunks (zipped places all)
