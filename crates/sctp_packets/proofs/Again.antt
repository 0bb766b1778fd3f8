-- A packet that is written reads back.
use Rattle.std.proofs.Common.{◌≡◌, ℕ, ◌+◌, ◌<◌, ◌^◌, List, [], ◌∷◌, ◌++◌, length, take, drop, replicate, All, refl, sym, ap, ◌∙◌, subst, arith, append_assoc}
use Rattle.std.proofs.Common.{length-append}
use Rattle.std.specs.List.{AllByRecursion}
use Rattle.std.proofs.lemmas.List.{take_at, drop_at, append-nil, length-replicate}
use Rattle.std.proofs.lemmas.List.Elements.{All-replicate}
use Rattle.std.proofs.lemmas.List.Concat.{flat_map-cons}
use Rattle.sctp_util.specs.Field.{be16, be32, le32, u16_at, u32_at, u32_le_at}
use Rattle.sctp_util.specs.Padding.{padding_of, padded_length, four_zeroes}
use Rattle.sctp_util.proofs.Fields.{length_be16, length_le32, u16_at_be16, u32_at_be32, u32_le_at_le32}
use Rattle.sctp_chunks.specs.Framing.{declared_length}
use Rattle.sctp_chunks.specs.Wire.{Wire, HasEncoding, encoding_of, type_of, flags_of, value_of}
use Rattle.sctp_chunks.specs.Fits.{Fits, Canonical}
use Rattle.sctp_chunks.proofs.Again.{framed_declared}
use Rattle.sctp_chunks.proofs.AgainKinds.{chunk_again}
use Rattle.sctp_util.specs.Walk.{Walks}
use Rattle.sctp_packets.specs.Packet.{Parts, Steps, after, IsCanonical, padded_encoding, body_of, head_encoding, head_of, packet_encoding, checksum_input}
use Rattle.sctp_packets.specs.Packet.{ReadsPacket, HavePacketEncoding, FitsParts}
use Rattle.sctp_packets.proofs.Sealed.{length_head_encoding}
use Rattle.sctp_packets.proofs.Written.{length_encoding}

abbrev pad : Wire → List ℕ
pad w = replicate (padding_of (length (encoding_of w))) 0

body_next : (w : Wire) (ws : List Wire) → body_of (w ∷ ws) ≡ encoding_of w ++ (pad w ++ body_of ws)
unfolding padded_encoding
body_next w ws = rw flat_map-cons (append_assoc (encoding_of w) (pad w) (body_of ws))

-- fewer than four bytes after a chunk are its padding
zeros_after : (w : Wire) (ws : List Wire) → length (pad w ++ body_of ws) < 4 → All (λ x. x ≡ 0) (pad w ++ body_of ws)
zeros_after w [] short = rw append-nil (All-replicate (λ (x : ℕ). x ≡ 0) (padding_of (length (encoding_of w))) 0 refl)
zeros_after w (v ∷ ws) short = absurd (omega
    (arith, length-append (pad w) (body_of (v ∷ ws)), ap length (body_next v ws), length-append (encoding_of v) (pad v ++ body_of ws), length_encoding v))

pub body_again : (ws : List Wire) → AllByRecursion Canonical ws → AllByRecursion Fits ws → AllByRecursion HasEncoding ws → Walks Steps after (body_of ws) ws []
unfolding Walks after
body_again [] plain fits short = refl
body_again (w ∷ ws) plain fits short =
    let e = body_next w ws in
    let rest : List ℕ = pad w ++ body_of ws in
    let whole : List ℕ = encoding_of w ++ rest in
    let n : declared_length whole ≡ 4 + length (value_of w) = framed_declared (type_of w) (flags_of w) (value_of w) rest short.0.1 in
    let len : length (encoding_of w ++ pad w) ≡ padded_length (declared_length whole) =
    rw n (omega (arith, length-append (encoding_of w) (pad w), length_encoding w, length-replicate {A = ℕ} (padding_of (length (encoding_of w))) 0)) in
    let step : Steps whole w = record {
      is_read = tt;
      chunk = chunk_again w rest plain.0 fits.0 short.0.1 (zeros_after w ws);
      whole = omega (arith, len, length-append (encoding_of w) rest, length-append (pad w) (body_of ws), length-append (encoding_of w) (pad w));
    } in
    let regroup : whole ≡ (encoding_of w ++ pad w) ++ body_of ws = sym (append_assoc (encoding_of w) (pad w) (body_of ws)) in
    let left : drop (padded_length (declared_length whole)) whole ≡ body_of ws = ap (drop (padded_length (declared_length whole))) regroup
    ∙ drop_at (encoding_of w ++ pad w) (body_of ws) _ len in
    let P : List ℕ → Type 0 = λ b. Steps b w × Walks Steps after (drop (padded_length (declared_length b)) b) ws [] in
    let Q : List ℕ → Type 0 = λ b. Walks Steps after b ws [] in
    subst P (sym e) (step, subst Q (sym left) (body_again ws plain.1 fits.1 short.1))

pub packet_again : (sum : List ℕ → ℕ) (p : Parts) → FitsParts p → IsCanonical p → HavePacketEncoding p
    → sum (head_of p ++ four_zeroes ++ body_of p.chunks) < 2 ^ 32 → ReadsPacket sum (packet_encoding sum p) p
unfolding head_encoding
packet_again sum p fits plain short sum_fits =
    let s = p.source_port in
    let d = p.destination_port in
    let v = p.verification_tag in
    let body = body_of p.chunks in
    let total = sum (head_of p ++ four_zeroes ++ body) in
    let encoding = packet_encoding sum p in
    let eight : length (head_of p) ≡ 8 = length_head_encoding s d v in
    let after_head : encoding ≡ head_of p ++ (le32 total ++ body) = append_assoc (head_of p) (le32 total) body in
    let twelve : length (head_of p ++ le32 total) ≡ 12 = omega (arith, length-append (head_of p) (le32 total), eight, length_le32 total) in
    let all : encoding ≡ be16 s ++ (be16 d ++ (be32 v ++ (le32 total ++ body))) = simp append_assoc in
    let front : take 8 encoding ≡ head_of p = ap (take 8) after_head ∙ take_at (head_of p) (le32 total ++ body) 8 eight in
    let rest : drop 12 encoding ≡ body = drop_at (head_of p ++ le32 total) body 12 twelve in
    let stored : u32_le_at encoding 8 ≡ total = ap (λ (x : List ℕ). u32_le_at x 8) after_head ∙ u32_le_at_le32 (head_of p) body total 8 eight sum_fits in
    let same : checksum_input encoding ≡ head_of p ++ four_zeroes ++ body = rw (front, rest) refl in
    let four : length (be16 s ++ be16 d) ≡ 4 = omega (arith, length-append (be16 s) (be16 d), length_be16 s, length_be16 d) in
    record {
      is_headed = record { long = omega (arith, length-append (head_of p ++ le32 total) body, twelve); checksum = stored ∙ ap sum (sym same) };
      source_port = sym (ap (λ (x : List ℕ). u16_at x 0) all ∙ u16_at_be16 [] _ s 0 refl fits.source_port);
      destination_port = sym (ap (λ (x : List ℕ). u16_at x 2) all ∙ u16_at_be16 (be16 s) _ d 2 (length_be16 s) fits.destination_port);
      verification_tag = sym (ap (λ (x : List ℕ). u32_at x 4) (all ∙ sym (append_assoc (be16 s) (be16 d) _))
          ∙ u32_at_be32 (be16 s ++ be16 d) _ v 4 four fits.verification_tag);
      chunks = rw rest (body_again p.chunks plain fits.chunks short);
    }
