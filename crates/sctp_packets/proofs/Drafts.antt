-- A packet that is being written.
use Rattle.std.proofs.Common.{◌≡◌, ℕ, ◌+◌, ◌<◌, ◌≤◌, ◌^◌, List, [], ◌∷◌, ◌++◌, length, take, drop, refl, arith, ap, ◌∙◌, sym, subst, length-append, append_assoc}
use Rattle.std.specs.List.{AllByRecursion}
use Rattle.std.proofs.lemmas.List.{append-nil, length-take, length-drop}
use Rattle.std.proofs.lemmas.List.Concat.{flat_map-append, flat_map-cons}
use Rattle.sctp_util.specs.Field.{le32}
use Rattle.sctp_util.specs.Padding.{four_zeroes}
use Rattle.sctp_util.proofs.Fields.{length_le32}
use Rattle.sctp_chunks.specs.Fits.{Fits}
use Rattle.sctp_chunks.specs.Wire.{Wire, HasEncoding}
use Rattle.sctp_packets.specs.Draft.{IsDraft, with_chunk}
use Rattle.sctp_packets.specs.Packet.{Parts, ReadsPacket, IsCanonical, padded_encoding, body_of, head_of, packet_encoding}
use Rattle.sctp_packets.proofs.Again.{packet_again}
use Rattle.sctp_packets.proofs.Sealed.{length_head_encoding, sealed, summed_is}
use Rattle.sctp_packets.proofs.Walk.{all_next}

-- it has a header at least
pub draft_long : (p : Parts) (bytes : List ℕ) → IsDraft p bytes → 12 ≤ length bytes
draft_long p bytes draft = omega (
  arith,
  ap length draft.unsealed,
  length-append (head_of p ++ four_zeroes) (body_of p.chunks),
  length-append (head_of p) four_zeroes,
  length_head_encoding p.source_port p.destination_port p.verification_tag,
)

body_more : (ws : List Wire) (w : Wire) → body_of (ws ++ w ∷ []) ≡ body_of ws ++ padded_encoding w
body_more ws w = rw (flat_map-append, flat_map-cons, append-nil) refl

-- one chunk more
pub draft_next : (p : Parts) (w : Wire) (bytes : List ℕ) → IsDraft p bytes → HasEncoding w → Fits w → IsDraft (with_chunk w p) (bytes ++ padded_encoding w)
draft_next p w bytes draft encoding fits = record {
  unsealed = rw (draft.unsealed, body_more p.chunks w) (append_assoc (head_of p ++ four_zeroes) (body_of p.chunks) (padded_encoding w));
  encodings = all_next HasEncoding p.chunks w draft.encodings encoding;
  fits = record {
    source_port = draft.fits.source_port;
    destination_port = draft.fits.destination_port;
    verification_tag = draft.fits.verification_tag;
    chunks = all_next Fits p.chunks w draft.fits.chunks fits;
  };
}

module _ (sum : List ℕ → ℕ) (p : Parts) (old new : List ℕ) (draft : IsDraft p old) where
  eight : length (head_of p) ≡ 8
  eight = length_head_encoding p.source_port p.destination_port p.verification_tag

  -- its checksum in place
  pub draft_sealed : new ≡ take (0 + 8) old ++ le32 (sum (take 8 (drop 0 old) ++ four_zeroes ++ drop (0 + 12) old)) ++ drop (0 + 12) old
      → new ≡ packet_encoding sum p
  draft_sealed stored = sealed sum [] (head_of p) (body_of p.chunks) old new 0 eight refl draft.unsealed stored

  pub draft_again : sum (take 8 (drop 0 old) ++ four_zeroes ++ drop (0 + 12) old) < 2 ^ 32 → IsCanonical p → ReadsPacket sum (packet_encoding sum p) p
  draft_again small plain =
      let P : List ℕ → Type 0 = λ b. sum b < 2 ^ 32 in
      let summed = summed_is [] (head_of p) (body_of p.chunks) old 0 eight refl draft.unsealed in
      packet_again sum p draft.fits plain draft.encodings (subst P summed small)

-- a checksum takes the place of four bytes
pub length_stored : (old : List ℕ) (n : ℕ) → 12 ≤ length old → length (take (0 + 8) old ++ le32 n ++ drop (0 + 12) old) ≡ length old
length_stored old n long = omega (
  arith,
  length-append (take 8 old ++ le32 n) (drop 12 old),
  length-append (take 8 old) (le32 n),
  length_le32 n,
  length-take 8 old,
  length-drop 12 old,
  long,
)
