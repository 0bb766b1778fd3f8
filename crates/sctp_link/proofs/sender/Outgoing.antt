-- The datagrams that a link makes of DATA chunks.
use Rattle.sctp_link.proofs.Names.{◌≡◌, ℕ, ◌+◌, ◌<◌, ◌≤◌, ◌^◌, true, false, List, [], ◌∷◌, ◌++◌, length, map, get_or, Some, None, refl, ap, sym, ◌∙◌, arith}
use Rattle.sctp_link.proofs.Names.{◌&&◌, not, find, subst, map-append, pieces, change_where, both, negated, ChunkPayloadData, data_of, data_value}
use Rattle.sctp_link.proofs.Names.{data_chunk, ReadsPacket, packet_encoding, has_tsn, with_nsent, Outbound, with_inflight, NotInFlight, LinkRecord, slot_at}
use Rattle.sctp_link.proofs.Names.{message_at, message_of, place_of, is_in_flight, chunk_at, contents_of, is_cleared, after_resend, refusal_of, can_resend}
use Rattle.sctp_link.proofs.Names.{unless-holds, RefinesOutbound, Found, says-same, refines-marked, nsent-quiet, Kind, Datagram, datagram_record, kind_record}
use Rattle.sctp_link.proofs.Names.{IsDatagram, packet_with, State, IsLinked, some-same, piece-short, length_data_value}
use Rattle.sctp_data.specs.PayloadData.{Data}
use Rattle.sctp_model.specs.declared.event.Event.TheVariants as E
use Rattle.sctp_model.specs.LinkRecord as W
use Rattle.sctp_model.proofs.refinement.sending.FlyingTsn
use Rattle.sctp_link.proofs.upkeep.Facts.{sends}
use Rattle.sctp_link.proofs.upkeep.Frames.{linked-more}

-- ## Lengths

-- a chunk with a fragment has an encoding
pub chunk-short : (d : Data) → length d.user_data ≤ 65519 → 4 + length (data_value d) < 2 ^ 16
chunk-short d le = omega (arith, length_data_value d, le)

pub fragment-short : {sum : List ℕ → ℕ} {x : State} → IsLinked sum x → (n i : ℕ)
    → length (get_or (pieces (length (message_at x.recorded n).bytes) x.recorded.setup.size (message_at x.recorded n).bytes) i []) ≤ 65519
fragment-short {x} l n i =
    omega (arith, piece-short (length (message_at x.recorded n).bytes) x.recorded.setup.size (message_at x.recorded n).bytes i, l.setup.size)

-- ## Datagrams

pub says-data : (sum : List ℕ → ℕ) (v : LinkRecord) (p : ℕ) (bytes : List ℕ) (d : Data) → d ≡ data_of (chunk_at v p)
    → bytes ≡ packet_encoding sum (packet_with (data_chunk d ∷ [])) → ReadsPacket sum bytes (packet_with (data_chunk d ∷ []))
    → IsDatagram sum (contents_of v (W.Data (p ∷ []))) bytes
says-data sum v p bytes d is encoding reads = record {
  encoding = encoding ∙ ap (λ e. packet_encoding sum (packet_with (data_chunk e ∷ []))) is;
  reads = subst (λ e. ReadsPacket sum bytes (packet_with (data_chunk e ∷ []))) is reads;
}

pub network-more : (ds es : List Datagram) (k : Kind) (bytes : List ℕ) → es ≡ ds ++ (let d : Datagram = record { kind = k; bytes = bytes } in d) ∷ []
    → map datagram_record es ≡ map datagram_record ds ++ kind_record k ∷ []
network-more ds es k bytes e = ap (map datagram_record) e ∙ map-append datagram_record ds ((let d : Datagram = record { kind = k; bytes = bytes } in d) ∷ [])

pub bytes-more : (ds es : List Datagram) (k : Kind) (bytes : List ℕ) → es ≡ ds ++ (let d : Datagram = record { kind = k; bytes = bytes } in d) ∷ []
    → map (λ d. d.bytes) es ≡ map (λ d. d.bytes) ds ++ bytes ∷ []
bytes-more ds es k bytes e = cc (e, map-append (λ (d : Datagram). d.bytes) ds ((let d : Datagram = record { kind = k; bytes = bytes } in d) ∷ []))

-- ## A chunk leaves again

module _ {sum : List ℕ → ℕ} {x : State} (l : IsLinked sum x) (tsn : ℕ) (small : tsn < 2 ^ 32) (ok : refusal_of x.recorded (E.Resend tsn) ≡ None) where
  abbrev p : ℕ
  p = place_of x.recorded tsn

  abbrev cs : List ChunkPayloadData
  cs = x.outbound.inflight.chunks

  can : can_resend x.recorded p ≡ true
  can = (unless-holds (can_resend x.recorded p) NotInFlight None ok).0

  pub flies : is_in_flight x.recorded p ≡ true
  flies = (both (is_in_flight x.recorded p) _ can).0

  rest : (not (slot_at x.recorded p).acknowledged && not (message_at x.recorded (message_of x.recorded p)).abandoned) ≡ true
  rest = (both (is_in_flight x.recorded p) _ can).1

  clear : is_cleared x.recorded p ≡ false
  clear =
      let r = both (not (slot_at x.recorded p).acknowledged) (not (message_at x.recorded (message_of x.recorded p)).abandoned) rest in
      cc (negated (slot_at x.recorded p).acknowledged r.0, negated (message_at x.recorded (message_of x.recorded p)).abandoned r.1)

  -- the chunk in flight with the TSN
  abbrev pub found : Found x.recorded p cs
  found = FlyingTsn.found (sends l) tsn small flies

  pub there : find (has_tsn tsn) cs ≡ Some found.chunk
  there = FlyingTsn.there (sends l) tsn small flies

  -- what is found says what its slot does
  pub resend-says : (c : ChunkPayloadData) → find (has_tsn tsn) cs ≡ Some c → data_of c ≡ data_of (chunk_at x.recorded p)
  resend-says c e = ap data_of (some-same (sym e ∙ there)) ∙ says-same x.recorded p found.chunk found.says clear

  pub resend-fits : (c : ChunkPayloadData) → find (has_tsn tsn) cs ≡ Some c → 4 + length (data_value (data_of c)) < 2 ^ 16
  resend-fits c e =
      let is : c.user_data ≡ (chunk_at x.recorded p).user_data = ap (λ (d : Data). d.user_data) (resend-says c e) in
      chunk-short (data_of c) (omega (arith, ap length is, fragment-short l (message_of x.recorded p) (slot_at x.recorded p).fragment))

  pub linked-resend : (c : ChunkPayloadData) (bytes : List ℕ) (nsent : ℕ) (q : Outbound) → find (has_tsn tsn) cs ≡ Some c
      → bytes ≡ packet_encoding sum (packet_with (data_chunk (data_of c) ∷ [])) → ReadsPacket sum bytes (packet_with (data_chunk (data_of c) ∷ []))
      → length x.datagrams ≡ length x.recorded.network → q ≡ with_inflight x.outbound (change_where (has_tsn tsn) (with_nsent nsent) cs)
      → IsLinked sum (record x { recorded = after_resend x.recorded tsn; datagrams = x.datagrams ++ bytes ∷ []; outbound = q })
  linked-resend c bytes nsent q e encoding reads count eq =
      linked-more l (E.Resend tsn) ok (W.Data (p ∷ [])) x.recorded.duplicates bytes q x.filter refl (subst (RefinesOutbound x.recorded) (sym eq)
      (refines-marked x.recorded x.outbound (has_tsn tsn) (with_nsent nsent) (nsent-quiet nsent) l.outbound))
      (l.unstarted ∙ sym (ap (λ (r : Outbound). r.next_unstarted) eq)) l.filter count
      (says-data sum (after_resend x.recorded tsn) p bytes (data_of c) (resend-says c e) encoding reads)
