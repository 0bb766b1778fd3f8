-- A reply fits into a packet that has no chunk, and so exactly its chunks are put.
use Rattle.std.proofs.Common.{◌≡◌, ℕ, ◌+◌, ◌-◌, ◌≤◌, Bool, true, false, List, [], ◌∷◌, ◌++◌, refl, ap, sym, subst, ◌∙◌, arith, length, length-append}
use Rattle.std.proofs.lemmas.List.Concat.{flat_map-cons}
use Rattle.sctp_association.proofs.Putting.{adds_then}
use Rattle.sctp_association.specs.Packets.{Adds, put_where, sum_of}
use Rattle.sctp_association.specs.declared.association.Association.{Association}
use Rattle.sctp_association.specs.declared.due.Alone.{Alone}
use Rattle.sctp_association.specs.declared.due.AloneKind.{AloneKind}
use Rattle.sctp_association.specs.declared.due.AloneKind.TheVariants as alone
use Rattle.sctp_association.specs.Replying.{AddsReply, AreReply, IsPacketWith, IsReply, PutsOne, header_to, host_name_causes, missing_cookie}
use Rattle.sctp_association.specs.Reports.{one_cause}
use Rattle.sctp_chunks.proofs.Causes.{length_cause_encoding}
use Rattle.sctp_chunks.specs.declared.chunk.error_cause.ErrorCause.{ErrorCause}
use Rattle.sctp_chunks.specs.ErrorCause.{causes_encoding, cause_encoding}
use Rattle.sctp_chunks.specs.Wire.{HasForm, Wire, abort_chunk, error_chunk, shutdown_ack_chunk, shutdown_complete_chunk, value_of}
use Rattle.sctp_packets.proofs.Written.{length_padded_encoding}
use Rattle.sctp_packets.specs.declared.packet.CommonHeader.{CommonHeader}
use Rattle.sctp_packets.specs.Draft.{Draft, IsDraft, headed}
use Rattle.sctp_packets.specs.Packet.{Parts, packet_encoding, padded_encoding}
use Rattle.sctp_util.proofs.Fields.{length_be32}
use Rattle.sctp_util.specs.Field.{be16, be32}
use Rattle.sctp_util.specs.Padding.{padding_of}
use Rattle.std.specs.Int.{to_be_bytes, w32}

put-so : (b : Bool) (w : Wire) (old new : List ℕ) → b ≡ true → Adds (put_where b w) old new → Adds (w ∷ []) old new
put-so b w old new e added = subst (λ b. Adds (put_where b w) old new) e added

-- a chunk of so few bytes, with its padding, is put
module _ (k z : ℕ) (w : Wire) (old new : Draft) (put : PutsOne w old new) (form : HasForm w) (size : 4 + length (value_of w) ≡ k) (zeros : padding_of k ≡ z)
    (head : 12 ≤ length old.bytes) (room : length old.bytes + (k + z) ≤ 28) where
  is-put : put.is_put ≡ true
  is-put =
      let padded : padding_of (4 + length (value_of w)) ≡ z = ap padding_of size ∙ zeros in
      let least = put.least in
      put.fits (form, omega (arith, size, room, head)) head (omega (arith, least, room, size, padded, length_padded_encoding w))

  pub one_put : Adds (w ∷ []) old.bytes new.bytes
  one_put = put-so put.is_put w old.bytes new.bytes is-put put.added

  -- and the packet has so many bytes more
  one-longer : (put.is_put ≡ true → new.bytes ≡ old.bytes ++ padded_encoding w) → length new.bytes ≡ length old.bytes + (k + z)
  one-longer longer =
      let padded : padding_of (4 + length (value_of w)) ≡ z = ap padding_of size ∙ zeros in
      omega (arith, ap length (longer is-put), length-append old.bytes (padded_encoding w), size, padded, length_padded_encoding w)

pub length_one_cause : (code : ℕ) (info : List ℕ) → length (causes_encoding (one_cause code info)) ≡ 4 + length info
length_one_cause code info =
    let c : ErrorCause = record { code = record { 0 = code }; raw = info } in
    ap length (flat_map-cons cause_encoding c []) ∙ length-append (cause_encoding c) [] ∙ omega (arith, length_cause_encoding c)

-- a number is written so
pub as_be32 : (n : ℕ) (bytes : List ℕ) → bytes ≡ to_be_bytes w32 n → bytes ≡ be32 n
unfolding be32
as_be32 n bytes e = e

pub as_missing : 0 ∷ 0 ∷ 0 ∷ 1 ∷ 0 ∷ 7 ∷ [] ≡ missing_cookie
unfolding be16 be32
as_missing = refl

missing_length : length missing_cookie ≡ 6
missing_length = ap length (sym as_missing)

-- an ABORT with one cause that says so little, where there is no other chunk
pub abort_put : (n z code : ℕ) (info : List ℕ) (old new : Draft) → PutsOne (abort_chunk (one_cause code info)) old new → length info ≡ n
    → padding_of (8 + n) ≡ z → 8 + n + z ≤ 16 → length old.bytes ≡ 12 → Adds (abort_chunk (one_cause code info) ∷ []) old.bytes new.bytes
abort_put n z code info old new put size zeros few begun =
    one_put (8 + n) z (abort_chunk (one_cause code info)) old new put tt (omega (arith, size, length_one_cause code info)) zeros (omega (arith, begun))
    (omega (arith, few, begun))

-- an ERROR, where there is no other chunk but a SHUTDOWN-ACK
pub error_put : (n z code : ℕ) (info : List ℕ) (old new : Draft) → PutsOne (error_chunk (one_cause code info)) old new → length info ≡ n
    → padding_of (8 + n) ≡ z → 12 ≤ length old.bytes → length old.bytes + (8 + n + z) ≤ 28 → Adds (error_chunk (one_cause code info) ∷ []) old.bytes new.bytes
error_put n z code info old new put size zeros head room =
    one_put (8 + n) z (error_chunk (one_cause code info)) old new put tt (omega (arith, size, length_one_cause code info)) zeros head room

-- ## Replies

module _ (kind : AloneKind) (a b : Association) where
  reply-is : (k : AloneKind) (ws : List Wire) → kind ≡ k → AreReply a.draft.limit a.key a.machine a.due.unknown_params k ws
      → Adds ws a.draft.bytes b.draft.bytes → AddsReply kind a b
  reply-is k ws is are added =
      record { chunks = ws; are = subst (λ k. AreReply a.draft.limit a.key a.machine a.due.unknown_params k ws) (sym is) are; added = added }

  pub stale_reply : (by : ℕ) (info : List ℕ) → kind ≡ alone.StaleCookie by → info ≡ be32 by → PutsOne (error_chunk (one_cause 3 info)) a.draft b.draft
      → length a.draft.bytes ≡ 12 → AddsReply kind a b
  stale_reply by info is told put begun = reply-is (alone.StaleCookie by) (error_chunk (one_cause 3 (be32 by)) ∷ []) is refl (
      error_put 4 0 3 (be32 by) a.draft b.draft (subst (λ i. PutsOne (error_chunk (one_cause 3 i)) a.draft b.draft) told put) (length_be32 by) refl
      (omega (arith, begun)) (omega (arith, begun))
      )

  pub no_data_reply : (tsn : ℕ) (info : List ℕ) → kind ≡ alone.NoUserData tsn → info ≡ be32 tsn → PutsOne (abort_chunk (one_cause 9 info)) a.draft b.draft
      → length a.draft.bytes ≡ 12 → AddsReply kind a b
  no_data_reply tsn info is told put begun = reply-is (alone.NoUserData tsn) (abort_chunk (one_cause 9 (be32 tsn)) ∷ []) is refl (
      abort_put 4 0 9 (be32 tsn) a.draft b.draft (subst (λ i. PutsOne (abort_chunk (one_cause 9 i)) a.draft b.draft) told put) (length_be32 tsn) refl
      (omega arith) begun
      )

  pub no_cookie_reply : (info : List ℕ) → kind ≡ alone.NoCookie → info ≡ missing_cookie → PutsOne (abort_chunk (one_cause 2 info)) a.draft b.draft
      → length a.draft.bytes ≡ 12 → AddsReply kind a b
  no_cookie_reply info is told put begun = reply-is alone.NoCookie (abort_chunk (one_cause 2 missing_cookie) ∷ []) is refl (
      abort_put 6 2 2 missing_cookie a.draft b.draft (subst (λ i. PutsOne (abort_chunk (one_cause 2 i)) a.draft b.draft) told put) missing_length refl
      (omega arith) begun
      )

  pub abort_reply : (code : ℕ) → kind ≡ alone.Abort code → PutsOne (abort_chunk (one_cause code [])) a.draft b.draft → length a.draft.bytes ≡ 12
      → AddsReply kind a b
  abort_reply code is put begun = reply-is (alone.Abort code) (abort_chunk (one_cause code []) ∷ []) is refl (
      abort_put 0 0 code [] a.draft b.draft put refl refl (omega arith) begun
      )

  pub complete_reply : kind ≡ alone.ShutdownComplete → PutsOne shutdown_complete_chunk a.draft b.draft → length a.draft.bytes ≡ 12 → AddsReply kind a b
  complete_reply is put begun = reply-is alone.ShutdownComplete (shutdown_complete_chunk ∷ []) is refl (
      one_put 4 0 shutdown_complete_chunk a.draft b.draft put tt refl refl (omega (arith, begun)) (omega (arith, begun))
      )

  pub host_name_reply : kind ≡ alone.HostName
      → PutsOne (abort_chunk (host_name_causes (a.draft.limit - length a.draft.bytes) a.due.unknown_params)) a.draft b.draft → length a.draft.bytes ≡ 12
      → AddsReply kind a b
  host_name_reply is put begun =
      let behind = subst (λ n. PutsOne (abort_chunk (host_name_causes (a.draft.limit - n) a.due.unknown_params)) a.draft b.draft) begun put in
      reply-is alone.HostName (put_where behind.is_put (abort_chunk (host_name_causes (a.draft.limit - 12) a.due.unknown_params))) is
      (record { is_put = behind.is_put; chunks = refl; fits = λ h room. behind.fits h (omega (arith, begun)) (omega (arith, begun, room)) }) behind.added

  -- a SHUTDOWN-ACK, and then an ERROR
  pub shutting_reply : (d : Draft) (first : PutsOne shutdown_ack_chunk a.draft d) → kind ≡ alone.ShuttingDown
      → (first.is_put ≡ true → d.bytes ≡ a.draft.bytes ++ padded_encoding shutdown_ack_chunk) → PutsOne (error_chunk (one_cause 10 [])) d b.draft
      → length a.draft.bytes ≡ 12 → AddsReply kind a b
  shutting_reply d first is longer put begun =
      let head : 12 ≤ length a.draft.bytes = omega (arith, begun) in
      let room : length a.draft.bytes + 4 ≤ 28 = omega (arith, begun) in
      let one = one_put 4 0 shutdown_ack_chunk a.draft d first tt refl refl head room in
      let grown = one-longer 4 0 shutdown_ack_chunk a.draft d first tt refl refl head room longer in
      let two = error_put 0 0 10 [] d b.draft put refl refl (omega (arith, begun, grown)) (omega (arith, begun, grown)) in
      reply-is alone.ShuttingDown (shutdown_ack_chunk ∷ error_chunk (one_cause 10 []) ∷ []) is refl
      (adds_then (shutdown_ack_chunk ∷ []) (error_chunk (one_cause 10 []) ∷ []) a.draft.bytes d.bytes b.draft.bytes one two)

-- ## Its packet

-- what was put behind a header, sealed
pub replied : (alone : Alone) (a : Association) (limit : ℕ) (h : CommonHeader) (ws : List Wire) (begun full sealed : List ℕ) → limit ≡ a.draft.limit
    → AreReply limit a.key a.machine a.due.unknown_params alone.kind ws → h ≡ header_to a.config alone.tag → IsDraft (headed h) begun → Adds ws begun full
    → ((p : Parts) → IsDraft p full → sealed ≡ packet_encoding (sum_of false) p) → IsReply alone a sealed
replied alone a limit h ws begun full sealed same are is draft added encoded =
    let d = added.draft (headed h) draft in
    record {
      chunks = ws;
      are = subst (λ l. AreReply l a.key a.machine a.due.unknown_params alone.kind ws) same are;
      packet = subst (λ k. IsPacketWith k ws sealed) is (record { encoded = encoded _ d; encodings = d.encodings; fits = d.fits });
    }
