-- What the strict reading of a packet reads, the reading past unknown chunks reads too.
use Rattle.std.proofs.Common.{◌≡◌, ℕ, ◌+◌, ◌≤◌, Bool, true, false, List, [], ◌∷◌, length, refl, sym, subst, ap, ◌∙◌, inl, inr, drop}
use Rattle.std.proofs.lemmas.Bool.{false≢true}
use Rattle.sctp_util.specs.declared.error.Error.{Error}
use Rattle.sctp_util.specs.declared.error.Error.TheVariants.{ErrUnmarshalUnknownChunkType}
use Rattle.sctp_chunks.specs.Kind.{KindFault}
use Rattle.std.specs.Prelude.{not, ◌&&◌, nat_lt}
use Rattle.std.proofs.lemmas.List.{drop-drop}
use Rattle.sctp_util.specs.Padding.{padded_length}
use Rattle.sctp_util.specs.Walk.{Walks}
use Rattle.sctp_chunks.specs.Framing.{declared_length, type_at}
use Rattle.sctp_chunks.specs.Init.{ack_type}
use Rattle.sctp_chunks.specs.Wire.{Wire, data_chunk, init_chunk, sack_chunk, heartbeat_chunk, heartbeat_ack_chunk, abort_chunk, shutdown_chunk}
use Rattle.sctp_chunks.specs.Wire.{shutdown_ack_chunk, error_chunk, cookie_echo_chunk, cookie_ack_chunk, shutdown_complete_chunk, reconfig_chunk}
use Rattle.sctp_chunks.specs.Wire.{forward_tsn_chunk, i_forward_tsn_chunk, type_of}
use Rattle.sctp_packets.specs.Packet.{Steps, after}
use Rattle.sctp_datagram.proofs.Alone.{by-itself, starts-with}
use Rattle.sctp_datagram.specs.Framing.{ChunkFault, HasFrame}
use Rattle.sctp_datagram.specs.Places.{IsThere, Passes, TellsAll}
use Rattle.sctp_datagram.specs.Types.{is_read_type, is_stopping}

ack-read : (b : Bool) → is_read_type (ack_type b) ≡ true
ack-read true = refl
ack-read false = refl

-- the types of chunks that are read
pub read-type : (w : Wire) → is_read_type (type_of w) ≡ true
read-type (data_chunk d) = refl
read-type (init_chunk i) = ack-read i.is_ack
read-type (sack_chunk s) = refl
read-type (heartbeat_chunk ps) = refl
read-type (heartbeat_ack_chunk ps) = refl
read-type (abort_chunk cs) = refl
read-type (shutdown_chunk n) = refl
read-type shutdown_ack_chunk = refl
read-type (error_chunk cs) = refl
read-type (cookie_echo_chunk b) = refl
read-type cookie_ack_chunk = refl
read-type shutdown_complete_chunk = refl
read-type (reconfig_chunk r) = refl
read-type (forward_tsn_chunk f) = refl
read-type (i_forward_tsn_chunk f) = refl

-- other types are those of no chunk
pub other_type : (e : Error) (bytes : List ℕ) → e ≡ ErrUnmarshalUnknownChunkType → HasFrame bytes → is_read_type (type_at bytes) ≡ false
    → ChunkFault KindFault e bytes
unfolding KindFault
other_type e bytes is framed unread =
    let s = by-itself bytes framed in
    inr (framed, inr (inl (is, s.is_framed.headed, λ w same. false≢true (sym unread ∙ ap is_read_type (sym s.typ ∙ same) ∙ read-type w))))

-- none of them stops the reading
goes-on-behind : (bytes : List ℕ) (w : Wire) → Steps bytes w → is_stopping (type_at bytes) ≡ false
goes-on-behind bytes w step =
    let known : is_read_type (type_at bytes) ≡ true = subst (λ (t : ℕ). is_read_type t ≡ true) (sym step.chunk.typ) (read-type w) in
    ap (λ (b : Bool). not b && nat_lt (type_at bytes) 128) known

pub strict-passes : {T : Type 0} (row : List ℕ → ℕ → T) (packet : List ℕ) (at : ℕ) (ws : List Wire) → Walks Steps after (drop at packet) ws []
    → (rows : List T) × (end : ℕ) × Passes row packet at rows end × (drop end packet ≡ [])
unfolding Walks after
strict-passes row packet at [] walk = ([], at, refl, walk)
strict-passes row packet at (w ∷ ws) walk =
    let next = at + padded_length (declared_length (drop at packet)) in
    let starts = starts-with (drop at packet) w walk.0.chunk in
    let there : IsThere (drop at packet) = record { is_framed = starts.is_framed; whole = walk.0.whole; reads = λ _. (w, starts) } in
    let later = strict-passes row packet next ws
    (subst (λ (b : List ℕ). Walks Steps after b ws []) (drop-drop (padded_length (declared_length (drop at packet))) at packet) walk.1) in
    (row packet at ∷ later.0, later.1, (refl, there, goes-on-behind (drop at packet) w walk.0, later.2), later.3)

pub strict_told : {T : Type 0} (row : List ℕ → ℕ → T) (packet : List ℕ) (ws : List Wire) → Walks Steps after (drop 12 packet) ws []
    → (rows : List T) × TellsAll row packet rows
strict_told row packet ws walk =
    let all = strict-passes row packet 12 ws walk in
    (all.0, record { passed = all.0; end = all.1; passes = all.2; ended = inl (all.3, refl) })
