-- Where the chunks of a packet lie.
use Rattle.std.proofs.Common.{◌≡◌, ℕ, ◌+◌, ◌-◌, ◌<◌, ◌≤◌, List, [], ◌∷◌, ◌++◌, length, ap, sym, subst, refl, arith, length-append}
use Rattle.std.specs.Prelude.{zero, suc, drop}
use Rattle.std.proofs.lemmas.List.{length-drop, drop-drop}
use Rattle.sctp_util.specs.Field.{u16_at, u32_at}
use Rattle.sctp_util.specs.Padding.{padded_length}
use Rattle.sctp_util.specs.Walk.{Walks}
use Rattle.sctp_util.proofs.Walks.{walks_none, walks_next}
use Rattle.sctp_chunks.specs.Framing.{declared_length}
use Rattle.sctp_chunks.specs.Wire.{Wire}
use Rattle.sctp_packets.specs.Packet.{IsHeaded, Steps, after}
use Rattle.sctp_datagram.specs.Places.{behind, rows_from}
use Rattle.sctp_c.specs.Head.{HaveChunks, HeadsPacket, IsPacket, Lie, chunks_from}
use Rattle.sctp_c.specs.Out.{filled}
use Rattle.sctp_c.specs.declared.packet.SctpChunk.{SctpChunk}
use Rattle.sctp_c.specs.declared.packet.SctpHead.{SctpHead}

pub length-rows_from : {T : Type 0} (row : List ℕ → ℕ → T) (n : ℕ) (packet : List ℕ) (at : ℕ) → length (rows_from row packet at n) ≡ n
length-rows_from row zero packet at = refl
length-rows_from row (suc n) packet at = ap suc (length-rows_from row n packet (behind packet at))

-- one of the chunks that are left, and those behind it
pub record Next (packet : List ℕ) (at n : ℕ) : Type 0 where
  pub headed : at + 4 ≤ length packet
  pub whole : behind packet at ≤ length packet
  pub later : Lie packet (behind packet at) n

pub lie-next : (packet : List ℕ) (at i n : ℕ) → i < n → Lie packet at (n - i) → Next packet at (n - suc i)
lie-next packet at i n lt lie =
    let one : n - i ≡ suc (n - suc i) = omega arith in
    let here = subst (λ (k : ℕ). Lie packet at k) one lie in
    record { headed = here.0; whole = here.1; later = here.2 }

-- the rows that are left, after one more
pub later-rows : {T : Type 0} (row : List ℕ → ℕ → T) (packet : List ℕ) (at i n : ℕ) (all : List T) → i < n → drop i all ≡ rows_from row packet at (n - i)
    → drop i all ≡ row packet at ∷ rows_from row packet (behind packet at) (n - suc i)
later-rows row packet at i n all lt e =
    let one : n - i ≡ suc (n - suc i) = omega arith in
    rw one at e

-- where a chunk and its padding are there
pub here : (packet : List ℕ) (at : ℕ) → 4 ≤ length (drop at packet) → padded_length (declared_length (drop at packet)) ≤ length (drop at packet)
    → (at + 4 ≤ length packet) × (behind packet at ≤ length packet)
here packet at headed whole = (omega (arith, headed, length-drop at packet), omega (arith, headed, whole, length-drop at packet))

-- the chunks of a packet lie there
pub walk-lie : (packet : List ℕ) (at : ℕ) (ws : List Wire) → Walks Steps after (drop at packet) ws [] → Lie packet at (length ws)
unfolding Walks after
walk-lie packet at [] walk = tt
walk-lie packet at (w ∷ ws) walk =
    let place = here packet at walk.0.chunk.is_framed.headed walk.0.whole in
    let rest = subst (λ (b : List ℕ). Walks Steps after b ws []) (drop-drop (padded_length (declared_length (drop at packet))) at packet) walk.1 in
    (place.0, place.1, walk-lie packet (behind packet at) ws rest)

pub chunks_lie : (packet : List ℕ) (n : ℕ) → HaveChunks (drop 12 packet) n → Lie packet 12 n
chunks_lie packet n have = subst (λ (k : ℕ). Lie packet 12 k) (sym have.count) (walk-lie packet 12 have.chunks have.walk)

-- ## Chunks counted

-- so many chunks lie before a place
abbrev pub CountedTo : List ℕ → ℕ → ℕ → Type 0
CountedTo packet at n = (ws : List Wire) × Walks Steps after (drop 12 packet) ws (drop at packet) × (n ≡ length ws)

pub counted-none : (packet : List ℕ) → CountedTo packet 12 0
counted-none packet = ([], walks_none Steps after (drop 12 packet), refl)

pub counted-next : (packet : List ℕ) (at n : ℕ) → CountedTo packet at n → (w : Wire) × Steps (drop at packet) w → CountedTo packet (behind packet at) (n + 1)
unfolding after
counted-next packet at n so_far next =
    let ws = so_far.0 in
    let walk = walks_next Steps after (drop 12 packet) ws (drop at packet) next.0 so_far.1 next.1 in
    let rest : drop (padded_length (declared_length (drop at packet))) (drop at packet) ≡ drop (behind packet at) packet =
    drop-drop (padded_length (declared_length (drop at packet))) at packet in (
      ws ++ next.0 ∷ [],
      subst (λ (b : List ℕ). Walks Steps after (drop 12 packet) (ws ++ next.0 ∷ []) b) rest walk,
      omega (arith, so_far.2, length-append ws (next.0 ∷ [])),
    )

-- so counted, the bytes are a packet
pub is_packet : (sum : List ℕ → ℕ) (bytes : List ℕ) (h : SctpHead) (n : ℕ) (old new : List SctpChunk) → IsHeaded sum bytes → HaveChunks (drop 12 bytes) n
    → HeadsPacket bytes h → new ≡ filled (chunks_from bytes 12 n) old → IsPacket sum bytes h n old new
is_packet sum bytes h n old new headed have head rows = record {
  parts = record {
    source_port = u16_at bytes 0;
    destination_port = u16_at bytes 2;
    verification_tag = u32_at bytes 4;
    chunks = have.chunks;
  };
  reads = record { is_headed = headed; source_port = refl; destination_port = refl; verification_tag = refl; chunks = have.walk };
  head = record { source_port = head.source_port; destination_port = head.destination_port; verification_tag = head.verification_tag };
  chunks = have.count;
  rows = rows;
}
