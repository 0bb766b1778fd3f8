-- Chunks under keys, and their places in order.
use Rattle.std.specs.Prelude.{◌≡◌, ◌≢◌, ℕ, Some, Option, List, [], ◌∷◌, filter_map, ⊤}
use Rattle.std.specs.List.{AllByRecursion}
use Rattle.sctp_data.specs.declared.chunk.chunk_payload_data.ChunkPayloadData.{ChunkPayloadData}
use Rattle.sctp_outbound.specs.declared.payload_queue.held.Place.{Place}

-- the chunks under the keys of these places
abbrev pub chunks_at : (ℕ → Option ChunkPayloadData) → List Place → List ChunkPayloadData
chunks_at under places = filter_map (λ p. under p.key) places

-- each place has the key and the TSN of its chunk, and no later place has its key
abbrev pub AreHeldAt : (ℕ → Option ChunkPayloadData) → List Place → List ChunkPayloadData → Type 0
AreHeldAt under [] [] = ⊤
AreHeldAt under [] (c ∷ cs) = ⊥
AreHeldAt under (p ∷ ps) [] = ⊥
AreHeldAt under (p ∷ ps) (c ∷ cs) =
    (under p.key ≡ Some c) × (p.tsn ≡ c.tsn) × AllByRecursion (λ q. q.key ≢ p.key) ps
    × AreHeldAt under ps cs
