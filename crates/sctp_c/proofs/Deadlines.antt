-- The earliest deadline of chunks in flight, one after another.
use Rattle.std.proofs.Common.{◌≡◌, ℕ, zero, suc, ◌+◌, ◌<◌, List, [], ◌∷◌, length, drop, refl, ap, ◌∙◌, arith}
use Rattle.std.specs.Prelude.{Option, slice_get}
use Rattle.sctp_data.specs.declared.chunk.chunk_payload_data.ChunkPayloadData.{ChunkPayloadData}
use Rattle.sctp_c.specs.Deadlines.{earlier, in_flight_deadline, least_of}

least-step : (i : ℕ) (cs : List ChunkPayloadData) (first : Option ℕ) → i < length cs
    → least_of (earlier first (in_flight_deadline (slice_get cs i))) (drop (suc i) cs) ≡ least_of first (drop i cs)
least-step i [] first lt = absurd (omega arith)
least-step zero (c ∷ cs) first lt = refl
least-step (suc i) (c ∷ cs) first lt = least-step i cs first (omega arith)

-- one chunk more is looked at
pub least-next : (i : ℕ) (cs : List ChunkPayloadData) (first : Option ℕ) → i < length cs
    → least_of (earlier first (in_flight_deadline (slice_get cs i))) (drop (i + 1) cs) ≡ least_of first (drop i cs)
least-next i cs first lt =
    let next : i + 1 ≡ suc i = omega arith in
    ap (λ k. least_of (earlier first (in_flight_deadline (slice_get cs i))) (drop k cs)) next ∙ least-step i cs first lt
