-- The bytes of a chunk alone, as they are cut out of the datagram.
use Rattle.std.proofs.Common.{◌≡◌, ◌≤◌, ℕ, ◌+◌, ◌-◌, ◌^◌, List, length, take, drop, ap, arith, ◌∙◌}
use Rattle.std.proofs.lemmas.List.{length-drop}
use Rattle.std.specs.Prelude.{min}
use Rattle.sctp_chunks.specs.Framing.{declared_length}
use Rattle.sctp_datagram.specs.declared.datagram.ChunkPlace.{ChunkPlace}
use Rattle.sctp_datagram.specs.Places.{IsPlace}

pub cut_whole : (d : List ℕ) (p : ChunkPlace) → IsPlace d p → (raw : List ℕ) (end : ℕ) → raw ≡ take (end - p.at) (drop p.at d)
    → end ≡ min (p.at + p.length) (2 ^ 64 - 1) → length d ≤ 2 ^ 64 - 1 → raw ≡ take p.length (drop p.at d)
cut_whole d p place raw end cut is fits =
    let same : p.length ≡ declared_length (drop p.at d) = ap (λ q. q.length) place.told in
    let framed = place.there.is_framed in
    let size : end - p.at ≡ p.length = omega (arith, same, framed.least, framed.within, length-drop p.at d, is, fits) in
    cut ∙ ap (λ n. take n (drop p.at d)) size
