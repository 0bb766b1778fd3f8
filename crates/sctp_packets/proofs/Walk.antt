-- Walks over the chunks of a packet.
use Rattle.std.proofs.Common.{◌≡◌, ℕ, ◌<◌, List, [], ◌∷◌, ◌++◌, length, ap, arith}
use Rattle.std.specs.List.{AllByRecursion}
use Rattle.sctp_util.specs.Walk.{Walks}
use Rattle.sctp_util.proofs.Walks.{walks_step, walks_one}
use Rattle.sctp_chunks.specs.Wire.{Wire}
use Rattle.sctp_chunks.proofs.One.{reads_one}
use Rattle.sctp_packets.specs.Packet.{Steps, after}

-- no chunk stands at the end of the bytes
no_step : (w : Wire) → Steps [] w → ⊥
no_step w r = omega (arith, r.chunk.is_framed.headed)

-- whoever walks over all of the bytes takes a step wherever another walk stands before the end
pub goes_on : (bytes : List ℕ) (ws vs : List Wire) (rest : List ℕ) → Walks Steps after bytes ws rest → Walks Steps after bytes vs [] → 0 < length rest
    → (w : Wire) × Steps rest w
goes_on bytes ws vs rest so_far whole some =
    let more : (rest ≡ [] → ⊥) = λ e. omega (arith, ap length e) in
    walks_step Steps after bytes ws vs rest [] no_step more so_far whole

-- the bytes are one list of chunks at most
pub walks_same : (bytes : List ℕ) (ws vs : List Wire) → Walks Steps after bytes ws [] → Walks Steps after bytes vs [] → ws ≡ vs
walks_same bytes ws vs a b = walks_one Steps after (λ bs v w r s. reads_one bs v w r.chunk s.chunk) bytes ws vs [] [] no_step no_step a b

pub all_next : {A : Type 0} (P : A → Type 0) (ws : List A) (w : A) → AllByRecursion P ws → P w → AllByRecursion P (ws ++ w ∷ [])
all_next P [] w all last = (last, tt)
all_next P (v ∷ ws) w all last = (all.0, all_next P ws w all.1 last)
