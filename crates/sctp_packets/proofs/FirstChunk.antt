-- Where a packet begins with a chunk.
use Rattle.std.proofs.Common.{ℕ, ◌<◌, ◌≤◌, List, [], ◌∷◌, length, ap, arith, inl, inr}
use Rattle.sctp_util.specs.declared.error.Error.{Error}
use Rattle.sctp_util.specs.Walk.{Walks}
use Rattle.sctp_chunks.specs.Framing.{IsFramed, type_at, value_at}
use Rattle.sctp_chunks.specs.Fault.{HeaderFault}
use Rattle.sctp_chunks.specs.Wire.{Wire, init_chunk}
use Rattle.sctp_packets.specs.Packet.{Steps, after}
use Rattle.sctp_packets.specs.Partial.{IsInitType}

-- the first of some chunks
pub first_step : (bytes : List ℕ) (ws : List Wire) → Walks Steps after bytes ws [] → 0 < length ws → (w : Wire) × Steps bytes w
unfolding Walks
first_step bytes [] walk some = absurd (omega arith)
first_step bytes (w ∷ ws) walk some = (w, walk.0)

-- bytes that are not empty are not no chunks
pub some_chunks : (bytes : List ℕ) (ws : List Wire) → Walks Steps after bytes ws [] → 0 < length bytes → 0 < length ws
unfolding Walks
some_chunks bytes [] walk some = absurd (omega (arith, ap length walk))
some_chunks bytes (w ∷ ws) walk some = omega arith

pub framed_no_fault : (e : Error) (bytes : List ℕ) → HeaderFault e bytes → IsFramed bytes → ⊥
framed_no_fault e bytes fault f = elim fault [
  | inl short ↦ omega (arith, short, f.headed)
  | inr more ↦ elim more [
    | inl small ↦ omega (arith, small, f.least)
    | inr more ↦ elim more [
      | inl long ↦ omega (arith, long, f.within)
      | inr padded ↦ padded.4 (f.padded padded.3)
    ]
  ]
]

-- an INIT or INIT-ACK is long enough for its tag
pub init_long : (bytes : List ℕ) (w : Wire) → Steps bytes w → IsInitType (type_at bytes) → 4 ≤ length (value_at bytes)
init_long bytes (init_chunk i) s typ = omega (arith, s.chunk.value.long)
init_long bytes w s typ = absurd (elim typ [ inl e ↦ omega (arith, e, s.chunk.typ) | inr e ↦ omega (arith, e, s.chunk.typ) ])
