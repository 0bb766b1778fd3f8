-- Chunks that a caller reads one after another, and lets go.
use Rattle.std.specs.Prelude.{◌≡◌, ℕ, List, length}
use Rattle.sctp_util.specs.Walk.{Walks}
use Rattle.sctp_chunks.specs.Wire.{Wire}
use Rattle.sctp_packets.specs.Packet.{Steps, after}

-- the bytes begin with a chunk, and these follow it
pub record Passes (old new : List ℕ) : Type 0 where
  pub chunk : Wire
  pub found : Steps old chunk
  pub rest : new ≡ after old

-- the bytes are so many chunks, and then the rest
pub record HasRead (bytes rest : List ℕ) (count : ℕ) : Type 0 where
  pub chunks : List Wire
  pub walk : Walks Steps after bytes chunks rest
  pub counted : count ≡ length chunks
