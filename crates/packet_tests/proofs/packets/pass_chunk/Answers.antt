use Rattle.std.proofs.Common.{◌≡◌, ◌∙◌, ℕ, List, Option, Some, None, true, IfSome, is_some, sym}
use Rattle.std.proofs.lemmas.Bool.{false≢true}
use Rattle.sctp_chunks.specs.Kind.{wire_of}
use Rattle.sctp_chunks.specs.declared.chunk.chunk_kind.ChunkKind.{ChunkKind}
use Rattle.sctp_packets.specs.Packet.{Steps, after}
use Rattle.packet_tests.specs.Passing.{Passes}
use Rattle.packet_tests.proofs.packets.pass_chunk.Goals as goal

passes : (o : Option ChunkKind) (old new : List ℕ) → IfSome o (λ k. Steps old (wire_of k) × (new ≡ after old)) → is_some o ≡ true → Passes old new
passes None old new some is = absurd (false≢true is)
passes (Some k) old new some is = record { chunk = wire_of k; found = some.0; rest = some.1 }

pub returns-clause-passed : goal.returns-clause-passed
returns-clause-passed c some = passes c.in_ok-chunk.chunk _ _ c.in_ok-chunk.ensures.chunk (sym c.is_some.ensures ∙ some)
