-- What is left of a message.
use Rattle.std.proofs.Common.{Bool, List, [], ◌∷◌}
use Rattle.sctp_data.specs.declared.chunk.chunk_payload_data.ChunkPayloadData.{ChunkPayloadData}
use Rattle.sctp_outbound.specs.pending_queue.Whole.{IsMessage}

-- nothing, or fragments up to the end of a message, which is begun already or not
abbrev pub IsRest : Bool → Bool → List ChunkPayloadData → Type 0
IsRest kind begun [] = Unit {0}
IsRest kind begun (c ∷ cs) = IsMessage kind begun (c ∷ cs)
