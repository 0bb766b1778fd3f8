use Rattle.std.proofs.Common.{map, ap, ◌∙◌}
use Rattle.slab.specs.Slab.{get}
use Rattle.sctp_data.specs.declared.chunk.chunk_payload_data.ChunkPayloadData.{ChunkPayloadData}
use Rattle.sctp_outbound.specs.Stored.{Stored}
use Rattle.sctp_outbound.specs.declared.payload_queue.held.Place.{Place}
use Rattle.sctp_outbound.proofs.lemmas.payload_queue.Places.{held_tsns}
use Rattle.sctp_outbound.proofs.payload_queue.held.Held.tsns.Goals as goal

pub returns : goal.returns
returns c = ap (map (λ (p : Place). p.tsn)) c.as_slices.ensures.items ∙ held_tsns (get c.self.inside.slab) _ _ c.self.invariant.held
    ∙ ap (λ (s : Stored). map (λ (x : ChunkPayloadData). x.tsn) s.chunks) c.self.view_is
