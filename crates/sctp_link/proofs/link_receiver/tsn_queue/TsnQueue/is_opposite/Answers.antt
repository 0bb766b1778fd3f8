use Rattle.std.proofs.Common.{arith}
use Rattle.std.proofs.lemmas.List.{length-map}
use Rattle.sctp_data.specs.declared.chunk.chunk_payload_data.ChunkPayloadData.{ChunkPayloadData}
use Rattle.sctp_link.proofs.link_receiver.tsn_queue.TsnQueue.is_opposite.Goals as goal

pub returns-clause-places : goal.returns-clause-places
returns-clause-places c =
    let m = length-map c.self.inside.queue.chunks (λ (x : ChunkPayloadData). x.tsn) in
    rw (← c.self.view_is) (omega (arith, m))
