use Rattle.sctp_data.specs.declared.chunk.chunk_payload_data.ChunkPayloadData.{ChunkPayloadData}
use Rattle.sctp_reassembly.proofs.lemmas.reassembly_queue.ExactFlags.{out_of_order_insert}
use Rattle.sctp_reassembly.proofs.reassembly_queue.fragment_places.insertion_by_walk.Goals as goal

pub returns-clause-exact : goal.returns-clause-exact
returns-clause-exact c y same =
    out_of_order_insert (λ (x : ChunkPayloadData). x.tsn) c.args.chunks.now c.insertion_place.result y c.insertion_place.ensures.in_range c.requires
