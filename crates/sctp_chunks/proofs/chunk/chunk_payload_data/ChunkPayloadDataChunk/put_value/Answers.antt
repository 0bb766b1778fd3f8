use Rattle.std.proofs.Common.{arith}
use Rattle.std.proofs.lemmas.Grind.{common_steps}
use Rattle.sctp_data.specs.PayloadData.{data_value}
use Rattle.sctp_chunks.proofs.chunk.chunk_payload_data.ChunkPayloadDataChunk.put_value.Goals as goal

pub returns-clause-items : goal.returns-clause-items
unfolding data_value
returns-clause-items c = grind (arith, common_steps)
