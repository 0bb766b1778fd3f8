use Rattle.std.proofs.Common.{arith}
use Rattle.std.proofs.lemmas.Grind.{common_steps}
use Rattle.sctp_data.specs.SelectiveAck.{sack_value}
use Rattle.sctp_chunks.proofs.chunk.chunk_selective_ack.ChunkSelectiveAckChunk.put_value.Goals as goal

pub returns-clause-items : goal.returns-clause-items
unfolding sack_value
returns-clause-items c = grind (arith, common_steps)
