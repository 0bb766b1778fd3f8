use Rattle.std.proofs.Common.{arith}
use Rattle.std.proofs.lemmas.Grind.{common_steps}
use Rattle.sctp_chunks.specs.IForwardTsn.{i_forward_tsn_value}
use Rattle.sctp_chunks.proofs.chunk.chunk_i_forward_tsn.ChunkIForwardTsnChunk.put_value.Goals as goal

pub returns-clause-items : goal.returns-clause-items
unfolding i_forward_tsn_value
returns-clause-items c = grind (arith, common_steps)
