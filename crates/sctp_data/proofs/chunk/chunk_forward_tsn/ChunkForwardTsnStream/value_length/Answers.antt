use Rattle.std.proofs.Common.{refl, sym, length-append}
use Rattle.sctp_util.proofs.Fields.{length_be16}
use Rattle.sctp_data.proofs.chunk.chunk_forward_tsn.ChunkForwardTsnStream.value_length.Goals as goal

pub returns : goal.returns
returns c = sym (simp (length-append, length_be16) refl)
