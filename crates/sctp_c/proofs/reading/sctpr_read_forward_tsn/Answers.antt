use Rattle.sctp_chunks.specs.Wire.{forward_tsn_chunk}
use Rattle.sctp_c.proofs.reading.sctpr_read_forward_tsn.Goals as goal

pub returns-in-Err-clause-only : goal.returns-in-Err-clause-only
returns-in-Err-clause-only c = λ w reads refused. c.of_error.ensures.memory (c.in-Err.ensures.only (forward_tsn_chunk w) tt reads)
