use Rattle.sctp_chunks.specs.Wire.{shutdown_chunk}
use Rattle.sctp_c.proofs.reading.sctpr_read_shutdown.Goals as goal

pub returns-in-Err-clause-only : goal.returns-in-Err-clause-only
returns-in-Err-clause-only c = λ n reads refused. c.of_error.ensures.memory (c.in-Err.ensures.only (shutdown_chunk n) tt reads)
