use Rattle.std.proofs.Common.{inr}
use Rattle.sctp_chunks.specs.Wire.{data_chunk}
use Rattle.sctp_datagram.proofs.InPlace.{data_valid}
use Rattle.sctp_c.proofs.reading.sctpr_read_data.Goals as goal

pub returns-in-Err-clause-only : goal.returns-in-Err-clause-only
returns-in-Err-clause-only c = λ d starts refused. absurd (data_valid _ c.args.chunk.now (data_chunk d) starts starts.typ c.in-Err.ensures.fault)

pub returns-in-Err-clause-refused : goal.returns-in-Err-clause-refused
returns-in-Err-clause-refused c = λ refused. record { error = c.in-Err.e; number = c.of_error.ensures.number; fault = inr c.in-Err.ensures.fault }
