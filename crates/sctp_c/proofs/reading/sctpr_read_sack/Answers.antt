use Rattle.std.proofs.Common.{inr}
use Rattle.sctp_chunks.specs.Wire.{sack_chunk}
use Rattle.sctp_datagram.proofs.InPlace.{sack_valid}
use Rattle.sctp_c.proofs.InPlace.{is_sack}
use Rattle.sctp_c.proofs.reading.sctpr_read_sack.Goals as goal

pub returns-in-Ok-clause-read : goal.returns-in-Ok-clause-read
returns-in-Ok-clause-read c _ =
    let e = c.in-Ok.ensures in
    is_sack c.args.chunk.now c.in-Ok.value.now _ c.args.blocks.now _ c.args.duplicates.now _ e.chunk e.value e.headed e.long c.read_u16-gaps.ensures
    c.read_u16-repeats.ensures c.read_u32.ensures c.read_u32-in-Ok.ensures c.fill_gaps.ensures c.fill_numbers.ensures

pub returns-in-Err-clause-only : goal.returns-in-Err-clause-only
returns-in-Err-clause-only c = λ s starts refused. absurd (sack_valid _ c.args.chunk.now (sack_chunk s) starts starts.typ c.in-Err.ensures.fault)

pub returns-in-Err-clause-refused : goal.returns-in-Err-clause-refused
returns-in-Err-clause-refused c = λ refused. record { error = c.in-Err.e; number = c.of_error.ensures.number; fault = inr c.in-Err.ensures.fault }
