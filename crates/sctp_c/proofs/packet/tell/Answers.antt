use Rattle.std.proofs.lemmas.Bool.{false≢true}
use Rattle.sctp_c.proofs.Places.{chunks_lie, is_packet}
use Rattle.sctp_c.proofs.packet.tell.Goals as goal

pub fill-requires : goal.fill-requires
fill-requires g c = chunks_lie c.args.raw.now c.in-Ok.chunks c.in-Ok.ensures.found

pub returns-in-Ok-clause-read : goal.returns-in-Ok-clause-read
returns-in-Ok-clause-read g c _ =
    is_packet _ c.args.raw.now c.head_at.result c.in-Ok.chunks c.args.rows.now _ c.in-Ok.ensures.headed c.in-Ok.ensures.found c.head_at.ensures
    c.fill.ensures

pub returns-in-Err-clause-only : goal.returns-in-Err-clause-only
returns-in-Err-clause-only g c = λ p reads refused. c.of_error.ensures.memory (c.in-Err.ensures.only p reads)

pub returns-in-Err-clause-in_place : goal.returns-in-Err-clause-in_place
returns-in-Err-clause-in_place g c = λ p all reads. absurd (false≢true (c.in-Err.ensures.in_place p all reads))
