use Rattle.std.proofs.lemmas.Bool.{false≢true}
use Rattle.sctp_datagram.proofs.Walk.{retold}
use Rattle.sctp_datagram.specs.Places as places
use Rattle.sctp_c.specs.AnyChunks.{any_chunk_at}
use Rattle.sctp_c.proofs.AnyRows.{is_any_packet}
use Rattle.sctp_c.proofs.packet.any.tell_any.Goals as goal

pub returns-in-Ok-clause-read : goal.returns-in-Ok-clause-read
returns-in-Ok-clause-read g c _ =
    is_any_packet _ c.args.raw.now c.head_at.result _ _ c.args.rows.now _ c.in-Ok.ensures.accepted c.in-Ok.ensures.all c.left.ensures c.head_at.ensures
    c.fill.ensures

pub returns-in-Err-clause-only : goal.returns-in-Err-clause-only
returns-in-Err-clause-only g c = λ all headed told refused.
    let other = retold any_chunk_at places.place_at c.args.raw.now all told in
    c.of_error.ensures.memory (c.in-Err.ensures.only other.0 headed other.1)

pub returns-in-Err-clause-in_place : goal.returns-in-Err-clause-in_place
returns-in-Err-clause-in_place g c = λ ws headed all walk. absurd (false≢true (c.in-Err.ensures.in_place ws headed all walk))
