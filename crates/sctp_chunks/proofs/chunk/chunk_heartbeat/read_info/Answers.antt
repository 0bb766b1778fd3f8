use Rattle.std.proofs.lemmas.Result.{err_from_is_err_and}
use Rattle.sctp_params.specs.Param.{heartbeat_info}
use Rattle.sctp_chunks.proofs.chunk.chunk_heartbeat.read_info.Goals as goal

pub returns-in_err-param-clause-only : goal.returns-in_err-param-clause-only
returns-in_err-param-clause-only c = λ ps whole.
    let p = err_from_is_err_and c.from_residual.result c.from_residual.ensures.1 in
    rw (p.1, p.2) (c.in_err-param.ensures.only (heartbeat_info whole.info) whole.reads)
