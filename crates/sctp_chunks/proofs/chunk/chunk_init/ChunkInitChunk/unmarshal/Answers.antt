use Rattle.std.proofs.Common.{false, length, arith, ap, rules}
use Rattle.std.proofs.lemmas.Result.{err_from_is_err_and}
use Rattle.std.proofs.lemmas.List.{length-drop}
use Rattle.sctp_chunks.specs.Framing.{value_at}
use Rattle.sctp_chunks.proofs.One.{init_one, init_params}
use Rattle.sctp_chunks.proofs.ParamsEncoding.{params_encoding_short}
use Rattle.sctp_chunks.proofs.Lengths.{init_has_length}
use Rattle.sctp_chunks.proofs.chunk.chunk_init.ChunkInitChunk.unmarshal.Goals as goal

pub returns-in_err-params-clause-only : goal.returns-in_err-params-clause-only
returns-in_err-params-clause-only c = λ w k r.
    let p = err_from_is_err_and c.from_residual-in_err-params.result c.from_residual-in_err-params.ensures.1 in
    let ps = init_params c.args.raw.now w k r in
    rw (p.1, p.2) (c.in_err-params.ensures.only ps.0 (rw c.in_ok-share_value.ensures.part ps.1))

pub returns-clause-found : goal.returns-clause-found
returns-clause-found c = search rules

pub returns-clause-only : goal.returns-clause-only
returns-clause-only c = λ w k r. init_one c.args.raw.now _ w (returns-clause-found c) r

pub returns-clause-rewritable : goal.returns-clause-rewritable
returns-clause-rewritable c =
    let found = c.in_ok-params.ensures.found in
    let short = params_encoding_short false _ _ found.rest found.walk in
    let part = ap length c.in_ok-share_value.ensures.part in
    let cut = length-drop 16 (value_at c.args.raw.now) in (
      tt,
      init_has_length _ _ short
          (omega (arith, part, cut, ap length c.in_ok-header.ensures.value, c.in_ok-header.ensures.short, c.if-value-lt-INIT_CHUNK_MIN_LENGTH.false)),
    )
