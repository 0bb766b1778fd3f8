use Rattle.std.proofs.Common.{length, ap, arith}
use Rattle.sctp_chunks.proofs.ParamsEncoding.{params_length_from, no_params_left}
use Rattle.sctp_chunks.proofs.chunk.params.params_length.Goals as goal

pub loop-i-preserved : goal.loop-i-preserved
loop-i-preserved c =
    let e = params_length_from c.args.bare c.args.params.now c.loop-i.i c.index-params-i.result c.loop-i-test.true in
    let step = rw (← c.index-params-i.is, ← c.stands_bare.ensures) at e in
    record {
      fits = omega (arith, c.saturating_add-length.ensures);
      length = omega (arith, step, c.param_length-own.ensures, c.saturating_add-length.ensures, c.loop-i.invariant.length);
    }

pub returns : goal.returns
returns c =
    let left = no_params_left c.args.bare c.args.params.now c.loop-i.i (omega arith) in
    let none = ap length left in
    let all = c.loop-i.invariant.length in
    omega (arith, none, all)
