use Rattle.std.proofs.Common.{length, ap, append_assoc, arith}
use Rattle.std.proofs.lemmas.List.{append-nil}
use Rattle.sctp_chunks.proofs.ParamsEncoding.{params_encoding_from, params_length_from, no_params_left}
use Rattle.sctp_chunks.proofs.chunk.params.put_params.Goals as goal

pub put_param-requires-clause-encoding : goal.put_param-requires-clause-encoding
put_param-requires-clause-encoding c =
    let e = params_length_from c.args.bare c.args.params.now c.loop-i.i c.index-params-i.result c.loop-i-test.true in
    let step = rw (← c.index-params-i.is, ← c.stands_bare.ensures) at e in
    omega (arith, step, c.loop-i.invariant.encoding)

pub put_param-requires-clause-room : goal.put_param-requires-clause-room
put_param-requires-clause-room c =
    let e = params_length_from c.args.bare c.args.params.now c.loop-i.i c.index-params-i.result c.loop-i-test.true in
    let step = rw (← c.index-params-i.is, ← c.stands_bare.ensures) at e in
    omega (arith, step, c.loop-i.invariant.room)

pub loop-i-preserved : goal.loop-i-preserved
loop-i-preserved c =
    let e = params_encoding_from c.args.bare c.args.params.now c.loop-i.i c.index-params-i.result c.loop-i-test.true in
    let n = params_length_from c.args.bare c.args.params.now c.loop-i.i c.index-params-i.result c.loop-i-test.true in
    let encoding = rw (← c.index-params-i.is, ← c.stands_bare.ensures) at e in
    let long = rw (← c.index-params-i.is, ← c.stands_bare.ensures) at n in
    record {
      items = rw (c.put_param.ensures.items, append_assoc, ← encoding) c.loop-i.invariant.items;
      encoding = omega (arith, long, c.loop-i.invariant.encoding);
      room = omega (arith, long, c.put_param.ensures.spare, c.loop-i.invariant.room);
      spare = omega (arith, long, c.put_param.ensures.spare, c.loop-i.invariant.spare);
    }

pub returns-clause-items : goal.returns-clause-items
returns-clause-items c =
    let left = no_params_left c.args.bare c.args.params.now c.loop-i.i (omega arith) in
    rw (left, append-nil) at c.loop-i.invariant.items

pub returns-clause-spare : goal.returns-clause-spare
returns-clause-spare c =
    let left = ap length (no_params_left c.args.bare c.args.params.now c.loop-i.i (omega arith)) in
    omega (arith, left, c.loop-i.invariant.spare)
