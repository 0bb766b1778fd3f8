use Rattle.std.proofs.Common.{refl, append_assoc, arith}
use Rattle.std.proofs.lemmas.Grind.{common_steps}
use Rattle.sctp_chunks.proofs.Causes.{causes_at, causes_next, causes_next_length}
use Rattle.sctp_chunks.proofs.chunk.error_cause.put_causes.Goals as goal

pub put-requires-clause-encoding : goal.put-requires-clause-encoding
put-requires-clause-encoding c =
    let fits = causes_at c.args.causes.now c.loop-cause.cause-index c.cause-item.result c.loop-cause-test.true in
    let here = rw (← c.cause-item.is) at fits in
    omega (arith, here, c.requires.encoding)

pub put-requires-clause-room : goal.put-requires-clause-room
put-requires-clause-room c =
    let fits = causes_at c.args.causes.now c.loop-cause.cause-index c.cause-item.result c.loop-cause-test.true in
    let here = rw (← c.cause-item.is) at fits in
    omega (arith, here, c.requires.room, c.loop-cause.invariant.spare)

pub loop-cause-preserved : goal.loop-cause-preserved
loop-cause-preserved c =
    let encoding = causes_next c.args.causes.now c.loop-cause.cause-index c.cause-item.result c.loop-cause-test.true in
    let long = causes_next_length c.args.causes.now c.loop-cause.cause-index c.cause-item.result c.loop-cause-test.true in
    let encoding_here = rw (← c.cause-item.is) at encoding in
    let long_here = rw (← c.cause-item.is) at long in
    record {
      items = rw (encoding_here, c.put.ensures.items, c.loop-cause.invariant.items, append_assoc) refl;
      fits = grind (arith, common_steps);
      spare = omega (arith, long_here, c.put.ensures.spare, c.loop-cause.invariant.spare);
    }
