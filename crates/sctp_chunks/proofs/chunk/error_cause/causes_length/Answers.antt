use Rattle.std.proofs.Common.{arith}
use Rattle.sctp_chunks.proofs.Causes.{causes_next_length}
use Rattle.sctp_chunks.proofs.chunk.error_cause.causes_length.Goals as goal

pub loop-cause-preserved : goal.loop-cause-preserved
loop-cause-preserved c =
    let long = causes_next_length c.args.causes.now c.loop-cause.cause-index c.cause-item.result c.loop-cause-test.true in
    let here = rw (← c.cause-item.is) at long in
    omega (arith, here, c.loop-cause.invariant, c.saturating_add-total.ensures, c.length.ensures.value)
