use Rattle.std.proofs.Common.{arith}
use Rattle.sctp_capture.proofs.Tunnels.{tunnel_further, tunnel_ends, tunnel_last}
use Rattle.sctp_capture.proofs.frame.innermost.Goals as goal

pub returns-in-None-clause-is : goal.returns-in-None-clause-is
returns-in-None-clause-is c = c.loop-passed.invariant.outward _ _ (tunnel_ends c.loop-passed._passed _ _ c.loop-passed-test.true c.in-None.ensures.none)

pub loop-passed-preserved : goal.loop-passed-preserved
loop-passed-preserved c = record {
  outward = λ q k it. c.loop-passed.invariant.outward q k
      (tunnel_further c.loop-passed._passed _ _ _ _ q k c.loop-passed-test.true c.in-Some.ensures.some it);
  few = c.in-Some.ensures.few;
}

pub returns-clause-is : goal.returns-clause-is
returns-clause-is c = c.loop-passed.invariant.outward _ _ (tunnel_last c.loop-passed._passed _ _ (omega arith))
