use Rattle.sctp_link.proofs.Names.{arith}
use Rattle.sctp_link.proofs.link.fragments.take_fragments.Goals as goal

pub take_next-requires-clause-able : goal.take_next-requires-clause-able
take_next-requires-clause-able c = c.requires.able c.loop-at._at _ c.loop-at-test.true c.loop-at.invariant.leave

pub take_next-requires-clause-flight : goal.take_next-requires-clause-flight
take_next-requires-clause-flight c = let t = c.loop-at-test.true in omega (arith, t, c.loop-at.invariant.flight)

pub take_next-requires-clause-room : goal.take_next-requires-clause-room
take_next-requires-clause-room c = let t = c.loop-at-test.true in omega (arith, t, c.loop-at.invariant.room)
