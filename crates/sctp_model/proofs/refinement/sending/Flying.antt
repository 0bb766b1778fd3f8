-- What is in flight, against the record.
use Rattle.sctp_model.proofs.Names.{◌≡◌, ◌+◌, ◌-◌, ◌<◌, ◌^◌, length, arith, length-mapped, length-numbers, Outbound, Setup, LinkRecord, RefinesOutbound}
use Rattle.sctp_model.proofs.Names.{nat_tests}
use Rattle.sctp_model.proofs.sender.Few
use Rattle.sctp_model.proofs.refinement.sending.KindsRun.{Going}

-- a chunk for each slot that was not taken
pub flying : (w : LinkRecord) (q : Outbound) → RefinesOutbound w q → length q.inflight.chunks ≡ length w.slots - w.taken
flying w q t = grind (arith, nat_tests, length-mapped, length-numbers)

-- where the record may have one slot more, a further TSN may be given out
pub one-more-fits : (setup : Setup) (w v : LinkRecord) (q : Outbound) → Going setup v → length v.slots ≡ length w.slots + 1 → RefinesOutbound w q
    → length q.inflight.chunks + 1 < 2 ^ 31
one-more-fits setup w v q g more t = omega (arith, Few.few setup v g.consistent, more, flying w q t)
