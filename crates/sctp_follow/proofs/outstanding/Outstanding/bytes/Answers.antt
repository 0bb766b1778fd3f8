use Rattle.std.proofs.Common.{◌+◌, List, arith, ap}
use Rattle.std.specs.Prelude.{min, sum_by}
use Rattle.sctp_follow.specs.Outstanding.{bytes_of}
use Rattle.sctp_follow.specs.declared.outstanding.Sent.{Sent}
use Rattle.sctp_follow.proofs.outstanding.Outstanding.bytes.Goals as goal

pub returns : goal.returns
returns c =
    let i = c.loop-sent.invariant in
    let none = ap (λ (sents : List Sent). min (c.loop-sent.bytes + sum_by bytes_of sents) 18446744073709551615) c.in-None.ensures.steps.0 in
    omega (arith, i.fits, i.same, none)
