use Rattle.std.proofs.Common.{◌+◌, List, ap, arith}
use Rattle.std.proofs.lemmas.List.{drop_all}
use Rattle.std.specs.Prelude.{min, sum_by}
use Rattle.sctp_association.specs.Acks.{size_of}
use Rattle.sctp_sender.specs.declared.sender.flight.Released.{Released}
use Rattle.sctp_association.proofs.outbound.acks.size_acked.Goals as goal

pub returns : goal.returns
returns c =
    let i = c.loop-one.one-index in
    let rs = c.args.released.now in
    let none = ap (λ (left : List Released). min (c.loop-one.sum + sum_by size_of left) 18446744073709551615)
    (drop_all i rs (omega (arith, c.loop-one-test.false, c.loop-one.auto.one-index-end))) in
    omega (arith, c.loop-one.invariant.fits, c.loop-one.invariant.same, none)
