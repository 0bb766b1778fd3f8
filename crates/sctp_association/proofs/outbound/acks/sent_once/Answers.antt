use Rattle.std.proofs.Common.{List, ap, arith, sym, ◌∙◌}
use Rattle.std.proofs.lemmas.List.{drop_all}
use Rattle.sctp_association.specs.Paths.{sent_after}
use Rattle.sctp_sender.specs.declared.sender.flight.Released.{Released}
use Rattle.sctp_association.proofs.outbound.acks.sent_once.Goals as goal

pub returns : goal.returns
returns c =
    let none = drop_all c.loop-one.one-index c.args.released.now (omega (arith, c.loop-one-test.false, c.loop-one.auto.one-index-end)) in
    sym (ap (λ (left : List Released). sent_after c.loop-one.sent left) none) ∙ c.loop-one.invariant.same
