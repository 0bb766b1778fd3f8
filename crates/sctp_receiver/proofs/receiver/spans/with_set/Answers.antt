use Rattle.sctp_receiver.proofs.Names.{arith, ap, ◌∙◌, length, slice_get, slice_get_within}
use Rattle.sctp_receiver.specs.Spans.{chunk_outside}
use Rattle.sctp_receiver.proofs.Spans.{none-of-each}
use Rattle.sctp_receiver.proofs.receiver.spans.with_set.Goals as goal

pub returns-clause-here : goal.returns-clause-here
returns-clause-here c =
    let cs = c.args.set.now.chunks in
    let many = ap length c.fragments-chunks.ensures in
    none-of-each (chunk_outside c.loop-place.span) cs (λ k x e. c.loop-place.invariant.here k x
    (omega (arith, slice_get_within cs k x e, many, c.loop-place-test.false, c.loop-place.auto.place-end))
    (ap (λ xs. slice_get xs k) c.fragments-chunks.ensures ∙ e))
