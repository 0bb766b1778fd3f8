use Rattle.sctp_receiver.proofs.Names.{◌≡◌, ap, sym, ◌∙◌, slice_get, some-same, VisitOrder}
use Rattle.sctp_receiver.specs.Spans.{holds_outside}
use Rattle.sctp_receiver.proofs.VisitOrders.{set-here}
use Rattle.sctp_receiver.proofs.Spans.{wider-sets, both-inside}
use Rattle.sctp_receiver.proofs.receiver.visit.renew_within.Goals as goal

pub returns-clause-span : goal.returns-clause-span
returns-clause-span c = λ s ts.
    let v = c.args.visits.now in
    let q = c.args.queue.now.held in
    let k = c.args.place in
    let r = c.with_front.result in
    let is : s ≡ r = some-same (sym ts ∙ ap (λ xs. slice_get xs k) c.renew.ensures.spans
    ∙ ap (λ (o : VisitOrder). slice_get o.spans k) c.set_span.ensures.rest ∙ set-here v.spans k r c.set_span.ensures.in_range) in
    ap (λ t. holds_outside t q) is ∙ both-inside r q c.with_front.ensures.front
    (wider-sets c.args.span r c.with_front.ensures.wider c.with_front.ensures.all q.ordered c.requires.within)
