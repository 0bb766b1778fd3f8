use Rattle.sctp_receiver.proofs.Names.{rules, arith, ◌≡◌, ◌-◌, ap, sym, ◌∙◌, if◌then◌else◌, length, slice_get, slice_set, by_same, eq-eqb, VisitOrder}
use Rattle.sctp_receiver.proofs.VisitOrders.{set-here, set-there}
use Rattle.sctp_receiver.proofs.receiver.visits.Visits.swap_remove.Goals as goal

pub returns-clause-spans : goal.returns-clause-spans
returns-clause-spans c = λ p less.
    let olds = c.args.self.now.spans in
    let k = c.args.place in
    let s = c.span_at-span.result in
    let n = length c.pop.new.self.spots in
    let last = c.len-last.result - 1 in
    let chain = c.pop.ensures.spans p less ∙ ap (λ xs. slice_get xs p) (c.remove.ensures.spans ∙ c.set.ensures.spans)
    ∙ ap (λ (o : VisitOrder). slice_get o.spans p) c.set_span.ensures.rest in
    let many : c.len-last.result ≡ length c.self.inside.spots.items = search rules in
    let same : last ≡ n = omega (
      arith,
      many,
      ap (λ (o : VisitOrder). length o.spots) c.self.view_is,
      c.pop.ensures.places,
      c.remove.ensures.places,
      c.set.ensures.places,
      ap (λ (o : VisitOrder). length o.spots) c.set_span.ensures.rest,
    ) in
    by_same p k
    (λ q. chain ∙ ap (slice_get (slice_set olds k s)) q ∙ set-here olds k s c.set_span.ensures.in_range ∙ sym c.span_at-span.ensures
    ∙ ap (slice_get olds) same ∙ ap (λ b. slice_get olds (if b then n else p)) (sym (eq-eqb p k q)))
    (λ ne t. chain ∙ set-there olds k p s ne ∙ ap (λ b. slice_get olds (if b then n else p)) (sym t))
