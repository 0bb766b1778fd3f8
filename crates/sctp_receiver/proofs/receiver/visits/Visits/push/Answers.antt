use Rattle.sctp_receiver.proofs.Names.{rules, arith, ◌≡◌, ◌<◌, ◌++◌, ◌∷◌, [], List, ap, subst, sym, ◌∙◌, length, ℕ, slice_get, AreInverse, is_spot_before}
use Rattle.std.proofs.Common.{length-append}
use Rattle.sctp_receiver.proofs.VisitOrders.{end-there, one-more, more-visited}
use Rattle.sctp_receiver.proofs.receiver.visits.Visits.push.Goals as goal

-- what was put behind the spots, and behind the order
spots-are : (xs ys : List ℕ) (n m : ℕ) → ys ≡ xs ++ n ∷ [] → n ≡ m → ys ≡ xs ++ m ∷ []
spots-are xs ys n m e same = e ∙ ap (λ k. xs ++ k ∷ []) same

pub invariant_of-self : goal.invariant_of-self
invariant_of-self c =
    let order = c.self.inside.order.items in
    let spots = c.self.inside.spots.items in
    let i = c.self.invariant in
    let places : c.len-place.result ≡ length spots = search rules in
    let count : c.len-spot.result ≡ length order = search rules in
    let os = spots-are order c.put.new.items.items c.len-place.result (length spots) c.put.ensures.items places in
    let ss = spots-are spots c.put-2.new.items.items c.len-spot.result (length order) c.put-2.ensures.items count in
    let a = length-append order (length spots ∷ []) in
    let b = length-append spots (length order ∷ []) in
    record {
      inverse = subst (λ xs. AreInverse xs c.put-2.new.items.items) (sym os)
          (subst (AreInverse (order ++ length spots ∷ [])) (sym ss) (one-more order spots i.inverse));
      same = omega (arith, a, b, ap length os, ap length ss, i.same);
      within = omega (arith, a, ap length os, i.within);
      spans = omega (
        arith,
        b,
        ap length ss,
        ap length c.put-3.ensures.items,
        length-append c.self.inside.spans.items (c.whole.result ∷ []),
        i.spans,
      );
    }

pub returns-clause-visited : goal.returns-clause-visited
returns-clause-visited c = λ p.
    let order = c.self.inside.order.items in
    let spots = c.self.inside.spots.items in
    let count : c.len-spot.result ≡ length order = search rules in
    let ss = spots-are spots c.put-2.new.items.items c.len-spot.result (length order) c.put-2.ensures.items count in
    rw (← c.self.view_is)
    (ap (λ xs. is_spot_before c.self.inside.count (slice_get xs p)) ss ∙ more-visited order spots c.self.inside.count c.self.invariant.within p)

pub returns-clause-spans : goal.returns-clause-spans
returns-clause-spans c = λ p less.
    let spans = c.self.inside.spans.items in
    let lt : p < length spans = omega (arith, c.self.invariant.spans, rw (← c.self.view_is) at less) in
    rw (← c.self.view_is)
    (ap (λ xs. slice_get xs p) c.put-3.ensures.items ∙ end-there spans c.whole.result p (λ e. omega (arith, e, lt)))
