use Rattle.sctp_receiver.proofs.Names.{rules, arith, ◌≡◌, ◌+◌, ◌-◌, ◌<◌, ◌≤◌, ℕ, Some, Option, ap, sym, subst, ◌∙◌, take, false, length, slice_get}
use Rattle.sctp_receiver.proofs.Names.{option_map, nat_lt, nat_tests, length-take, AreInverse, is_spot_before, swapped}
use Rattle.std.specs.Vec.{vec_len}
use Rattle.sctp_stream.proofs.Removals.{taken-at}
use Rattle.sctp_receiver.proofs.VisitOrders.{read-at, spot-inside, first-swapped, swapped-inverse, behind-swapped, last-off}
use Rattle.sctp_receiver.proofs.receiver.visits.Visits.pop.Goals as goal

behind : (s count : ℕ) (o : Option ℕ) → o ≡ Some s → is_spot_before count o ≡ false → count ≤ s
behind s count o e h = let l : nat_lt s count ≡ false = sym (ap (is_spot_before count) e) ∙ h in grind (arith, nat_tests)

pub swap-requires-clause-first : goal.swap-requires-clause-first
swap-requires-clause-first c =
    let spots = c.self.inside.spots.items in
    let lt : c.len-end.result - 1 < length spots = search rules in
    spot-inside c.self.inside.order.items spots c.index-spot.result.now (c.len-end.result - 1) c.self.invariant.inverse
    (read-at spots (c.len-end.result - 1) c.index-spot.result.now lt c.index-spot.ensures)

pub invariant_of-self : goal.invariant_of-self
invariant_of-self c =
    let order = c.self.inside.order.items in
    let spots = c.self.inside.spots.items in
    let i = c.self.invariant in
    let n = c.len-end.result - 1 in
    let s = c.index-spot.result.now in
    let lt : n < length spots = search rules in
    let end : c.len-end.result ≡ length spots = search rules in
    let at = read-at spots n s lt c.index-spot.ensures in
    let rest : is_spot_before c.self.inside.count (slice_get spots (length spots - 1)) ≡ false = rw (← c.self.view_is) at c.requires.rest in
    let past = behind s c.self.inside.count (slice_get spots n) at (ap (λ k. is_spot_before c.self.inside.count (slice_get spots (k - 1))) end ∙ rest) in
    let new-order : vec_len c.swap.new.order ≡ length c.swap.new.order.items = search rules in
    let new-spots : vec_len c.swap.new.spots ≡ length c.swap.new.spots.items = search rules in
    let os : length c.swap.new.order.items ≡ n + 1 = omega (arith, i.same, end, lt, c.swap.ensures.same) in
    let ss : length c.swap.new.spots.items ≡ n + 1 = omega (arith, end, lt, c.swap.ensures.places) in
    let on : c.pop.new.self.items ≡ take n c.swap.new.order.items
    = c.pop.ensures.rest ∙ ap (λ k. take k c.swap.new.order.items) {x = vec_len c.swap.new.order - 1} {y = n} (omega (arith, new-order, os)) in
    let sn : c.pop-2.new.self.items ≡ take n c.swap.new.spots.items
    = c.pop-2.ensures.rest ∙ ap (λ k. take k c.swap.new.spots.items) {x = vec_len c.swap.new.spots - 1} {y = n} (omega (arith, new-spots, ss)) in
    let inverse = swapped-inverse order spots c.swap.new.order.items c.swap.new.spots.items s n i.inverse c.swap.ensures.order c.swap.ensures.spots in
    let last : slice_get c.swap.new.spots.items n ≡ Some n
    = c.swap.ensures.spots n ∙ ap (option_map (swapped s n)) at ∙ ap Some (first-swapped s n) in
    let inside = spot-inside order spots s n i.inverse at in
    let whole : vec_len c.self.inside.spans ≡ length c.self.inside.spans.items = search rules in
    record {
      spans =
          ap length c.pop-3.ensures.rest ∙ omega (
            arith,
            length-take (vec_len c.self.inside.spans - 1) c.self.inside.spans.items,
            whole,
            i.spans,
            end,
            lt,
            ap length sn,
            length-take n c.swap.new.spots.items,
            ss,
          );
      inverse = subst (λ xs. AreInverse xs c.pop-2.new.self.items) (sym on)
          (subst (AreInverse (take n c.swap.new.order.items)) (sym sn)
          (last-off c.swap.new.order.items c.swap.new.spots.items n os ss inverse last));
      same = ap length on ∙ omega (arith, length-take n c.swap.new.order.items, length-take n c.swap.new.spots.items, os, ss, ap length sn);
      within = omega (arith, past, inside, i.same, end, ap length on, length-take n c.swap.new.order.items, os);
    }

pub returns-clause-visited : goal.returns-clause-visited
returns-clause-visited c = λ p less.
    let order = c.self.inside.order.items in
    let spots = c.self.inside.spots.items in
    let i = c.self.invariant in
    let n = c.len-end.result - 1 in
    let s = c.index-spot.result.now in
    let count = c.self.inside.count in
    let lt : n < length spots = search rules in
    let end : c.len-end.result ≡ length spots = search rules in
    let at = read-at spots n s lt c.index-spot.ensures in
    let rest : is_spot_before count (slice_get spots (length spots - 1)) ≡ false = rw (← c.self.view_is) at c.requires.rest in
    let past = behind s count (slice_get spots n) at (ap (λ k. is_spot_before count (slice_get spots (k - 1))) end ∙ rest) in
    let inside = spot-inside order spots s n i.inverse at in
    let new-spots : vec_len c.swap.new.spots ≡ length c.swap.new.spots.items = search rules in
    let ss : length c.swap.new.spots.items ≡ n + 1 = omega (arith, end, lt, c.swap.ensures.places) in
    let sn : c.pop-2.new.self.items ≡ take n c.swap.new.spots.items
    = c.pop-2.ensures.rest ∙ ap (λ k. take k c.swap.new.spots.items) {x = vec_len c.swap.new.spots - 1} {y = n} (omega (arith, new-spots, ss)) in
    let below : p < n = omega (arith, less, ap length sn, length-take n c.swap.new.spots.items) in
    rw (← c.self.view_is)
    (ap (λ xs. is_spot_before count (slice_get xs p)) sn ∙ ap (is_spot_before count) (taken-at c.swap.new.spots.items n p below ∙ c.swap.ensures.spots p)
    ∙ behind-swapped s n count past (omega (arith, past, inside, i.same, end)) (slice_get spots p))

pub returns-clause-spans : goal.returns-clause-spans
returns-clause-spans c = λ p less.
    let spans = c.self.inside.spans.items in
    let i = c.self.invariant in
    let n = c.len-end.result - 1 in
    let lt : n < length c.self.inside.spots.items = search rules in
    let end : c.len-end.result ≡ length c.self.inside.spots.items = search rules in
    let whole : vec_len c.self.inside.spans ≡ length spans = search rules in
    let new-spots : vec_len c.swap.new.spots ≡ length c.swap.new.spots.items = search rules in
    let ss : length c.swap.new.spots.items ≡ n + 1 = omega (arith, end, lt, c.swap.ensures.places) in
    let sn : c.pop-2.new.self.items ≡ take n c.swap.new.spots.items
    = c.pop-2.ensures.rest ∙ ap (λ k. take k c.swap.new.spots.items) {x = vec_len c.swap.new.spots - 1} {y = n} (omega (arith, new-spots, ss)) in
    let below : p < n = omega (arith, less, ap length sn, length-take n c.swap.new.spots.items) in
    rw (← c.self.view_is)
    (ap (λ xs. slice_get xs p) c.pop-3.ensures.rest
    ∙ taken-at spans (vec_len c.self.inside.spans - 1) p (omega (arith, below, whole, i.spans, end)))
