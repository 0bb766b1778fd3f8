use Rattle.sctp_receiver.proofs.Names.{rules, arith, ◌≡◌, ◌+◌, ◌-◌, ◌<◌, suc, true, false, Some, length, length-set, ap, sym, subst, ◌∙◌, slice_get, slice_set}
use Rattle.sctp_receiver.proofs.Names.{if◌then◌else◌, get_or_from_slice_get, some-same, InboundStream, visit_walk, settle_walk, skip_forwarded}
use Rattle.std.specs.Vec.{vec_len}
use Rattle.sctp_receiver.specs.SkipCosts.{unless_past, walks_by_place}
use Rattle.sctp_receiver.specs.Spans.{lies_past, sets_outside}
use Rattle.sctp_receiver.proofs.SkipCosts.{spent, spent-more, spent-within, settle-less, walk_on, at-place, past-less}
use Rattle.sctp_receiver.proofs.Settled.{skip-stays}
use Rattle.sctp_receiver.proofs.Spans.{past-stays, skip-inside, settled-inside}
use Rattle.sctp_receiver.proofs.Listing.{any, incomplete, outside}
use Rattle.sctp_receiver.proofs.VisitOrders.{read-at, set-here}
use Rattle.sctp_receiver.proofs.Visiting.{few-visited, element}
use Rattle.sctp_receiver.proofs.Forwarding.{Going, going-all, gone-all, gone-visited, in-range, same-span, same-stream, was-visited, going-past}
use Rattle.sctp_receiver.proofs.Forwarding.{going-again, going-off}
use Rattle.sctp_receiver.proofs.receiver.visit.forward_each.Goals as goal

pub loop-left-init : goal.loop-left-init
loop-left-init c =
    let f = skip_forwarded c.args.skip c.args.tsn in
    let u = c.args.visits.now in
    let xs = c.args.streams.now.items in
    let listing = c.requires.listing in
    let inverse = c.len-left.ensures.inverse in
    let ws = walks_by_place c.args.skip c.args.tsn u.spans xs in
    record {
      going = subst (λ n. Going f any incomplete outside u xs n u xs) (sym c.len-left.ensures.count)
          (going-all f any incomplete outside u xs inverse listing.listed.places listing.listed.others listing.spans
          (λ x h. skip-stays c.args.skip c.args.tsn x h));
      few = omega (arith, c.len-left.ensures.count);
      cost = c.requires.cost;
      turns = omega (arith, c.len-left.ensures.count);
      not_back = omega arith;
      walk = let h = spent-within c.len-left.result u.order u.spots ws inverse in omega (arith, h);
    }

pub loop-left-preserved-then-lies_past : goal.loop-left-preserved-then-lies_past
loop-left-preserved-then-lies_past c =
    let f = skip_forwarded c.args.skip c.args.tsn in
    let u = c.args.visits.now in
    let xs = c.args.streams.now.items in
    let v = c.loop-left.visits in
    let ys = c.loop-left.streams.items in
    let m = c.loop-left.left - 1 in
    let k = c.at-place.result in
    let s = c.span_at-span.result in
    let inv = c.loop-left.invariant in
    let listing = c.requires.listing in
    let inverse = c.len-left.ensures.inverse in
    let more : c.loop-left.left ≡ m + 1 = omega (arith, c.loop-left-test.true) in
    let g = subst (λ n. Going f any incomplete outside u xs n v ys) more inv.going in
    let at = c.at-place.ensures.place in
    let lt : k < length ys = in-range f any incomplete outside u xs inverse m k v ys g at in
    let there = element any xs k (omega (arith, lt, g.same)) in
    let x = there.0 in
    let was : slice_get u.spans k ≡ Some s = sym (same-span f any incomplete outside u xs inverse m k v ys g at) ∙ c.span_at-span.ensures in
    let held : any x ≡ true = listing.visited k x there.1
    (was-visited f any incomplete outside u xs inverse m k v ys g at (omega (arith, more, inv.few))) in
    let ws = walks_by_place c.args.skip c.args.tsn u.spans xs in
    let weight = unless_past c.args.tsn s (walk_on c.args.skip c.args.tsn x) in
    let spending : spent c.loop-left.left u.order ws ≡ spent m u.order ws + weight =
    ap (λ n. spent n u.order ws) {x = c.loop-left.left} {y = suc m} (omega (arith, more))
    ∙ spent-more m k weight u.order ws (sym (g.prefix m (omega arith)) ∙ at) (at-place c.args.skip c.args.tsn u.spans xs k s x was there.1) in
    let past : lies_past c.args.tsn s ≡ true = sym c.lies_past.ensures.value ∙ c.if-lies_past.true in
    let stays = past-stays c.args.tsn s c.lies_past.ensures.tsn_fits c.lies_past.ensures.first_fits past c.args.skip x (listing.spans k s x was there.1) in
    record {
      going = going-past f any incomplete outside u xs inverse m k v ys g at x there.1 stays held;
      few = omega (arith, inv.few);
      cost = inv.cost;
      turns = omega (arith, inv.turns, c.tick.ensures, more);
      not_back = inv.not_back;
      walk = omega (arith, inv.walk, spending);
    }

pub index-requires : goal.index-requires
index-requires c =
    let f = skip_forwarded c.args.skip c.args.tsn in
    let u = c.args.visits.now in
    let xs = c.args.streams.now.items in
    let v = c.loop-left.visits in
    let ys = c.loop-left.streams.items in
    let m = c.loop-left.left - 1 in
    let k = c.at-place.result in
    let s = c.span_at-span.result in
    let inv = c.loop-left.invariant in
    let listing = c.requires.listing in
    let inverse = c.len-left.ensures.inverse in
    let more : c.loop-left.left ≡ m + 1 = omega (arith, c.loop-left-test.true) in
    let g = subst (λ n. Going f any incomplete outside u xs n v ys) more inv.going in
    let at = c.at-place.ensures.place in
    let lt : k < length ys = in-range f any incomplete outside u xs inverse m k v ys g at in
    let there = element any xs k (omega (arith, lt, g.same)) in
    let x = there.0 in
    let was : slice_get u.spans k ≡ Some s = sym (same-span f any incomplete outside u xs inverse m k v ys g at) ∙ c.span_at-span.ensures in
    let zs = c.forward_at-cost.new.streams.items in
    let same = get_or_from_slice_get ys k x x (same-stream f any incomplete outside u xs inverse m k v ys g at x there.1) in
    let made : zs ≡ slice_set ys k (f x) = c.forward_at-cost.ensures.value x ∙ ap (λ z. slice_set ys k (f z)) same in
    let many : k < length zs = omega (arith, ap length made, length-set ys k (f x), lt) in
    let long : vec_len c.forward_at-cost.new.streams ≡ length zs = search rules in
    omega (arith, many, long)

pub span_after-requires : goal.span_after-requires
span_after-requires c =
    let f = skip_forwarded c.args.skip c.args.tsn in
    let u = c.args.visits.now in
    let xs = c.args.streams.now.items in
    let v = c.loop-left.visits in
    let ys = c.loop-left.streams.items in
    let m = c.loop-left.left - 1 in
    let k = c.at-place.result in
    let s = c.span_at-span.result in
    let inv = c.loop-left.invariant in
    let listing = c.requires.listing in
    let inverse = c.len-left.ensures.inverse in
    let more : c.loop-left.left ≡ m + 1 = omega (arith, c.loop-left-test.true) in
    let g = subst (λ n. Going f any incomplete outside u xs n v ys) more inv.going in
    let at = c.at-place.ensures.place in
    let lt : k < length ys = in-range f any incomplete outside u xs inverse m k v ys g at in
    let there = element any xs k (omega (arith, lt, g.same)) in
    let x = there.0 in
    let was : slice_get u.spans k ≡ Some s = sym (same-span f any incomplete outside u xs inverse m k v ys g at) ∙ c.span_at-span.ensures in
    let zs = c.forward_at-cost.new.streams.items in
    let same = get_or_from_slice_get ys k x x (same-stream f any incomplete outside u xs inverse m k v ys g at x there.1) in
    let made : zs ≡ slice_set ys k (f x) = c.forward_at-cost.ensures.value x ∙ ap (λ z. slice_set ys k (f z)) same in
    let many : k < length zs = omega (arith, ap length made, length-set ys k (f x), lt) in
    let r = c.index.result.now in
    let is : r ≡ f x = some-same (sym (read-at zs k r many c.index.ensures) ∙ ap (λ ls. slice_get ls k) made ∙ set-here ys k (f x) lt) in
    ap (λ (l : InboundStream). sets_outside s l.queue.held.ordered) is ∙ skip-inside s c.args.skip c.args.tsn x (listing.spans k s x was there.1)

pub loop-left-preserved-in-Some : goal.loop-left-preserved-in-Some
loop-left-preserved-in-Some c =
    let f = skip_forwarded c.args.skip c.args.tsn in
    let u = c.args.visits.now in
    let xs = c.args.streams.now.items in
    let v = c.loop-left.visits in
    let ys = c.loop-left.streams.items in
    let m = c.loop-left.left - 1 in
    let k = c.at-place.result in
    let s = c.span_at-span.result in
    let inv = c.loop-left.invariant in
    let listing = c.requires.listing in
    let inverse = c.len-left.ensures.inverse in
    let more : c.loop-left.left ≡ m + 1 = omega (arith, c.loop-left-test.true) in
    let g = subst (λ n. Going f any incomplete outside u xs n v ys) more inv.going in
    let at = c.at-place.ensures.place in
    let lt : k < length ys = in-range f any incomplete outside u xs inverse m k v ys g at in
    let there = element any xs k (omega (arith, lt, g.same)) in
    let x = there.0 in
    let was : slice_get u.spans k ≡ Some s = sym (same-span f any incomplete outside u xs inverse m k v ys g at) ∙ c.span_at-span.ensures in
    let held : any x ≡ true = listing.visited k x there.1
    (was-visited f any incomplete outside u xs inverse m k v ys g at (omega (arith, more, inv.few))) in
    let ws = walks_by_place c.args.skip c.args.tsn u.spans xs in
    let weight = unless_past c.args.tsn s (walk_on c.args.skip c.args.tsn x) in
    let spending : spent c.loop-left.left u.order ws ≡ spent m u.order ws + weight =
    ap (λ n. spent n u.order ws) {x = c.loop-left.left} {y = suc m} (omega (arith, more))
    ∙ spent-more m k weight u.order ws (sym (g.prefix m (omega arith)) ∙ at) (at-place c.args.skip c.args.tsn u.spans xs k s x was there.1) in
    let zs = c.forward_at-cost.new.streams.items in
    let same = get_or_from_slice_get ys k x x (same-stream f any incomplete outside u xs inverse m k v ys g at x there.1) in
    let made : zs ≡ slice_set ys k (f x) = c.forward_at-cost.ensures.value x ∙ ap (λ z. slice_set ys k (f z)) same in
    let many : k < length zs = omega (arith, ap length made, length-set ys k (f x), lt) in
    let r = c.index.result.now in
    let is : r ≡ f x = some-same (sym (read-at zs k r many c.index.ensures) ∙ ap (λ ls. slice_get ls k) made ∙ set-here ys k (f x) lt) in
    let far : lies_past c.args.tsn s ≡ false = sym c.lies_past.ensures.value ∙ c.if-lies_past.false in
    let whole : weight ≡ visit_walk c.args.skip x.queue.held + settle_walk c.args.skip x.queue.held =
    ap (λ b. if b then 0 else walk_on c.args.skip c.args.tsn x) far
    ∙ ap (λ b. if b then visit_walk c.args.skip x.queue.held + settle_walk c.args.skip x.queue.held else 0) held in
    let visit = ap (λ (l : InboundStream). visit_walk c.args.skip l.queue.held) same in
    let settle = ap (λ (l : InboundStream). settle_walk c.args.skip l.queue.held) is in
    record {
      going = going-again f any incomplete outside u xs inverse m k v ys g at x there.1 c.set_span.new.self zs made c.in-Some.after
          c.set_span.ensures.rest c.set_span.ensures.in_range (ap any (sym is) ∙ c.in-Some.ensures.yes)
          (ap (outside c.in-Some.after) (sym is) ∙ c.in-Some.ensures.covers);
      few = omega (arith, inv.few);
      cost = c.forward_at-cost.ensures.cost;
      turns = omega (arith, inv.turns, c.tick.ensures, more);
      not_back = omega (arith, inv.not_back, c.forward_at-cost.ensures.not_back, c.span_after.ensures.not_back);
      walk = omega (
        arith,
        inv.walk,
        spending,
        whole,
        visit,
        settle,
        settle-less c.args.skip c.args.tsn x,
        c.forward_at-cost.ensures.walk x,
        c.span_after.ensures.walk,
      );
    }

pub loop-left-preserved : goal.loop-left-preserved
loop-left-preserved c =
    let f = skip_forwarded c.args.skip c.args.tsn in
    let u = c.args.visits.now in
    let xs = c.args.streams.now.items in
    let v = c.loop-left.visits in
    let ys = c.loop-left.streams.items in
    let m = c.loop-left.left - 1 in
    let k = c.at-place.result in
    let s = c.span_at-span.result in
    let inv = c.loop-left.invariant in
    let listing = c.requires.listing in
    let inverse = c.len-left.ensures.inverse in
    let more : c.loop-left.left ≡ m + 1 = omega (arith, c.loop-left-test.true) in
    let g = subst (λ n. Going f any incomplete outside u xs n v ys) more inv.going in
    let at = c.at-place.ensures.place in
    let lt : k < length ys = in-range f any incomplete outside u xs inverse m k v ys g at in
    let there = element any xs k (omega (arith, lt, g.same)) in
    let x = there.0 in
    let was : slice_get u.spans k ≡ Some s = sym (same-span f any incomplete outside u xs inverse m k v ys g at) ∙ c.span_at-span.ensures in
    let held : any x ≡ true = listing.visited k x there.1
    (was-visited f any incomplete outside u xs inverse m k v ys g at (omega (arith, more, inv.few))) in
    let ws = walks_by_place c.args.skip c.args.tsn u.spans xs in
    let weight = unless_past c.args.tsn s (walk_on c.args.skip c.args.tsn x) in
    let spending : spent c.loop-left.left u.order ws ≡ spent m u.order ws + weight =
    ap (λ n. spent n u.order ws) {x = c.loop-left.left} {y = suc m} (omega (arith, more))
    ∙ spent-more m k weight u.order ws (sym (g.prefix m (omega arith)) ∙ at) (at-place c.args.skip c.args.tsn u.spans xs k s x was there.1) in
    let zs = c.forward_at-cost.new.streams.items in
    let same = get_or_from_slice_get ys k x x (same-stream f any incomplete outside u xs inverse m k v ys g at x there.1) in
    let made : zs ≡ slice_set ys k (f x) = c.forward_at-cost.ensures.value x ∙ ap (λ z. slice_set ys k (f z)) same in
    let many : k < length zs = omega (arith, ap length made, length-set ys k (f x), lt) in
    let r = c.index.result.now in
    let is : r ≡ f x = some-same (sym (read-at zs k r many c.index.ensures) ∙ ap (λ ls. slice_get ls k) made ∙ set-here ys k (f x) lt) in
    let far : lies_past c.args.tsn s ≡ false = sym c.lies_past.ensures.value ∙ c.if-lies_past.false in
    let whole : weight ≡ visit_walk c.args.skip x.queue.held + settle_walk c.args.skip x.queue.held =
    ap (λ b. if b then 0 else walk_on c.args.skip c.args.tsn x) far
    ∙ ap (λ b. if b then visit_walk c.args.skip x.queue.held + settle_walk c.args.skip x.queue.held else 0) held in
    let visit = ap (λ (l : InboundStream). visit_walk c.args.skip l.queue.held) same in
    let settle = ap (λ (l : InboundStream). settle_walk c.args.skip l.queue.held) is in
    let none : incomplete (f x) ≡ false = ap incomplete (sym is) ∙ c.in-None.ensures.no in
    let gone = c.remove.ensures in
    record {
      going = going-off f any incomplete outside u xs inverse m k v ys g at x there.1 c.remove.new.self zs made gone.visited gone.places gone.count
          gone.moved gone.inverse gone.spans none (λ t e. settled-inside t (f x).queue.held none (skip-inside t c.args.skip c.args.tsn x
          (listing.spans k t x (sym (same-span f any incomplete outside u xs inverse m k v ys g at) ∙ e) there.1)));
      few = omega (arith, inv.few);
      cost = c.forward_at-cost.ensures.cost;
      turns = omega (arith, inv.turns, c.tick.ensures, more);
      not_back = omega (arith, inv.not_back, c.forward_at-cost.ensures.not_back, c.span_after.ensures.not_back);
      walk = omega (
        arith,
        inv.walk,
        spending,
        whole,
        visit,
        settle,
        settle-less c.args.skip c.args.tsn x,
        c.forward_at-cost.ensures.walk x,
        c.span_after.ensures.walk,
      );
    }

pub returns-clause-value : goal.returns-clause-value
returns-clause-value c =
    let f = skip_forwarded c.args.skip c.args.tsn in
    let u = c.args.visits.now in
    let xs = c.args.streams.now.items in
    let v = c.loop-left.visits in
    let ys = c.loop-left.streams.items in
    let inverse = c.len-left.ensures.inverse in
    let none : c.loop-left.left ≡ 0 = omega (arith, c.loop-left-test.false) in
    let g = subst (λ n. Going f any incomplete outside u xs n v ys) none c.loop-left.invariant.going in
    gone-all f any incomplete outside u xs inverse v ys g

pub returns-clause-listing : goal.returns-clause-listing
returns-clause-listing c =
    let f = skip_forwarded c.args.skip c.args.tsn in
    let u = c.args.visits.now in
    let xs = c.args.streams.now.items in
    let v = c.loop-left.visits in
    let ys = c.loop-left.streams.items in
    let inverse = c.len-left.ensures.inverse in
    let none : c.loop-left.left ≡ 0 = omega (arith, c.loop-left-test.false) in
    let g = subst (λ n. Going f any incomplete outside u xs n v ys) none c.loop-left.invariant.going in
    record {
      listed = record { places = g.places; others = g.others };
      visited = gone-visited f any incomplete outside u xs inverse v ys g;
      spans = g.spans;
    }

pub returns-clause-few : goal.returns-clause-few
returns-clause-few c =
    let listing = c.requires.listing in
    let h = few-visited any c.args.visits.now c.args.streams.now.items c.len-left.ensures.inverse c.len-left.ensures.within listing.listed.places
    listing.visited in
    omega (arith, h, c.loop-left.invariant.turns)

pub returns-clause-walk : goal.returns-clause-walk
returns-clause-walk c =
    let h = past-less c.args.skip c.args.tsn c.args.visits.now.spans c.args.streams.now.items in
    omega (arith, h, c.loop-left.invariant.walk)
