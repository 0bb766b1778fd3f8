use Rattle.std.specs.VecDeque.{deque_len}
use Rattle.sctp_receiver.proofs.Names.{rules, ◌≡◌, ◌==◌, ◌<◌, ◌-◌, ◌^◌, ◌∙◌, refl, ap, sym, subst, length, length-set, arith, eq-eqb, some-same}
use Rattle.sctp_receiver.proofs.Names.{IsWithinPushOn, IsOnlyPlace}
use Rattle.sctp_receiver.proofs.Names.{number, numbers_of, inside, numbers-stay}
use Rattle.sctp_receiver.proofs.Listing.{renewed-more}
use Rattle.sctp_receiver.proofs.SkipCosts.{at-map}
use Rattle.sctp_receiver.proofs.VisitOrders.{read-at}
use Rattle.sctp_receiver.proofs.CostSums.{is-part, changed-fits, changed-sum}
use Rattle.sctp_receiver.proofs.Inbounds.{number-stays, is-found, pushes, fits, refused}
use Rattle.sctp_receiver.proofs.Spans.{push-inside}
use Rattle.sctp_receiver.proofs.Undone.{push-undone, push-can}
use Rattle.sctp_receiver.proofs.receiver.inbound_streams.InboundStreams.push_undoable_at_counted.Goals as goal

pub push_undoable_counted-pushed-requires : goal.push_undoable_counted-pushed-requires
push_undoable_counted-pushed-requires c =
    let ls = c.self.inside.items.items in
    let p : IsOnlyPlace c.args.chunk.now.stream_identifier (numbers_of ls) c.args.place = rw (← c.self.view_is) at c.requires in
    let lt = inside number ls (numbers_of ls) refl c.args.chunk.now.stream_identifier c.args.place p in
    let x = c.index_mut-stream.result.now in
    let here = at-map number ls c.args.place x (read-at ls c.args.place x lt c.index_mut-stream.ensures.value) in
    eq-eqb _ _ (some-same (sym p.here ∙ here))

pub moved-self-inside-requires-clause-part : goal.moved-self-inside-requires-clause-part
moved-self-inside-requires-clause-part c =
    let ls = c.self.inside.items.items in
    let p : IsOnlyPlace c.args.chunk.now.stream_identifier (numbers_of ls) c.args.place = rw (← c.self.view_is) at c.requires in
    let lt = inside number ls (numbers_of ls) refl c.args.chunk.now.stream_identifier c.args.place p in
    let h = is-part ls c.args.place c.index_mut-stream.result.now lt c.index_mut-stream.ensures.value in
    omega (arith, h, c.self.invariant.cost, c.cost_of-before.ensures)

pub moved-self-inside-requires-clause-fits : goal.moved-self-inside-requires-clause-fits
moved-self-inside-requires-clause-fits c =
    let ls = c.self.inside.items.items in
    let p : IsOnlyPlace c.args.chunk.now.stream_identifier (numbers_of ls) c.args.place = rw (← c.self.view_is) at c.requires in
    let lt = inside number ls (numbers_of ls) refl c.args.chunk.now.stream_identifier c.args.place p in
    let few : length ls < 2 ^ 64 = search rules in
    let h = changed-fits ls c.args.place c.index_mut-stream.result.now lt c.index_mut-stream.ensures.value few c.push_undoable_counted-pushed.new.self in
    omega (arith, h, c.self.invariant.cost, c.cost_of-before.ensures, c.cost_of.ensures)

pub invariant_of-self : goal.invariant_of-self
invariant_of-self c =
    let ls = c.self.inside.items.items in
    let p : IsOnlyPlace c.args.chunk.now.stream_identifier (numbers_of ls) c.args.place = rw (← c.self.view_is) at c.requires in
    let lt = inside number ls (numbers_of ls) refl c.args.chunk.now.stream_identifier c.args.place p in
    let same = number-stays c.args.chunk.now ls c.args.place p c.index_mut-stream.result.now c.push_undoable_counted-pushed.new.self
    c.index_mut-stream.ensures.value c.push_undoable_counted-pushed.ensures.rest c.push_undoable_counted-pushed.result c.push_undoable_counted-pushed.ensures.ok
    c.push_undoable_counted-pushed.ensures.err in
    let h = changed-sum ls c.args.place c.index_mut-stream.result.now lt c.index_mut-stream.ensures.value c.push_undoable_counted-pushed.new.self in
    record {
      numbers = c.self.invariant.numbers ∙ numbers-stay number ls (numbers_of ls) refl c.args.chunk.now.stream_identifier c.args.place p
          c.index_mut-stream.result.now c.push_undoable_counted-pushed.new.self c.index_mut-stream.ensures.value same;
      cost = omega (arith, h, c.moved-self-inside.ensures, c.self.invariant.cost, c.cost_of-before.ensures, c.cost_of.ensures);
      visits = renewed-more c.self.inside.visits c.renew_within.new.visits ls c.args.place
          c.index_mut-stream.result.now c.push_undoable_counted-pushed.new.self lt c.index_mut-stream.ensures.value c.self.invariant.visits
          c.renew_within.ensures.places
          (length-set ls c.args.place c.push_undoable_counted-pushed.new.self) c.renew_within.ensures.others c.renew_within.ensures.here
          c.renew_within.ensures.other_spans c.renew_within.ensures.span;
      places = c.self.invariant.places;
      none = c.self.invariant.none;
    }

pub returns-clause-ok : goal.returns-clause-ok
returns-clause-ok c =
    let ls = c.self.inside.items.items in
    let p : IsOnlyPlace c.args.chunk.now.stream_identifier (numbers_of ls) c.args.place = rw (← c.self.view_is) at c.requires in
    rw (← c.self.view_is) (pushes c.args.chunk.now ls c.args.place p c.index_mut-stream.result.now c.push_undoable_counted-pushed.new.self
    c.index_mut-stream.ensures.value c.push_undoable_counted-pushed.ensures.rest c.push_undoable_counted-pushed.result
    c.push_undoable_counted-pushed.ensures.ok)

pub returns-clause-fits : goal.returns-clause-fits
returns-clause-fits c = λ ok.
    let ls = c.self.inside.items.items in
    let p : IsOnlyPlace c.args.chunk.now.stream_identifier (numbers_of ls) c.args.place = rw (← c.self.view_is) at c.requires in
    rw (← c.self.view_is) (fits c.args.chunk.now ls c.args.place p c.index_mut-stream.result.now c.push_undoable_counted-pushed.new.self
    c.index_mut-stream.ensures.value c.push_undoable_counted-pushed.ensures.rest (c.push_undoable_counted-pushed.ensures.fits ok))

pub returns-clause-refused : goal.returns-clause-refused
returns-clause-refused c =
    let ls = c.self.inside.items.items in
    let p : IsOnlyPlace c.args.chunk.now.stream_identifier (numbers_of ls) c.args.place = rw (← c.self.view_is) at c.requires in
    rw (← c.self.view_is) (refused c.args.chunk.now ls c.args.place p c.index_mut-stream.result.now c.push_undoable_counted-pushed.new.self
    c.index_mut-stream.ensures.value c.push_undoable_counted-pushed.ensures.rest c.push_undoable_counted-pushed.result
    c.push_undoable_counted-pushed.ensures.refused)

pub returns-clause-undo : goal.returns-clause-undo
returns-clause-undo c =
    let ls = c.self.inside.items.items in
    let p : IsOnlyPlace c.args.chunk.now.stream_identifier (numbers_of ls) c.args.place = rw (← c.self.view_is) at c.requires in
    let put = c.push_undoable_counted-pushed in
    rw (← c.self.view_is) (push-undone ls c.args.place c.index_mut-stream.result.now put.new.self
    (inside number ls (numbers_of ls) refl c.args.chunk.now.stream_identifier c.args.place p) c.index_mut-stream.ensures.value put.result put.ensures.undo)

pub returns-clause-can : goal.returns-clause-can
returns-clause-can c =
    let ls = c.self.inside.items.items in
    let p : IsOnlyPlace c.args.chunk.now.stream_identifier (numbers_of ls) c.args.place = rw (← c.self.view_is) at c.requires in
    let put = c.push_undoable_counted-pushed in
    push-can ls c.args.place c.index_mut-stream.result.now put.new.self
    (inside number ls (numbers_of ls) refl c.args.chunk.now.stream_identifier c.args.place p) c.index_mut-stream.ensures.value put.result put.ensures.can

pub span_at-requires : goal.span_at-requires
span_at-requires c =
    let ls = c.self.inside.items.items in
    let p : IsOnlyPlace c.args.chunk.now.stream_identifier (numbers_of ls) c.args.place = rw (← c.self.view_is) at c.requires in
    let lt = inside number ls (numbers_of ls) refl c.args.chunk.now.stream_identifier c.args.place p in
    omega (arith, lt, c.self.invariant.visits.listed.places)

pub renew_within-requires-clause-place : goal.renew_within-requires-clause-place
renew_within-requires-clause-place c =
    let ls = c.self.inside.items.items in
    let p : IsOnlyPlace c.args.chunk.now.stream_identifier (numbers_of ls) c.args.place = rw (← c.self.view_is) at c.requires in
    let lt = inside number ls (numbers_of ls) refl c.args.chunk.now.stream_identifier c.args.place p in
    omega (arith, lt, c.self.invariant.visits.listed.places)

pub renew_within-requires-clause-within : goal.renew_within-requires-clause-within
renew_within-requires-clause-within c =
    let ls = c.self.inside.items.items in
    let p : IsOnlyPlace c.args.chunk.now.stream_identifier (numbers_of ls) c.args.place = rw (← c.self.view_is) at c.requires in
    let lt = inside number ls (numbers_of ls) refl c.args.chunk.now.stream_identifier c.args.place p in
    let x = c.index_mut-stream.result.now in
    let put = c.push_undoable_counted-pushed in
    let s = c.span_at.result in
    let many : deque_len c.ordered.result.now ≡ length c.ordered.result.now.items = search rules in
    let is : c.is_empty-was_empty.result ≡ (length x.queue.held.ordered == 0) =
    c.is_empty-was_empty.ensures ∙ ap (λ n. n == 0) (many ∙ ap length c.ordered.ensures) in
    push-inside c.pushed-span.result c.args.chunk.now c.pushed-span.ensures.here x put.new.self put.result put.ensures.ok put.ensures.err s
    c.is_empty-was_empty.result is c.pushed-span.ensures.wider
    (c.self.invariant.visits.spans c.args.place s x c.span_at.ensures (read-at ls c.args.place x lt c.index_mut-stream.ensures.value))

pub returns-clause-cost : goal.returns-clause-cost
returns-clause-cost c =
    let ls = c.self.inside.items.items in
    let x = c.args.chunk.now in
    let put = c.push_undoable_counted-pushed in
    let p : IsOnlyPlace x.stream_identifier (numbers_of ls) c.args.place = rw (← c.self.view_is) at c.requires in
    let there = is-found x ls c.args.place p c.index_mut-stream.result.now put.new.self c.index_mut-stream.ensures.value put.ensures.rest in
    rw (← c.self.view_is) (subst (λ o. IsWithinPushOn x o (put.new.turns - c.args.turns.now)) (sym there) put.ensures.cost)
