use Rattle.sctp_sender.proofs.Names.{◌≡◌, ◌+◌, ◌<◌, ◌≤◌, ◌++◌, ◌∷◌, [], ℕ, length, take, get_or, ap, subst, sym, ◌∙◌, arith, take_all, take_more, change_at}
use Rattle.sctp_sender.proofs.Names.{Outbound, with_inflight, HaveOwnTsns, as_reported, reported_again}
use Rattle.sctp_sender.proofs.Undone.{again-length, again-more, again-own}
use Rattle.sctp_sender.proofs.sender.flight.kept.report_each_again.Goals as goal

pub report_again-requires-clause-within : goal.report_again-requires-clause-within
report_again-requires-clause-within c =
    let q = c.args.queue.now in
    let ks = c.args.places.now in
    let i = c.loop-place.place-index in
    let lt : i < length ks = c.loop-place-test.true in
    let w = c.requires.within i 0 lt in
    let n = ap (λ (o : Outbound). length o.inflight.chunks) c.loop-place.invariant.queue ∙ again-length (take i ks) q.inflight.chunks in
    omega (arith, w, n)

pub report_again-requires-clause-own : goal.report_again-requires-clause-own
report_again-requires-clause-own c =
    subst (λ (o : Outbound). HaveOwnTsns o.inflight.chunks) (sym c.loop-place.invariant.queue)
    (again-own (take c.loop-place.place-index c.args.places.now) c.args.queue.now.inflight.chunks c.requires.own)

pub loop-place-preserved : goal.loop-place-preserved
loop-place-preserved c =
    let q = c.args.queue.now in
    let cs = q.inflight.chunks in
    let ks = c.args.places.now in
    let i = c.loop-place.place-index in
    let lt : i < length ks = c.loop-place-test.true in
    let k : ℕ = get_or ks i 0 in
    let next : take (i + 1) ks ≡ take i ks ++ k ∷ [] = take_more ks i 0 lt in
    record {
      queue =
          c.report_again.ensures ∙ ap (λ (o : Outbound). with_inflight o (change_at as_reported k o.inflight.chunks)) c.loop-place.invariant.queue
          ∙ ap (with_inflight q) (sym (again-more (take i ks) k cs)) ∙ ap (λ xs. with_inflight q (reported_again xs cs)) (sym next);
      top = omega (arith, lt);
      turns = omega (arith, c.tick.ensures, c.loop-place.invariant.turns);
    }

pub returns-clause-value : goal.returns-clause-value
returns-clause-value c =
    let all : length c.args.places.now ≤ c.loop-place.place-index = c.loop-place-test.false in
    c.loop-place.invariant.queue
    ∙ ap (λ ks. with_inflight c.args.queue.now (reported_again ks c.args.queue.now.inflight.chunks)) (take_all c.loop-place.place-index c.args.places.now all)

pub returns-clause-cost : goal.returns-clause-cost
returns-clause-cost c = omega (arith, c.loop-place.invariant.turns, c.loop-place.invariant.top, c.loop-place-test.false)
