use Rattle.sctp_sender.proofs.Names.{◌≡◌, ℕ, List, None, length, get_or, refl, ap, sym, subst, ◌∙◌, arith, sack_of, GapAckBlock, PicksLeftOut, is_left_out}
use Rattle.sctp_sender.proofs.Names.{to_sort, is_outdated, sack_refusal, Cover, back_each, return_at, AreKnown, AreSorted, ascends_from}
use Rattle.sctp_sender.proofs.Covering.{back-is, covered-at}
use Rattle.sctp_sender.proofs.Reported.{IsTaken}
use Rattle.sctp_sender.proofs.SackCosts.{few-known, left-out}
use Rattle.sctp_sender.proofs.Seen.{flight_in}
use Rattle.sctp_sender.proofs.sender.flight.InFlight.coming_back_counted.Goals.{After-deref-3, After-deref-then-ascend, After-distance-count}
use Rattle.sctp_sender.proofs.sender.flight.InFlight.coming_back_counted.Goals as goal

-- The SACK is taken, its blocks in ascending order, as they are or once they are sorted.
rising : (c : After-deref-then-ascend) → IsTaken (sack_of c.args.sack.now) (flight_in c.self.inside) c.deref-then-ascend.result.now
rising c =
    let s = sack_of c.args.sack.now in
    record {
      whole = c.self.invariant.contiguous;
      fits = c.distance-count.ensures.to_fits;
      none = ap (sack_refusal s) c.self.view_is ∙ c.requires.taken;
      current = ap (is_outdated s) c.self.view_is ∙ c.requires.current;
      are = subst (λ (xs : List GapAckBlock). AreSorted xs s.gap_ack_blocks) (sym c.deref-then-ascend.ensures.value) (record {
        ascend = ap (ascends_from 0) (sym c.deref.ensures.value) ∙ sym c.ascend.ensures.answer ∙ c.if-ascend.true;
        same = λ n pos. refl;
      });
    }

sorted : (c : After-deref-3) → IsTaken (sack_of c.args.sack.now) (flight_in c.self.inside) c.deref-3.result.now
sorted c =
    let s = sack_of c.args.sack.now in
    record {
      whole = c.self.invariant.contiguous;
      fits = c.distance-count.ensures.to_fits;
      none = ap (sack_refusal s) c.self.view_is ∙ c.requires.taken;
      current = ap (is_outdated s) c.self.view_is ∙ c.requires.current;
      are = subst (λ (xs : List GapAckBlock). AreSorted xs s.gap_ack_blocks) (sym c.deref-3.ensures.value)
          (subst (AreSorted c.in_ok-sorted.sorted.items) c.deref-2.ensures.value c.in_ok-sorted.ensures.ok);
    }

covers : (c : After-distance-count) → Cover c.args.kept.now.reported.items c.args.kept.now.user_data.items (flight_in c.self.inside)
covers c = subst (Cover c.args.kept.now.reported.items c.args.kept.now.user_data.items) (sym c.self.view_is) c.requires.covered

-- What comes back, place by place.
comes : (c : After-distance-count) {blocks : List GapAckBlock} → IsTaken (sack_of c.args.sack.now) (flight_in c.self.inside) blocks → (k : ℕ)
    → get_or (back_each (sack_of c.args.sack.now) c.self.inside.queue.inflight.chunks c.args.kept.now.user_data.items) k None
    ≡ return_at c.distance-count.result blocks c.self.inside.queue.inflight.chunks c.args.kept.now.user_data.items k
comes c {blocks} t k =
    let cs = c.self.inside.queue.inflight.chunks in
    let ks = c.args.kept.now.user_data.items in
    subst (λ n. get_or (back_each (sack_of c.args.sack.now) cs ks) k None ≡ return_at n blocks cs ks k) (sym c.distance-count.ensures.value) (back-is t ks k)

-- What is looked at in vain.
looks : (c : After-distance-count) {blocks : List GapAckBlock} → IsTaken (sack_of c.args.sack.now) (flight_in c.self.inside) blocks
    → AreKnown c.args.kept.now.reported.items c.self.inside.queue.inflight.chunks
    → PicksLeftOut (is_left_out (sack_of c.args.sack.now)) c.distance-count.result c.args.kept.now.reported.items blocks
    c.self.inside.queue.inflight.chunks
looks c {blocks} t known =
    let bs = c.args.kept.now.reported.items in
    subst (λ n. PicksLeftOut (is_left_out (sack_of c.args.sack.now)) n bs blocks c.self.inside.queue.inflight.chunks)
    (sym c.distance-count.ensures.value) (left-out t bs known)

pub returning-requires-clause-covered : goal.returning-requires-clause-covered
returning-requires-clause-covered c = λ k e.
    covered-at (flight_in c.self.inside) c.self.invariant.contiguous c.args.kept.now.reported.items c.args.kept.now.user_data.items
    (covers (goal.at.returning-requires-clause-covered c).After-distance-count) k e

pub returns-then-ascend-clause-ok : goal.returns-then-ascend-clause-ok
returns-then-ascend-clause-ok c =
    let p = goal.at.returns-then-ascend-clause-ok c in
    rw (← c.self.view_is) (c.returning.ensures.ok (back_each (sack_of c.args.sack.now) c.self.inside.queue.inflight.chunks c.args.kept.now.user_data.items)
    (comes p.After-distance-count (rising p.After-deref-then-ascend)))

pub returns-then-ascend-clause-idle : goal.returns-then-ascend-clause-idle
returns-then-ascend-clause-idle c =
    let p = goal.at.returns-then-ascend-clause-idle c in
    rw (← c.self.view_is) (λ _. c.returning.ensures.idle
    (back_each (sack_of c.args.sack.now) c.self.inside.queue.inflight.chunks c.args.kept.now.user_data.items)
    (comes p.After-distance-count (rising p.After-deref-then-ascend)))

pub returning-requires-2-clause-covered : goal.returning-requires-2-clause-covered
returning-requires-2-clause-covered c = λ k e.
    covered-at (flight_in c.self.inside) c.self.invariant.contiguous c.args.kept.now.reported.items c.args.kept.now.user_data.items
    (covers (goal.at.returning-requires-2-clause-covered c).After-distance-count) k e

pub returns-clause-ok : goal.returns-clause-ok
returns-clause-ok c =
    let p = goal.at.returns-clause-ok c in
    rw (← c.self.view_is) (c.returning-2.ensures.ok (back_each (sack_of c.args.sack.now) c.self.inside.queue.inflight.chunks c.args.kept.now.user_data.items)
    (comes p.After-distance-count (sorted p.After-deref-3)))

pub returns-then-ascend-clause-cost : goal.returns-then-ascend-clause-cost
returns-then-ascend-clause-cost c =
    let p = goal.at.returns-then-ascend-clause-cost c in
    rw (← c.self.view_is) (λ known.
    let cost = c.returning.ensures.cost (is_left_out (sack_of c.args.sack.now))
    (looks p.After-distance-count (rising p.After-deref-then-ascend) known) in
    let few = few-known c.args.kept.now.reported.items c.self.inside.queue.inflight.chunks (covers p.After-distance-count).ascend known in
    let n = ap length c.deref.ensures.value in
    let m = ap length c.deref-then-ascend.ensures.value in
    omega (arith, cost, few, n, m, c.ascend.ensures.cost))

pub returns-in_err-sorted-clause-cost : goal.returns-in_err-sorted-clause-cost
returns-in_err-sorted-clause-cost c = λ known.
    let n = ap length c.deref.ensures.value in
    let m = ap length c.deref-2.ensures.value in
    let k = ap to_sort c.deref-2.ensures.value in
    omega (arith, n, m, k, c.ascend.ensures.cost, c.sorted_blocks.ensures.cost)

pub returns-clause-cost : goal.returns-clause-cost
returns-clause-cost c =
    let p = goal.at.returns-clause-cost c in
    rw (← c.self.view_is) (λ known.
    let cost = c.returning-2.ensures.cost (is_left_out (sack_of c.args.sack.now)) (looks p.After-distance-count (sorted p.After-deref-3) known) in
    let few = few-known c.args.kept.now.reported.items c.self.inside.queue.inflight.chunks (covers p.After-distance-count).ascend known in
    let n = ap length c.deref.ensures.value in
    let m = ap length c.deref-2.ensures.value in
    let k = ap to_sort c.deref-2.ensures.value in
    let l = ap length c.deref-3.ensures.value in
    omega (arith, cost, few, n, m, k, l, c.ascend.ensures.cost, c.sorted_blocks.ensures.cost, c.in_ok-sorted.ensures.few))
