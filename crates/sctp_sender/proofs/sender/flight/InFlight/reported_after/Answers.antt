use Rattle.sctp_sender.proofs.Names.{◌≡◌, ◌+◌, ◌*◌, ◌≤◌, true, false, ℕ, List, length, suc, ap, sym, subst, ◌∙◌, arith, ◌||◌, count_by, false≢true, distance}
use Rattle.sctp_sender.proofs.Names.{sack_of, ChunkPayloadData, GapAckBlock, is_in_blocks, or-left, or-right, PicksLeftOut, is_left_out, Flight, count_acked}
use Rattle.sctp_sender.proofs.Names.{is_outdated, sack_refusal, Cover, returns_at, AreKnown}
use Rattle.sctp_sender.proofs.Counts.{count-in}
use Rattle.sctp_sender.proofs.Covering.{after-covered, after-known, both-ok, covered-at, each-ok}
use Rattle.sctp_sender.proofs.Reported.{IsTaken}
use Rattle.sctp_sender.proofs.SackCosts.{few-known, left-out}
use Rattle.sctp_sender.proofs.Seen.{flight_in}
use Rattle.sctp_sender.proofs.Anew.{both}
use Rattle.sctp_sender.proofs.sender.flight.InFlight.reported_after.Goals.{After-deref-4, After-distance-count, After-next_return}
use Rattle.sctp_sender.proofs.sender.flight.InFlight.reported_after.Goals as goal

taken : (c : After-distance-count) → IsTaken (sack_of c.args.sack.now) (flight_in c.self.inside) c.args.sorted.items
taken c =
    let s = sack_of c.args.sack.now in
    record {
      whole = c.self.invariant.contiguous;
      fits = c.distance-count.ensures.to_fits;
      none = ap (sack_refusal s) c.self.view_is ∙ c.requires.taken;
      current = ap (is_outdated s) c.self.view_is ∙ c.requires.current;
      are = c.requires.sorted;
    }

covers : (c : After-distance-count) → Cover c.args.kept.now.reported.items c.args.kept.now.user_data.items (flight_in c.self.inside)
covers c = subst (Cover c.args.kept.now.reported.items c.args.kept.now.user_data.items) (sym c.self.view_is) c.requires.covered

-- What the walk for something that comes back has cost.
walked : (c : After-next_return) → IsTaken (sack_of c.args.sack.now) (flight_in c.self.inside) c.args.sorted.items
    → Cover c.args.kept.now.reported.items c.args.kept.now.user_data.items (flight_in c.self.inside)
    → AreKnown c.args.kept.now.reported.items c.self.inside.queue.inflight.chunks
    → (c.next_return.new.turns ≤ c.args.turns.now + 2 * length c.args.sorted.items
    + count_by (λ (c : ChunkPayloadData). c.acked) c.self.inside.queue.inflight.chunks
    + count_by (is_left_out (sack_of c.args.sack.now)) c.self.inside.queue.inflight.chunks + 1)
    × (length c.args.kept.now.reported.items ≤ count_by (λ (c : ChunkPayloadData). c.acked) c.self.inside.queue.inflight.chunks)
walked c t v known =
    let s = sack_of c.args.sack.now in
    let cs = c.self.inside.queue.inflight.chunks in
    let bs = c.args.kept.now.reported.items in
    let q = is_left_out s in
    let there = subst (λ (n : ℕ). PicksLeftOut q n bs c.args.sorted.items cs) (sym c.distance-count.ensures.value) (left-out t bs known) in
    let cost = c.next_return.ensures.cost q
    (subst (λ (xs : List GapAckBlock). PicksLeftOut q c.distance-count.result xs c.deref-2.result.now cs) (sym c.deref.ensures.value)
    (subst (λ (xs : List GapAckBlock). PicksLeftOut q c.distance-count.result bs xs cs) (sym c.deref-2.ensures.value) there)) in
    let few = few-known bs cs v.ascend known in
    let n = ap length c.deref.ensures.value in
    let m = ap length c.deref-2.ensures.value in
    let inside = c.next_return.ensures.inside (omega arith) in
    let within = c.next_return.ensures.within (omega arith) in
    let all = count-in q cs c.next_return.new.at.place in
    (omega (arith, cost, few, n, m, inside, within, all), few)

-- What both lists report together.
joins : (c : After-deref-4) (all : List GapAckBlock) → ((k : ℕ) → is_in_blocks all (suc k)
    ≡ (is_in_blocks c.deref-3.result.now (suc k) || is_in_blocks c.deref-4.result.now (suc (c.distance-count.result + k)))) → (k : ℕ)
    → is_in_blocks all (suc k) ≡ (is_in_blocks c.args.sorted.items (suc k)
    || is_in_blocks c.args.kept.now.reported.items (suc (count_acked (sack_of c.args.sack.now) (flight_in c.self.inside) + k)))
joins c all h k = h k
    ∙ ap (λ (xs : List GapAckBlock). is_in_blocks xs (suc k) || is_in_blocks c.deref-4.result.now (suc (c.distance-count.result + k))) c.deref-3.ensures.value
    ∙ ap (λ (xs : List GapAckBlock). is_in_blocks c.args.sorted.items (suc k) || is_in_blocks xs (suc (c.distance-count.result + k))) c.deref-4.ensures.value
    ∙ ap (λ n. is_in_blocks c.args.sorted.items (suc k) || is_in_blocks c.args.kept.now.reported.items (suc (n + k))) c.distance-count.ensures.value

pub next_return-requires-clause-covered : goal.next_return-requires-clause-covered
next_return-requires-clause-covered c = λ k e.
    subst (λ (xs : List GapAckBlock). is_in_blocks xs (suc k) ≡ true) (sym c.deref.ensures.value)
    (covered-at (flight_in c.self.inside) c.self.invariant.contiguous c.args.kept.now.reported.items c.args.kept.now.user_data.items
    (covers (goal.at.next_return-requires-clause-covered c).After-distance-count) k e)

pub returns-then-not-next_return-clause-covered : goal.returns-then-not-next_return-clause-covered
returns-then-not-next_return-clause-covered c =
    let t = taken (goal.at.returns-then-not-next_return-clause-covered c).After-distance-count in
    let cs = c.self.inside.queue.inflight.chunks in
    let sorted = c.args.sorted.items in
    let from : ℕ = distance c.self.inside.acked_tsn c.args.sack.now.cumulative_tsn_ack in
    let count : c.distance-count.result ≡ from = c.distance-count.ensures.value in
    let left : (k : ℕ) → c.distance-count.result ≤ k → returns_at from sorted cs k ≡ false = λ k le.
    subst (λ n. returns_at n sorted cs k ≡ false) count (subst (λ (xs : List GapAckBlock). returns_at c.distance-count.result xs cs k ≡ false)
    c.deref-2.ensures.value (c.next_return.ensures.none c.if-not-next_return.true k le)) in
    rw (← c.self.view_is) (after-covered t sorted c.args.kept.now.user_data.items t.are.ascend (λ k h. h)
    (λ k lt e. absurd (false≢true (sym (left (from + k) (omega (arith, count))) ∙ e))))

pub returns-then-not-next_return-clause-known : goal.returns-then-not-next_return-clause-known
returns-then-not-next_return-clause-known c =
    let t = taken (goal.at.returns-then-not-next_return-clause-known c).After-distance-count in
    let sorted = c.args.sorted.items in
    let bs = c.args.kept.now.reported.items in
    rw (← c.self.view_is) (λ known. after-known t sorted bs known
    (λ k e. or-left (is_in_blocks sorted (suc k))
    (is_in_blocks bs (suc (distance c.self.inside.acked_tsn c.args.sack.now.cumulative_tsn_ack + k))) e))

pub returns-clause-covered : goal.returns-clause-covered
returns-clause-covered c =
    let p = goal.at.returns-clause-covered c in
    let f : Flight = flight_in c.self.inside in
    let bs = c.args.kept.now.reported.items in
    let ks = c.args.kept.now.user_data.items in
    let sorted = c.args.sorted.items in
    let from : ℕ = distance f.acked_tsn c.args.sack.now.cumulative_tsn_ack in
    rw (← c.self.view_is) (both-ok c.joined.result (λ all up h.
    let same = joins p.After-deref-4 all.items h in
    after-covered (taken p.After-distance-count) all.items ks up
    (λ k e. same k ∙ or-left (is_in_blocks sorted (suc k)) (is_in_blocks bs (suc (from + k))) e)
    (λ k lt e. same k ∙ or-right (is_in_blocks sorted (suc k)) (is_in_blocks bs (suc (from + k)))
    (covered-at f c.self.invariant.contiguous bs ks (covers p.After-distance-count) (from + k) (both _ _ e).0)))
    c.joined.ensures.ascend c.joined.ensures.same)

pub returns-clause-known : goal.returns-clause-known
returns-clause-known c =
    let p = goal.at.returns-clause-known c in
    rw (← c.self.view_is) (each-ok c.joined.result (λ all h known.
    after-known (taken p.After-distance-count) all.items c.args.kept.now.reported.items known (λ k e. sym (joins p.After-deref-4 all.items h k) ∙ e))
    c.joined.ensures.same)

pub returns-then-not-next_return-clause-cost : goal.returns-then-not-next_return-clause-cost
returns-then-not-next_return-clause-cost c =
    let p = goal.at.returns-then-not-next_return-clause-cost c in
    rw (← c.self.view_is) (λ known.
    let h = walked p.After-next_return (taken p.After-distance-count) (covers p.After-distance-count) known in omega (arith, h.0))

pub returns-clause-cost : goal.returns-clause-cost
returns-clause-cost c =
    let p = goal.at.returns-clause-cost c in
    rw (← c.self.view_is) (λ known.
    let h = walked p.After-next_return (taken p.After-distance-count) (covers p.After-distance-count) known in
    let k = ap length c.deref-3.ensures.value in
    let l = ap length c.deref-4.ensures.value in
    omega (arith, h.0, h.1, k, l, c.joined.ensures.cost))
