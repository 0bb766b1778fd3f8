use Rattle.sctp_sender.proofs.Names.{rules, ◌≡◌, ℕ, suc, ◌+◌, ◌-◌, ◌<◌, List, length, get_or, ap, sym, ◌∙◌, arith, common_steps, get_or-map, length-map}
use Rattle.sctp_sender.proofs.Names.{none-some, Released, messages_of}
use Rattle.sctp_sender.proofs.Counts.{numbers-stay, numbers_of, one-judged}
use Rattle.sctp_sender.proofs.Runs.{any_chunk}
use Rattle.sctp_sender.proofs.Answered.{StandsAt, any_answered, next-in-flight, stands-at}
use Rattle.sctp_sender.proofs.sender.flight.answers.judge_each.Goals.{After-distance}
use Rattle.sctp_sender.proofs.sender.flight.answers.judge_each.Goals as goal

-- The chunk of which the answer tells, and how far it is.
told-at : (c : After-distance) → (p : StandsAt c.args.acked_tsn c.args.queue.now.inflight.chunks (get_or c.loop-one.one-items c.loop-one.one-index any_answered))
    × (c.distance.result ≡ suc p.k)
told-at c =
    let lt : c.loop-one.one-index < length c.loop-one.one-items = omega arith in
    let p = stands-at c.args.acked_tsn _ c.ranges.acked_tsn.fits c.requires.run c.requires.few _
    (next-in-flight c.args.queue.now.inflight.chunks c.loop-one.one-items c.loop-one.one-index any_answered lt c.loop-one.invariant.there) any_chunk in
    (p, c.distance.ensures.value ∙ p.far)

pub overflow_sub-place : goal.overflow_sub-place
overflow_sub-place c = let far = (told-at (goal.at.overflow_sub-place c).After-distance).1 in omega (arith, far)

pub whole_or_last-whole-requires-clause-place : goal.whole_or_last-whole-requires-clause-place
whole_or_last-whole-requires-clause-place c =
    let p = told-at (goal.at.whole_or_last-whole-requires-clause-place c).After-distance in
    let far = p.1 in
    let here = p.0.lt in
    omega (arith, far, here)

pub whole_or_last-whole-requires-clause-own : goal.whole_or_last-whole-requires-clause-own
whole_or_last-whole-requires-clause-own c =
    let p = told-at (goal.at.whole_or_last-whole-requires-clause-own c).After-distance in
    let far = p.1 in
    let place : c.distance.result - 1 ≡ p.0.k = omega (arith, far) in
    λ d. ap (λ k. (get_or c.args.queue.now.inflight.chunks k d).message_id) place ∙ p.0.own d

pub loop-one-preserved : goal.loop-one-preserved
loop-one-preserved c =
    let cs = c.args.queue.now.inflight.chunks in
    let old = c.args.released.now.items in
    let ms = numbers_of old in
    let rs = c.loop-one.one-items in
    let i = c.loop-one.one-index in
    let inv = c.loop-one.invariant in
    let answer = c.whole_or_last-whole.ensures in
    let lt : i < length rs = omega arith in
    let m : ℕ = (get_or rs i any_answered).message in
    let stay : numbers_of rs ≡ ms = numbers-stay c.args.partial cs old rs i inv.noted in
    let is : m ≡ get_or ms i 0 = sym (get_or-map (λ (r : Released). r.message) rs i any_answered 0 lt) ∙ ap (λ (ns : List ℕ). get_or ns i 0) stay in
    let n = sym (ap (λ (ns : List ℕ). length ns) stay) ∙ length-map rs (λ (r : Released). r.message) in
    let back : i + 1 - 1 ≡ i = omega arith in
    record {
      noted = grind (arith, common_steps);
      there = grind (arith, common_steps);
      last = search rules;
      own = (omega arith, is ∙ ap (λ k. get_or ms k 0) (sym back));
      first = λ e. absurd (none-some _ (sym e));
      not_back = omega (arith, answer.not_back, inv.not_back);
      cost = one-judged ms (messages_of cs) i m c.args.turns.now c.loop-one.turns c.whole_or_last-whole.new.turns c.loop-one.last c.requires.in_turn
          (omega (arith, n, lt)) is inv.own inv.first inv.cost answer.same answer.cost;
    }
