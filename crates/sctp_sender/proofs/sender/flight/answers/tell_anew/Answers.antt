use Rattle.sctp_sender.proofs.Names.{◌≡◌, ◌+◌, ◌-◌, [], ◌∷◌, drop, get_or, refl, subst, arith, suc, ap, common_steps, drop_all, drop_more, get_or_default}
use Rattle.sctp_sender.proofs.Names.{GapAckBlock, unknown_from}
use Rattle.std.proofs.lemmas.List.Sums.{sum_by_more, sum_by_more_le}
use Rattle.sctp_sender.proofs.Anew.{IsAnsweredTo, behind-last, block-within, next-block, answered-all}
use Rattle.sctp_sender.proofs.KnownPlaces.{any_block, first-behind, next-behind}
use Rattle.sctp_sender.proofs.sender.flight.answers.tell_anew.Goals as goal

pub tell_between-requires-in-loop-block-clause-within : goal.tell_between-requires-in-loop-block-clause-within
tell_between-requires-in-loop-block-clause-within c =
    let bs = c.args.sorted.now in
    let i = c.loop-block.block-index in
    let cs = c.args.queue.now.inflight.chunks in
    let none : GapAckBlock = record { start = 0; end = 0 } in
    let b = get_or bs i none in
    let d : drop i bs ≡ b ∷ drop (i + 1) bs = drop_more bs i none c.loop-block-test.true in
    let t = subst (λ xs. IsAnsweredTo c.args.count bs xs cs c.loop-block.released.items) d c.loop-block.invariant.answer in
    block-within c.args.count bs (drop (i + 1) bs) b cs c.loop-block.released.items t c.requires.within

pub tell_between-requires-in-loop-block-clause-passed : goal.tell_between-requires-in-loop-block-clause-passed
tell_between-requires-in-loop-block-clause-passed c = λ k b lt.
    let bs = c.args.sorted.now in
    let i = c.loop-block.block-index in
    let at = ap (λ (x : GapAckBlock). x.start) (get_or_default bs i any_block (record { start = 0; end = 0 }) c.loop-block-test.true) in
    let h = c.loop-block.invariant.passed k b lt c.loop-block-test.true in
    omega (arith, h, at)

pub loop-block-init : goal.loop-block-init
loop-block-init c =
    let answer = c.in_ok-tell_between.ensures in
    let whole : c.args.count - 0 ≡ c.args.count = omega arith in
    let same = ap (λ n. unknown_from c.args.known.now 0 n) whole in
    record {
      answer = grind (arith, common_steps);
      inside = answer.inside (omega arith);
      not_back = answer.not_back;
      cost = (let cost = answer.cost in omega (arith, cost));
      passed = λ k b lt some.
          (let h = answer.passed k b lt in
          let s = first-behind c.args.sorted.now 0 any_block c.requires.ascend some in
          omega (arith, h, s));
      unknown = (let unknown = answer.unknown in omega (arith, unknown, same));
    }

pub loop-block-preserved : goal.loop-block-preserved
loop-block-preserved c =
    let bs = c.args.sorted.now in
    let i = c.loop-block.block-index in
    let cs = c.args.queue.now.inflight.chunks in
    let rs = c.loop-block.released.items in
    let none : GapAckBlock = record { start = 0; end = 0 } in
    let b = get_or bs i none in
    let d : drop i bs ≡ b ∷ drop (i + 1) bs = drop_more bs i none c.loop-block-test.true in
    let t = subst (λ xs. IsAnsweredTo c.args.count bs xs cs rs) d c.loop-block.invariant.answer in
    let some = behind-last c.args.count bs (drop (i + 1) bs) b cs rs t in
    let more = sum_by_more (λ (b : GapAckBlock). b.end + 1 - b.start) bs i none c.loop-block-test.true in
    let inv = c.loop-block.invariant in
    let answer = c.in_ok-tell_between-2.ensures in
    let inside = inv.inside in
    let cost = inv.cost in
    record {
      answer = next-block c.args.count bs (drop (i + 1) bs) b cs rs t (c.args.count + b.start - 1) (c.args.count + b.end)
          (omega (arith, some)) refl c.requires.within
          c.tell_between-in-loop-block.new.released.items c.in_ok-tell_between-2.ensures.answered;
      inside = answer.inside inside;
      passed = λ k x lt some'.
          (let h = answer.passed k x lt in
          let next = next-behind bs 0 i any_block c.requires.ascend (omega (arith, some')) in
          let e : suc i ≡ i + 1 = omega arith in
          let same = ap (λ j. (get_or bs j any_block).start) e in
          let at = ap (λ (x : GapAckBlock). x.end) (get_or_default bs i any_block none c.loop-block-test.true) in
          omega (arith, h, next, same, at));
      unknown = (let span : c.args.count + b.end - (c.args.count + b.start - 1) ≡ b.end + 1 - b.start = omega (arith, some) in
          let same = ap (λ n. unknown_from c.args.known.now (c.args.count + b.start - 1) n) span in
          let one = sum_by_more (λ (b : GapAckBlock). unknown_from c.args.known.now (c.args.count + b.start - 1) (b.end + 1 - b.start)) bs i none
          c.loop-block-test.true in
          let unknown = answer.unknown in
          let before = inv.unknown in
          omega (arith, c.tick.ensures, unknown, before, same, one));
      not_back = omega (arith, c.tick.ensures, answer.not_back, inv.not_back);
      cost = omega (arith, c.tick.ensures, answer.cost, cost, more, some);
    }

pub returns-clause-answered : goal.returns-clause-answered
returns-clause-answered c = λ p picks.
    let bs = c.args.sorted.now in
    let i = c.loop-block.block-index in
    let cs = c.args.queue.now.inflight.chunks in
    let rs = c.loop-block.released.items in
    let none : drop i bs ≡ [] = drop_all i bs (omega (arith, c.loop-block-test.false, c.loop-block.auto.block-index-end)) in
    answered-all c.args.count bs cs rs (subst (λ xs. IsAnsweredTo c.args.count bs xs cs rs) none c.loop-block.invariant.answer) p picks

pub returns-in_err-tell_between-2-clause-unknown : goal.returns-in_err-tell_between-2-clause-unknown
returns-in_err-tell_between-2-clause-unknown c =
    let bs = c.args.sorted.now in
    let i = c.loop-block.block-index in
    let cs = c.args.queue.now.inflight.chunks in
    let rs = c.loop-block.released.items in
    let none : GapAckBlock = record { start = 0; end = 0 } in
    let b = get_or bs i none in
    let d : drop i bs ≡ b ∷ drop (i + 1) bs = drop_more bs i none c.loop-block-test.true in
    let t = subst (λ xs. IsAnsweredTo c.args.count bs xs cs rs) d c.loop-block.invariant.answer in
    let some = behind-last c.args.count bs (drop (i + 1) bs) b cs rs t in
    let answer = c.tell_between-in-loop-block.ensures in
    let inside = answer.inside c.loop-block.invariant.inside in
    let unknown = answer.unknown in
    let before = c.loop-block.invariant.unknown in
    let span : c.args.count + b.end - (c.args.count + b.start - 1) ≡ b.end + 1 - b.start = omega (arith, some) in
    let same = ap (λ n. unknown_from c.args.known.now (c.args.count + b.start - 1) n) span in
    let part = sum_by_more_le (λ (b : GapAckBlock). unknown_from c.args.known.now (c.args.count + b.start - 1) (b.end + 1 - b.start)) bs i none
    c.loop-block-test.true in
    omega (arith, c.tick.ensures, unknown, before, inside, same, part, c.loop-block-test.true)
