use Rattle.std.proofs.Common.{◌≡◌, ℕ, ◌+◌, ◌-◌, ◌*◌, ◌^◌, ◌<◌, ◌≤◌, length, inl, inr, sym, ◌∙◌, subst, arith}
use Rattle.std.proofs.Math.Nat.{mul-le-mul, pow-le-pow_right}
use Rattle.std.proofs.lemmas.Bool.{cases_lt}
use Rattle.std.proofs.lemmas.Nat.{pow-add}
use Rattle.sctp_outbound.proofs.lemmas.payload_queue.Gaps.{rises_ahead, breaks_ahead, rising_on, run_cut}
use Rattle.sctp_serial.proofs.lemmas.Halves.{one_more}
use Rattle.sctp_outbound.proofs.payload_queue.run_end.Goals as goal

-- a power of two below twice another is at most that one
no_greater : (n j s : ℕ) → s ≡ 2 ^ j → 2 ^ n < 2 * s → 2 ^ n ≤ s
no_greater n j s e h = elim (cases_lt j n) [
  | inl above ↦
      let more : 2 ^ (j + 1) ≤ 2 ^ n = pow-le-pow_right {n = 2} (omega arith) (omega arith) in
      let twice : 2 ^ (j + 1) ≡ 2 * 2 ^ j = pow-add 2 j 1 ∙ omega arith in
      absurd (omega arith)
  | inr low ↦ let most : 2 ^ n ≤ 2 ^ j = pow-le-pow_right {n = 2} (omega arith) low in omega arith
]

-- p is 2 to the turns of the first loop, q to those of the second, and l the run's length
product : (p q l : ℕ) → p < l → q ≤ l → p * q < l * l
product p q l hp hq =
    let most : p * q ≤ p * l = mul-le-mul (omega arith) hq in
    let more : (p + 1) * l ≤ l * l = mul-le-mul (omega arith) (omega arith) in
    let parts : (p + 1) * l ≡ p * l + l = grind arith in
    omega arith

-- the turns of both
turns_of_both : (t u v l : ℕ) → t ≤ u → u ≤ v → 2 ^ (u - t) < l → 2 ^ (v - u) ≤ l → 2 ^ (v - t) < l * l
turns_of_both t u v l tu uv first second =
    subst (λ n. 2 ^ n < l * l) {x = u - t + (v - u)} (omega arith)
    (subst (λ n. n < l * l) (sym (pow-add 2 (u - t) (v - u))) (product (2 ^ (u - t)) (2 ^ (v - u)) l first second))

-- the turns of the leaps that reach so far, and how far a power of two reaches
leaps : (t n : ℕ) → 4 * 2 ^ t ≡ n → n < 2 ^ 16 → (t ≤ 13) × (n ≤ 2 ^ 15)
leaps t n e small = elim (cases_lt t 14) [
  | inl low ↦
      let few : t ≤ 13 = omega arith in
      let most : 2 ^ t ≤ 2 ^ 13 = pow-le-pow_right {n = 2} (omega arith) few in
      (few, omega arith)
  | inr high ↦ let less : 2 ^ 14 ≤ 2 ^ t = pow-le-pow_right {n = 2} (omega arith) high in absurd (omega arith)
]

-- the turns between
halves : (t n : ℕ) → 2 ^ t ≤ 2 * n + 1 → n < 2 ^ 15 → t ≤ 15
halves t n h small = elim (cases_lt t 16) [
  | inl low ↦ omega arith
  | inr high ↦ let less : 2 ^ 16 ≤ 2 ^ t = pow-le-pow_right {n = 2} (omega arith) high in absurd (omega arith)
]

pub returns-then-distance-step-clause-run : goal.returns-then-distance-step-clause-run
returns-then-distance-step-clause-run c =
    let xs = c.args.held.now.chunks in
    let last = c.loop-step.last in
    let step = c.loop-step.step in
    let short : last + step < length xs = omega (arith, c.requires.in_range) in
    run_cut xs c.args.place last (last + step) c.args.end c.run_end_between.result.0
    (omega arith) c.requires.in_range (omega (arith, c.loop-step.invariant.from)) c.loop-step.invariant.rising
    (breaks_ahead xs c.requires.serial last c.loop-step.tsn step c.tsn_at-ahead.result short c.loop-step.invariant.number c.tsn_at-ahead.ensures.value
    (λ e. c.if-distance-step.true (c.distance.ensures.value ∙ e)))
    c.run_end_between.ensures.run

pub returns-then-distance-step-clause-cost : goal.returns-then-distance-step-clause-cost
returns-then-distance-step-clause-cost c =
    let inv = c.loop-step.invariant in
    let more = one_more c.args.turns.now c.loop-step.turns c.tsn_at-ahead.new.turns inv.not_back c.tsn_at-ahead.ensures.turn in
    let run = c.run_end_between.ensures.run in
    let second = no_greater (c.run_end_between.new.turns - c.tsn_at-ahead.new.turns) inv.power.0 c.loop-step.step inv.power.1
    (omega (arith, c.run_end_between.ensures.cost, inv.known)) in
    turns_of_both c.args.turns.now c.tsn_at-ahead.new.turns c.run_end_between.new.turns _ (omega arith) c.run_end_between.ensures.not_back
    (omega (arith, more, inv.cost, inv.from, run.from)) (omega (arith, second, inv.known, inv.from, run.from))

pub returns-then-distance-step-clause-most : goal.returns-then-distance-step-clause-most
returns-then-distance-step-clause-most c =
    let inv = c.loop-step.invariant in
    let reached = leaps (c.loop-step.turns - c.args.turns.now) (c.loop-step.last - c.args.place) inv.cost (omega (arith, c.requires.near, inv.in_range)) in
    let between = halves (c.run_end_between.new.turns - c.tsn_at-ahead.new.turns) (c.loop-step.last + c.loop-step.step - c.loop-step.last - 1)
    c.run_end_between.ensures.cost (omega (arith, reached, inv.known, inv.from)) in
    omega (arith, reached, between, inv.not_back, c.tsn_at-ahead.ensures.turn, c.run_end_between.ensures.not_back)

pub loop-step-init : goal.loop-step-init
loop-step-init c = record {
  from = omega arith;
  in_range = omega arith;
  known = omega arith;
  power = (2, omega arith);
  number = c.requires.number;
  rising = c.requires.rising;
  not_back = omega arith;
  cost = subst (λ n. 4 * 2 ^ n ≡ c.args.place + 4 - c.args.place) {x = 0} (omega arith) (omega arith);
}

pub loop-step-preserved : goal.loop-step-preserved
loop-step-preserved c =
    let xs = c.args.held.now.chunks in
    let last = c.loop-step.last in
    let step = c.loop-step.step in
    let inv = c.loop-step.invariant in
    let more = one_more c.args.turns.now c.loop-step.turns c.tsn_at-ahead.new.turns inv.not_back c.tsn_at-ahead.ensures.turn in
    let short : last + step < length xs = omega (arith, c.requires.in_range) in
    record {
      from = omega arith;
      in_range = omega arith;
      known = omega (arith, inv.known, inv.from);
      power = (inv.power.0 + 1, omega (arith, inv.power.1, inv.known, inv.from, pow-add 2 inv.power.0 1));
      number = c.tsn_at-ahead.ensures.value;
      rising = rising_on xs c.args.place last (last + step) inv.rising
          (rises_ahead xs c.requires.serial last c.loop-step.tsn step c.tsn_at-ahead.result short inv.number c.tsn_at-ahead.ensures.value
          (sym c.distance.ensures.value ∙ c.if-distance-step.false));
      not_back = omega arith;
      cost = omega (arith, more, inv.cost, inv.known, inv.from);
    }

pub returns-clause-cost : goal.returns-clause-cost
returns-clause-cost c =
    let inv = c.loop-step.invariant in
    let run = c.run_end_between-2.ensures.run in
    let second = no_greater (c.run_end_between-2.new.turns - c.loop-step.turns) inv.power.0 c.loop-step.step inv.power.1
    (omega (arith, c.run_end_between-2.ensures.cost, inv.known)) in
    turns_of_both c.args.turns.now c.loop-step.turns c.run_end_between-2.new.turns _ inv.not_back c.run_end_between-2.ensures.not_back
    (omega (arith, inv.cost, inv.from, run.from)) (omega (arith, second, inv.known, inv.from, run.from))

pub returns-clause-most : goal.returns-clause-most
returns-clause-most c =
    let inv = c.loop-step.invariant in
    let reached = leaps (c.loop-step.turns - c.args.turns.now) (c.loop-step.last - c.args.place) inv.cost (omega (arith, c.requires.near, inv.in_range)) in
    let between = halves (c.run_end_between-2.new.turns - c.loop-step.turns) (c.args.end - c.loop-step.last - 1)
    c.run_end_between-2.ensures.cost (omega (arith, reached, inv.known, inv.from)) in
    omega (arith, reached, between, inv.not_back, c.run_end_between-2.ensures.not_back)
