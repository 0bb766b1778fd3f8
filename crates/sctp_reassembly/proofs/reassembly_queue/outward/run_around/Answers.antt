use Rattle.std.proofs.Common.{◌≡◌, ◌≤◌, Bool, true, false, not, if◌then◌else◌, refl, sym, ◌∙◌, arith}
use Rattle.sctp_serial.proofs.lemmas.ListEdits.{an_element}
use Rattle.sctp_reassembly.proofs.lemmas.reassembly_queue.UnassembledRuns.{stretch_from, stretch_to, joined}
use Rattle.sctp_reassembly.proofs.reassembly_queue.outward.run_around.Goals as goal

is_on : (b : Bool) → not b ≡ false → b ≡ true
is_on true e = refl
is_on false e = cc

one_at_most : (b : Bool) → (if b then 0 else 1) ≤ 1
one_at_most true = omega arith
one_at_most false = omega arith

pub returns-in_err-back-clause-cost : goal.returns-in_err-back-clause-cost
returns-in_err-back-clause-cost c s t w =
    let xs = c.args.unassembled.now.chunks in
    let d = an_element xs c.args.place c.requires.in_range in
    let i = c.loop-front.invariant in
    let f = c.in_ok-front.ensures.found in
    let from = stretch_from xs c.args.place s t w c.in_ok-front.front.place d f.at_or_before f.rising in
    let to = stretch_to xs c.args.place s t w c.loop-front.back.place d i.back.at_or_after i.back.in_range i.back.rising in
    omega (
      arith,
      from,
      to,
      i.turns,
      c.look-here.ensures.turn,
      c.in_ok-front.ensures.step.moved,
      c.in_ok-front.ensures.step.turns,
      c.in_err-back.ensures.cost,
      f.at_or_before,
      i.back.at_or_after,
    )

pub returns-in_err-back-clause-no_beginning : goal.returns-in_err-back-clause-no_beginning
returns-in_err-back-clause-no_beginning c s t w plain =
    let xs = c.args.unassembled.now.chunks in
    let d = an_element xs c.args.place c.requires.in_range in
    let i = c.loop-front.invariant in
    let f = c.in_ok-front.ensures.found in
    let from = stretch_from xs c.args.place s t w c.in_ok-front.front.place d f.at_or_before f.rising in
    let at = stretch_from xs c.args.place s t w c.loop-front.front.place d i.front.at_or_before i.front.rising in
    let open_side = i.behind (sym (i.front.begins d) ∙ plain c.loop-front.front.place d at i.front.at_or_before) in
    omega (
      arith,
      from,
      open_side,
      i.turns,
      c.look-here.ensures.turn,
      c.in_ok-front.ensures.step.moved,
      c.in_ok-front.ensures.step.turns,
      c.in_err-back.ensures.cost,
      f.at_or_before,
      i.back.at_or_after,
    )

pub returns-in_err-back-clause-no_ending : goal.returns-in_err-back-clause-no_ending
returns-in_err-back-clause-no_ending c s t w plain =
    let xs = c.args.unassembled.now.chunks in
    let d = an_element xs c.args.place c.requires.in_range in
    let i = c.loop-front.invariant in
    let f = c.in_ok-front.ensures.found in
    let to = stretch_to xs c.args.place s t w c.loop-front.back.place d i.back.at_or_after i.back.in_range i.back.rising in
    let open_side = i.ahead c.in_err-back.ensures.open in
    omega (
      arith,
      to,
      open_side,
      i.turns,
      c.look-here.ensures.turn,
      c.in_ok-front.ensures.step.moved,
      c.in_ok-front.ensures.step.turns,
      one_at_most c.loop-front.front.done,
      c.in_err-back.ensures.cost,
      f.at_or_before,
      i.back.at_or_after,
    )

pub returns-clause-found : goal.returns-clause-found
returns-clause-found c =
    let xs = c.args.unassembled.now.chunks in
    let d = an_element xs c.args.place c.requires.in_range in
    let i = c.loop-front.invariant in
    joined xs c.args.place d c.loop-front.front.place c.loop-front.back.place
    record {
      at_or_before = i.front.at_or_before;
      begins = λ e. i.front.begins e ∙ is_on c.loop-front.front.done c.if-not-front.false;
      no_other = i.front.no_other;
      rising = i.front.rising;
    }
    record {
      at_or_after = i.back.at_or_after;
      in_range = i.back.in_range;
      no_other = i.back.no_other;
      rising = i.back.rising;
      ends = λ e. i.back.ends e ∙ is_on c.loop-front.back.done c.if-not-back.false;
    }
    i.back.first_ending

pub returns-clause-cost : goal.returns-clause-cost
returns-clause-cost c s t w =
    let xs = c.args.unassembled.now.chunks in
    let d = an_element xs c.args.place c.requires.in_range in
    let i = c.loop-front.invariant in
    let from = stretch_from xs c.args.place s t w c.loop-front.front.place d i.front.at_or_before i.front.rising in
    let to = stretch_to xs c.args.place s t w c.loop-front.back.place d i.back.at_or_after i.back.in_range i.back.rising in
    omega (arith, from, to, i.turns, c.look-here.ensures.turn, i.front.at_or_before, i.back.at_or_after)

pub returns-clause-no_beginning : goal.returns-clause-no_beginning
returns-clause-no_beginning c s t w plain =
    let xs = c.args.unassembled.now.chunks in
    let d = an_element xs c.args.place c.requires.in_range in
    let i = c.loop-front.invariant in
    let from = stretch_from xs c.args.place s t w c.loop-front.front.place d i.front.at_or_before i.front.rising in
    let open_side = i.behind (sym (i.front.begins d) ∙ plain c.loop-front.front.place d from i.front.at_or_before) in
    omega (arith, from, open_side, i.turns, c.look-here.ensures.turn, i.front.at_or_before, i.back.at_or_after)

pub returns-clause-no_ending : goal.returns-clause-no_ending
returns-clause-no_ending c s t w plain =
    let xs = c.args.unassembled.now.chunks in
    let d = an_element xs c.args.place c.requires.in_range in
    let i = c.loop-front.invariant in
    let to = stretch_to xs c.args.place s t w c.loop-front.back.place d i.back.at_or_after i.back.in_range i.back.rising in
    let open_side = i.ahead (sym (i.back.ends d) ∙ plain c.loop-front.back.place d i.back.at_or_after to) in
    omega (arith, to, open_side, i.turns, c.look-here.ensures.turn, i.front.at_or_before, i.back.at_or_after)
