use Rattle.sctp_sender.proofs.Names.{◌≡◌, suc, ◌+◌, ◌*◌, ◌-◌, ◌<◌, ◌≤◌, false, length, map, get_or, ap, sym, ◌∙◌, arith, common_steps, get_or_default, by_last}
use Rattle.sctp_sender.proofs.Names.{GapAckBlock, is_in_blocks, unknown_from, released_of, no_message}
use Rattle.sctp_sender.proofs.Anew.{jumped}
use Rattle.sctp_sender.proofs.KnownPlaces.{not-known, one-unknown, unknown-up}
use Rattle.sctp_sender.proofs.sender.flight.answers.tell_between.Goals as goal
use Rattle.sctp_sender.proofs.sender.flight.answers.tell_between.Goals.{After-tell_at, then-next-known+else-block-place+else-block-place-2, else-next-known}

pub loop-place-preserved-then-block-place : goal.loop-place-preserved-then-block-place
loop-place-preserved-then-block-place c =
    let bs = c.args.known.now in
    let i = c.loop-place.next in
    let inv = c.loop-place.invariant in
    let lt : i < length bs = omega (arith, c.if-next-known.true) in
    let unknown = inv.unknown in
    record {
      from = inv.from;
      within = inv.within;
      onward = (let onward = inv.onward in omega (arith, onward));
      inside = λ in'. omega (arith, lt);
      not_back = omega (arith, c.tick.ensures, inv.not_back);
      cost = (let cost = inv.cost in omega (arith, c.tick.ensures, cost));
      passed = λ k b less. by_last k i less (λ old. inv.passed k b old) (λ is. (
          let same = ap (λ j. (get_or bs j b).end) is in
          let at = ap (λ (x : GapAckBlock). x.end) (get_or_default bs i b (record { start = 0; end = 0 }) lt) in
          omega (arith, same, at, c.if-block-place.true)
          ));
      unknown = omega (arith, c.tick.ensures, unknown);
      settled = λ below before. omega (arith, c.tick.ensures, unknown);
      answered = inv.answered;
    }

pub loop-place-preserved-then-block-place-2 : goal.loop-place-preserved-then-block-place-2
loop-place-preserved-then-block-place-2 c =
    let cs = c.args.queue.now.inflight.chunks in
    let bs = c.args.known.now in
    let i = c.loop-place.next in
    let none : GapAckBlock = record { start = 0; end = 0 } in
    let b = get_or bs i none in
    let inv = c.loop-place.invariant in
    let lt : i < length bs = omega (arith, c.if-next-known.true) in
    let further : c.loop-place.place ≤ c.min-place.result = omega (arith, c.min-place.ensures, c.if-block-place.false, c.loop-place-test.true) in
    let ahead : c.loop-place.place < (get_or bs i none).end = omega (arith, c.if-block-place.false) in
    let base = inv.settled (omega (arith, c.loop-place-test.true)) (λ less. ahead) in
    let more = unknown-up bs c.args.places.0 (c.loop-place.place - c.args.places.0) (c.min-place.result - c.args.places.0)
    (let f = inv.from in omega (arith, f, further)) in
    record {
      from = (let f = inv.from in omega (arith, f, further));
      within = omega (arith, c.min-place.ensures);
      onward = inv.onward;
      inside = inv.inside;
      not_back = omega (arith, c.tick.ensures, inv.not_back);
      passed = λ k b less. (let p = inv.passed k b less in omega (arith, p, further));
      unknown = omega (arith, c.tick.ensures, base, more);
      settled = λ below before. (
          let h = before lt in
          absurd (omega (arith, h, below, c.min-place.ensures, ahead))
          );
      cost = (let cost = inv.cost in omega (arith, c.tick.ensures, cost, c.min-place.ensures, c.if-block-place.false, c.loop-place-test.true));
      answered = λ p picks start. inv.answered p picks start ∙ ap (map (released_of no_message))
          (sym (jumped p bs cs c.requires.known c.args.places.0 c.args.places.1 picks i b lt (get_or_default bs i none b lt) c.loop-place.place
          c.min-place.result (omega (arith, c.if-block-place-2.true)) inv.from further (omega (arith, c.min-place.ensures))
          (omega (arith, c.min-place.ensures))));
    }

-- What is known of a place of which something is told.
seen-at : (c : After-tell_at) → (c.if-next-known.turns ≤ c.loop-place.turns + 1) × (is_in_blocks c.args.known.now (suc c.loop-place.place) ≡ false)
    × (c.loop-place.turns + 2 * c.args.next.now
    ≤ c.args.turns.now + 2 * c.loop-place.next + 2 * unknown_from c.args.known.now c.args.places.0 (c.loop-place.place - c.args.places.0))
seen-at c =
    let bs = c.args.known.now in
    let i = c.loop-place.next in
    let place = c.loop-place.place in
    let none : GapAckBlock = record { start = 0; end = 0 } in
    let inv = c.loop-place.invariant in
    let below : place < c.args.places.1 = omega (arith, c.loop-place-test.true) in
    let other : (i < length bs → place + 1 < (get_or bs i none).start) → is_in_blocks bs (suc place) ≡ false = not-known bs i place none c.requires.ascend
    (λ k lt. inv.passed k none lt) in
    elim c.if-next-known.branch [
      | then-next-known+else-block-place+else-block-place-2 w ↦ (
        omega (arith, w.turns-is, w.tick.ensures),
        other (λ lt. omega (arith, w.if-block-place-2.false)),
        inv.settled below (λ lt. omega (arith, w.if-block-place.false)),
      )
      | else-next-known w ↦ (
        omega (arith, w.turns-is),
        other (λ lt. absurd (omega (arith, lt, w.if-next-known.false))),
        inv.settled below (λ lt. absurd (omega (arith, lt, w.if-next-known.false))),
      )
    ]

pub loop-place-preserved : goal.loop-place-preserved
loop-place-preserved c =
    let bs = c.args.known.now in
    let place = c.loop-place.place in
    let inv = c.loop-place.invariant in
    let below : place < c.args.places.1 = omega (arith, c.loop-place-test.true) in
    let seen = seen-at (goal.at.loop-place-preserved c).After-tell_at in
    let from = inv.from in
    let one = one-unknown bs c.args.places.0 place from seen.1 in
    let turns = seen.0 in
    let base = seen.2 in
    let onward = inv.onward in
    let not_back = inv.not_back in
    let cost = inv.cost in
    record {
      from = omega (arith, from);
      within = omega (arith, below);
      onward = onward;
      inside = inv.inside;
      not_back = grind (arith, common_steps);
      cost = omega (arith, c.tell_at.ensures.cost, turns, cost);
      passed = λ k b lt. (let p = inv.passed k b lt in omega (arith, p));
      unknown = omega (arith, c.tell_at.ensures.cost, turns, base, one);
      settled = λ under before. omega (arith, c.tell_at.ensures.cost, turns, base, one);
      answered = λ p picks start. c.in_ok-tell_at.ensures.answered p (λ k d low high in'. picks k d (omega (arith, low, from)) (omega (arith, high, below)) in')
          (inv.answered p picks start);
    }

pub returns-in_err-tell_at-clause-unknown : goal.returns-in_err-tell_at-clause-unknown
returns-in_err-tell_at-clause-unknown c =
    let bs = c.args.known.now in
    let place = c.loop-place.place in
    let inv = c.loop-place.invariant in
    let below : place < c.args.places.1 = omega (arith, c.loop-place-test.true) in
    let seen = seen-at (goal.at.returns-in_err-tell_at-clause-unknown c).After-tell_at in
    let from = inv.from in
    let one = one-unknown bs c.args.places.0 place from seen.1 in
    let turns = seen.0 in
    let base = seen.2 in
    let more = unknown-up bs c.args.places.0 (place + 1 - c.args.places.0) (c.args.places.1 - c.args.places.0) (omega (arith, below)) in
    omega (arith, c.tell_at.ensures.cost, turns, base, one, more)
