use Rattle.sctp_receiver.proofs.Names.{◌≡◌, ◌-◌, ◌≤◌, length, sym, ◌∙◌, subst, inr, None, true, arith, digits, within_digits, new_refusal, parts, reception_of}
use Rattle.sctp_receiver.proofs.Names.{Filter, has_come, ap, ap₂, Parts, retracted}
use Rattle.sctp_receiver.specs.Undo.{IsSpanAt}
use Rattle.sctp_receiver.proofs.Retracts.{behind-room-back, came-behind-room, can-retract, more-room}
use Rattle.sctp_receiver.proofs.PushCosts.{data-none}
use Rattle.sctp_receiver.proofs.Receptions.{closed, unknown, any-room}
use Rattle.sctp_receiver.proofs.Came.{taken-came}
use Rattle.sctp_receiver.proofs.receiver.intake.take_any_ssn.Goals.{After-has_come_counted}
use Rattle.sctp_receiver.proofs.receiver.intake.take_any_ssn.Goals as goal

pub returns-in_default-place_of-clause-refused : goal.returns-in_default-place_of-clause-refused
returns-in_default-place_of-clause-refused c =
    let near = sym c.is_opposite.ensures.value ∙ c.if-is_opposite.false in
    let fresh = sym c.has_come_counted.ensures.answer ∙ c.if-has_come_counted.false in
    let r = reception_of c.args.rules (parts c.args.streams.now c.args.filter.now) in
    let within : new_refusal c.args.chunk.now.tsn r ≡ None = any-room c.args.rules.limits c.args.chunk.now.tsn c.args.filter.now c.args.streams.now
    ∙ sym c.in_default.ensures in
    inr (unknown c.args.chunk.now r fresh near within (closed r c.args.chunk.now.stream_identifier c.in_default-place_of.ensures))

looks : (c : After-has_come_counted) → c.has_come_counted.new.turns - c.args.turns.now ≤ digits (length c.args.filter.now.beyond)
looks c = within_digits (length c.args.filter.now.beyond) (c.has_come_counted.new.turns - c.args.turns.now) c.has_come_counted.ensures.cost

pub returns-in_err-noted-clause-cost : goal.returns-in_err-noted-clause-cost
returns-in_err-noted-clause-cost c =
    data-none _ _ _ _ (omega (arith, looks (goal.at.returns-in_err-noted-clause-cost c).After-has_come_counted))

pub returns-then-has_come_counted-clause-cost : goal.returns-then-has_come_counted-clause-cost
returns-then-has_come_counted-clause-cost c =
    data-none _ _ _ _ (omega (arith, looks (goal.at.returns-then-has_come_counted-clause-cost c).After-has_come_counted))

pub returns-then-is_opposite-clause-cost : goal.returns-then-is_opposite-clause-cost
returns-then-is_opposite-clause-cost c =
    data-none _ _ _ _ (omega (arith, looks (goal.at.returns-then-is_opposite-clause-cost c).After-has_come_counted))

pub returns-in-Some-clause-cost : goal.returns-in-Some-clause-cost
returns-in-Some-clause-cost c =
    data-none _ _ _ _ (omega (arith, looks (goal.at.returns-in-Some-clause-cost c).After-has_come_counted))

pub returns-in_default-place_of-clause-cost : goal.returns-in_default-place_of-clause-cost
returns-in_default-place_of-clause-cost c =
    data-none _ _ _ _ (omega (arith, looks (goal.at.returns-in_default-place_of-clause-cost c).After-has_come_counted))

pub returns-in_err-complete-clause-cost : goal.returns-in_err-complete-clause-cost
returns-in_err-complete-clause-cost c =
    let looked = looks (goal.at.returns-in_err-complete-clause-cost c).After-has_come_counted in
    record {
      pushing = c.push_behind_room.new.turns - c.tick-2.new.self;
      others = omega (arith, looked);
      pushes = c.push_behind_room.ensures.cost;
    }

pub returns-clause-cost : goal.returns-clause-cost
returns-clause-cost c =
    let looked = looks (goal.at.returns-clause-cost c).After-has_come_counted in
    let same = ap (λ (f : Filter). length f.beyond) c.in_ok-complete.ensures.room.same in
    record {
      pushing = c.push_behind_room.new.turns - c.tick-2.new.self;
      others = omega (arith, looked, ap digits same);
      pushes = c.push_behind_room.ensures.cost;
    }

pub returns-clause-came : goal.returns-clause-came
returns-clause-came c = λ _.
    let t = c.args.chunk.now.tsn in
    let o = c.is_opposite.ensures in
    let fresh = sym c.has_come_counted.ensures.answer ∙ c.if-has_come_counted.false in
    let near = sym o.value ∙ c.if-is_opposite.false in
    let came = came-behind-room t c.args.filter.now c.push_behind_room.new.filter c.accept.new.self c.in_ok-complete.ensures.room c.accept.ensures.value in
    subst (λ (f : Filter). has_come t f ≡ true) (sym came) (taken-came t c.args.filter.now o.cumulative_fits o.tsn_fits o.rise fresh near)

pub returns-clause-undo : goal.returns-clause-undo
returns-clause-undo c =
    let u = c.undo_of-tsn.ensures in
    let fresh = sym c.has_come_counted.ensures.answer ∙ c.if-has_come_counted.false in
    let near = sym c.is_opposite.ensures.value ∙ c.if-is_opposite.false in
    let back = behind-room-back c.args.chunk.now.tsn c.args.filter.now c.push_behind_room.new.filter c.accept.new.self c.in_ok-complete.ensures.room
    c.accept.ensures.value u.in_range u.tsn_fits u.rise fresh near in
    ap₂ parts c.in_ok-complete.ensures.undo (ap (λ v. retracted v c.accept.new.self) u.value ∙ back)

pub returns-clause-can : goal.returns-clause-can
returns-clause-can c =
    let u = c.undo_of-tsn.ensures in
    let room = more-room c.args.chunk.now.tsn c.args.filter.now c.push_behind_room.new.filter c.accept.new.self c.in_ok-complete.ensures.room c.accept.ensures.value in
    let back = ap (λ (p : Parts). p.filter) (returns-clause-undo c) in (
      can-retract c.undo_of-tsn.result c.accept.new.self c.args.filter.now back u.in_range u.rise u.runs room,
      (
        c.in_ok-complete.ensures.can,
        subst (IsSpanAt _ _) (sym c.in_ok-complete.ensures.undo) c.span_at-span.ensures,
      ),
    )
