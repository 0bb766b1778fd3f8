use Rattle.std.proofs.Common.{◌≡◌, ℕ, refl, ap, sym, ◌∙◌, true, false, arith}
use Rattle.std.specs.Prelude.{if◌then◌else◌}
use Rattle.sctp_receiver.specs.TsnFilter.{Filter, has_come, is_opposite, with_tsn, with_duplicate}
use Rattle.sctp_link.specs.declared.link_receiver.tsn_queue.undo.TsnUndo.TheVariants.{Nothing, Repeat}
use Rattle.sctp_link.specs.Tsns.{with_arrival, undo_of, undone}
use Rattle.sctp_link.proofs.tsns.TakenBack.{taken-back, repeat-back, can-undo}
use Rattle.sctp_link.proofs.link_receiver.tsn_queue.TsnQueue.take.Goals as goal

-- by what the two tests answer
again : (t : ℕ) (f : Filter) → has_come t f ≡ true → with_arrival t f ≡ with_duplicate t f
again t f come = ap (λ b. if b then with_duplicate t f else (if is_opposite t f then f else with_tsn t f)) come

passed : (t : ℕ) (f : Filter) → has_come t f ≡ false → is_opposite t f ≡ true → with_arrival t f ≡ f
passed t f come far = cc (come, far)

fresh : (t : ℕ) (f : Filter) → has_come t f ≡ false → is_opposite t f ≡ false → with_arrival t f ≡ with_tsn t f
fresh t f come near = cc (come, near)

pub returns-then-has_come-clause-ok : goal.returns-then-has_come-clause-ok
returns-then-has_come-clause-ok c =
    c.in_ok-record_duplicate.ensures.ok ∙ sym (again c.args.tsn c.args.self.now.filter (sym c.has_come.ensures ∙ c.if-has_come.true))

pub returns-then-has_come-clause-undo : goal.returns-then-has_come-clause-undo
returns-then-has_come-clause-undo c = ap (undone Repeat) c.in_ok-record_duplicate.ensures.ok ∙ repeat-back c.args.tsn c.args.self.now.filter

pub returns-then-has_come-clause-can : goal.returns-then-has_come-clause-can
returns-then-has_come-clause-can c =
    let o = c.is_opposite-opposite.ensures in
    can-undo Repeat c.record_duplicate.new.self c.args.self.now.filter (returns-then-has_come-clause-undo c) o.cumulative_fits o.rise
    (omega (arith, o.places, c.in_ok-record_duplicate.ensures.places))

pub returns-then-opposite-clause-ok : goal.returns-then-opposite-clause-ok
returns-then-opposite-clause-ok c =
    sym (passed c.args.tsn c.args.self.now.filter (sym c.has_come.ensures ∙ c.if-has_come.false)
    (sym c.is_opposite-opposite.ensures.value ∙ c.if-opposite.true))

pub returns-then-opposite-clause-can : goal.returns-then-opposite-clause-can
returns-then-opposite-clause-can c =
    let o = c.is_opposite-opposite.ensures in
    can-undo Nothing c.args.self.now c.args.self.now.filter refl o.cumulative_fits o.rise o.places

pub returns-clause-ok : goal.returns-clause-ok
returns-clause-ok c =
    c.in_ok-accept.ensures.ok
    ∙ sym (fresh c.args.tsn c.args.self.now.filter (sym c.has_come.ensures ∙ c.if-has_come.false)
    (sym c.is_opposite-opposite.ensures.value ∙ c.if-opposite.false))

pub returns-clause-undo : goal.returns-clause-undo
returns-clause-undo c =
    let f = c.args.self.now.filter in
    let o = c.is_opposite-opposite.ensures in
    ap (λ u. undone u c.accept.new.self.filter) c.undo_of-undo.ensures
    ∙ ap (undone (undo_of c.args.tsn f)) c.in_ok-accept.ensures.ok
    ∙ taken-back c.args.tsn f o.cumulative_fits o.tsn_fits o.rise (sym c.has_come.ensures ∙ c.if-has_come.false) (sym o.value ∙ c.if-opposite.false)

pub returns-clause-can : goal.returns-clause-can
returns-clause-can c =
    let o = c.is_opposite-opposite.ensures in
    can-undo c.undo_of-undo.result c.accept.new.self c.args.self.now.filter (returns-clause-undo c) o.cumulative_fits o.rise
    (omega (arith, o.places, c.in_ok-accept.ensures.places))
