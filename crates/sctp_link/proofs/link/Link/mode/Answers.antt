use Rattle.sctp_link.proofs.Names.{◌≡◌, refl, ap, sym, subst, None, with_mode, after_mode, refusal_of, IsRight, Sides, record_in, state_from, record_from}
use Rattle.sctp_link.proofs.Names.{IsLinked}
use Rattle.sctp_model.specs.declared.event.Event.TheVariants as E
use Rattle.sctp_model.specs.Reply as R
use Rattle.sctp_link.proofs.sides.Changes.{mode-set, on-aligned, on-sides}
use Rattle.sctp_link.proofs.upkeep.Frames.{moved}
use Rattle.sctp_link.proofs.sender.Modes.{mode-moves, linked-mode}
use Rattle.sctp_link.proofs.link.Link.mode.Goals as goal

pub invariant_of-self : goal.invariant_of-self
invariant_of-self g c =
    let a = c.self.inside in
    let ok : refusal_of (record_in a) (E.Mode c.args.stream c.args.unordered c.args.reliability c.args.value) ≡ None = rw (← c.self.view_is) at c.requires in
    let sum = g.C.Checksum.sum a.checksum in
    let s = c.set_mode.ensures in
    let made = mode-set c.set_mode.result c.args.stream c.args.unordered c.args.reliability c.args.value a.sender c.set_mode.new.self s.ok s.refused s.err in
    let f = with_mode c.args.unordered c.args.reliability c.args.value in (
      on-aligned c.self.invariant.0 c.args.stream f a.sender.flight c.set_mode.new.self made (λ l. refl),
      subst (λ (y : Sides). IsLinked sum (state_from y a)) (sym (on-sides c.self.invariant.0 c.args.stream f a.sender.flight c.set_mode.new.self made))
          (moved _ _ (after_mode (record_in a) c.args.stream c.args.unordered c.args.reliability c.args.value) (ap (λ rs. record (record_in a) { streams = rs })
          (mode-moves c.self.invariant.1 c.args.stream c.args.unordered c.args.reliability c.args.value ok refl))
          (linked-mode c.self.invariant.1 c.args.stream c.args.unordered c.args.reliability c.args.value ok refl)),
    )

pub returns-clause-right : goal.returns-clause-right
returns-clause-right g c =
    let a = c.self.inside in
    let ok : refusal_of (record_in a) (E.Mode c.args.stream c.args.unordered c.args.reliability c.args.value) ≡ None = rw (← c.self.view_is) at c.requires in
    let moves = mode-moves c.self.invariant.1 c.args.stream c.args.unordered c.args.reliability c.args.value ok refl in
    let s = c.set_mode.ensures in
    let made = mode-set c.set_mode.result c.args.stream c.args.unordered c.args.reliability c.args.value a.sender c.set_mode.new.self s.ok s.refused s.err in
    let f = with_mode c.args.unordered c.args.reliability c.args.value in
    rw (← c.self.view_is) (subst (λ (y : Sides). IsRight (record_in a) (E.Mode c.args.stream c.args.unordered c.args.reliability c.args.value) R.«Set»
    (record_from y a)) (sym (on-sides c.self.invariant.0 c.args.stream f a.sender.flight c.set_mode.new.self made))
    (record { right = refl; moves = ap (λ rs. record (record_in a) { streams = rs }) moves }))
