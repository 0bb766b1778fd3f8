use Rattle.sctp_link.proofs.Names.{◌≡◌, ℕ, ◌<◌, true, false, refl, ap, ◌∙◌, arith, length, ◌==◌, nat_tests, by_last, same-yes, belongs_to, message_of}
use Rattle.sctp_link.proofs.Names.{record_in, past-none, past-some}
use Rattle.sctp_link.proofs.upkeep.Facts.{facts}
use Rattle.sctp_link.proofs.receiver.Hears.{slots-made}
use Rattle.sctp_link.proofs.skips.SkipMade.{slot-of}
use Rattle.sctp_link.proofs.link.Link.goes_past.Goals as goal

pub overflow_step-later : goal.overflow_step-later
overflow_step-later g c =
    let w = record_in c.self.inside in
    let l = c.self.invariant.1 in
    let inside : c.args.place < length w.slots = rw (← c.self.view_is) at c.requires in
    omega (arith, inside, (facts l).few)

pub returns-then-index-number : goal.returns-then-index-number
returns-then-index-number g c =
    let w = record_in c.self.inside in
    let slots = c.self.inside.slots.items in
    let messages = c.self.inside.messages.items in
    let l = c.self.invariant.1 in
    let inside : c.loop-later.later < length slots = omega (arith, c.loop-later-test.true, c.len-count.ensures) in
    let made : c.loop-later.later < length w.slots = omega (arith, inside, slots-made l slots messages refl refl) in
    let of : message_of w c.loop-later.later ≡ c.index.result.now.message =
    slot-of l slots messages refl refl c.loop-later.later c.index.result.now inside c.index.ensures in
    let mine : belongs_to w c.args.number c.loop-later.later ≡ true = ap (λ m. m == c.args.number) (of ∙ c.if-index-number.true) ∙ same-yes c.args.number in
    rw (← c.self.view_is) (past-some w c.args.number c.args.place c.loop-later.later (omega (arith, c.loop-later.auto.later)) made mine)

pub loop-later-preserved : goal.loop-later-preserved
loop-later-preserved g c =
    let w = record_in c.self.inside in
    let slots = c.self.inside.slots.items in
    let messages = c.self.inside.messages.items in
    let l = c.self.invariant.1 in
    let inside : c.loop-later.later < length slots = omega (arith, c.loop-later-test.true, c.len-count.ensures) in
    let made : c.loop-later.later < length w.slots = omega (arith, inside, slots-made l slots messages refl refl) in
    let of : message_of w c.loop-later.later ≡ c.index.result.now.message =
    slot-of l slots messages refl refl c.loop-later.later c.index.result.now inside c.index.ensures in
    let other : (c.index.result.now.message == c.args.number) ≡ false = (let h = c.if-index-number.false in grind (arith, nat_tests)) in
    let so-far : (p : ℕ) → c.args.place < p → p < c.loop-later.later → belongs_to w c.args.number p ≡ false = rw (← c.self.view_is) at c.loop-later.invariant in
    rw (← c.self.view_is) (λ p a b. by_last p c.loop-later.later (omega (arith, b)) (λ lt. so-far p a lt) (λ z. ap (belongs_to w c.args.number) z
    ∙ ap (λ m. m == c.args.number) of ∙ other))

pub returns : goal.returns
returns g c =
    let w = record_in c.self.inside in
    let slots = c.self.inside.slots.items in
    let messages = c.self.inside.messages.items in
    let l = c.self.invariant.1 in
    let so-far : (p : ℕ) → c.args.place < p → p < c.loop-later.later → belongs_to w c.args.number p ≡ false = rw (← c.self.view_is) at c.loop-later.invariant in
    rw (← c.self.view_is) (past-none w c.args.number c.args.place
    (λ p a b. so-far p a (omega (arith, b, c.loop-later-test.false, c.len-count.ensures, slots-made l slots messages refl refl))))
