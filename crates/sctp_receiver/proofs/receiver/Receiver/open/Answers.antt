use Rattle.sctp_receiver.proofs.Names.{◌≡◌, ap, sym, ◌∙◌, false, subst, Result, Bool, if◌then◌else◌, IfErr, ReceiverRefusal, OutOfMemory, is_open}
use Rattle.sctp_receiver.specs.declared.receiver.refusal.ReceiverRefusal.TheVariants.{StreamOpen}
use Rattle.sctp_receiver.proofs.Receptions.{reception_in, open-is}
use Rattle.sctp_receiver.proofs.receiver.Receiver.open.Goals as goal

pub returns-then-is_some-clause-refused : goal.returns-then-is_some-clause-refused
returns-then-is_some-clause-refused c =
    let is = open-is (reception_in c.self.inside.streams c.self.inside.filter c.self.inside.max_message_size c.self.inside.limits) c.args.stream
    c.place_of.result c.place_of.ensures ∙ sym c.is_some.ensures ∙ c.if-is_some.true in
    rw (← c.self.view_is) (ap (λ b. if b then StreamOpen else OutOfMemory) (sym is))

pub returns-clause-accepted : goal.returns-clause-accepted
returns-clause-accepted c = λ _. rw (← c.self.view_is) (open-is (reception_in c.self.inside.streams c.self.inside.filter c.self.inside.max_message_size
    c.self.inside.limits) c.args.stream c.place_of.result c.place_of.ensures ∙ sym c.is_some.ensures ∙ c.if-is_some.false)

refused : {T : Type 0} (r : Result T ReceiverRefusal) (b : Bool) → b ≡ false → IfErr r (λ e. e ≡ OutOfMemory)
    → IfErr r (λ e. e ≡ (if b then StreamOpen else OutOfMemory))
refused r b closed h = subst (λ a. IfErr r (λ e. e ≡ (if a then StreamOpen else OutOfMemory))) (sym closed) h

pub returns-clause-refused : goal.returns-clause-refused
returns-clause-refused c =
    rw (← c.self.view_is) (refused c.open.result (is_open c.args.stream (reception_in c.self.inside.streams c.self.inside.filter c.self.inside.max_message_size
    c.self.inside.limits)) (open-is (reception_in c.self.inside.streams c.self.inside.filter c.self.inside.max_message_size c.self.inside.limits)
    c.args.stream c.place_of.result c.place_of.ensures ∙ sym c.is_some.ensures ∙ c.if-is_some.false) c.open.ensures.memory)
