use Rattle.sctp_sender.proofs.Names.{◌≡◌, ap, sym, ◌∙◌, false, subst, Result, Bool, if◌then◌else◌, IfErr, find, is_some, SenderRefusal, OutOfMemory, has_number}
use Rattle.sctp_sender.specs.declared.sender.refusal.SenderRefusal.TheVariants.{StreamOpen}
use Rattle.sctp_sender.proofs.SenderStreams.{open-is}
use Rattle.sctp_sender.proofs.sender.Sender.open.Goals as goal

pub returns-then-is_some-clause-refused : goal.returns-then-is_some-clause-refused
returns-then-is_some-clause-refused c =
    let is = open-is c.self.inside.streams c.args.stream c.place_of.result c.place_of.ensures ∙ sym c.is_some.ensures ∙ c.if-is_some.true in
    rw (← c.self.view_is) (ap (λ b. if b then StreamOpen else OutOfMemory) (sym is))

pub returns-clause-accepted : goal.returns-clause-accepted
returns-clause-accepted c =
    λ _. rw (← c.self.view_is) (open-is c.self.inside.streams c.args.stream c.place_of.result c.place_of.ensures ∙ sym c.is_some.ensures ∙ c.if-is_some.false)

refused : {T : Type 0} (r : Result T SenderRefusal) (b : Bool) → b ≡ false → IfErr r (λ e. e ≡ OutOfMemory)
    → IfErr r (λ e. e ≡ (if b then StreamOpen else OutOfMemory))
refused r b closed h = subst (λ a. IfErr r (λ e. e ≡ (if a then StreamOpen else OutOfMemory))) (sym closed) h

pub returns-clause-refused : goal.returns-clause-refused
returns-clause-refused c =
    rw (← c.self.view_is) (refused c.open.result (is_some (find (has_number c.args.stream) c.self.inside.streams))
    (open-is c.self.inside.streams c.args.stream c.place_of.result c.place_of.ensures ∙ sym c.is_some.ensures ∙ c.if-is_some.false) c.open.ensures.memory)
