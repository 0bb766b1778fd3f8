use Rattle.sctp_sender.proofs.Names.{◌≡◌, [], sym, ◌∙◌, subst, IfOk, Flight, IsContiguous, is_worn, worn_tsns}
use Rattle.sctp_sender.proofs.Resends.{none-of-them, none-on, worn-open}
use Rattle.sctp_sender.proofs.Worn.{none-left-on}
use Rattle.sctp_sender.proofs.sender.flight.InFlight.expire_rexmit.Goals as goal

pub returns-clause-none_left : goal.returns-clause-none_left
returns-clause-none_left c = none-left-on c.abandon_all.result c.pass_unmarked.new.self c.abandon_all.new.self c.deref.result.now (c.deref.ensures.value
    ∙ c.in_ok-tsns.ensures.ok) c.abandon_all.ensures.listed

pub returns-clause-none : goal.returns-clause-none
returns-clause-none c =
    let f : Flight = c.pass_unmarked.new.self in
    subst (λ (g : Flight). IfOk c.abandon_all.result (λ abandoned. abandoned.items ≡ [] → worn_tsns g ≡ [])) c.pass_unmarked.ensures
    (none-on c.abandon_all.result f c.deref.result.now (worn_tsns f) (c.deref.ensures.value ∙ c.in_ok-tsns.ensures.ok) c.abandon_all.ensures.answer
    (none-of-them f (subst IsContiguous (c.self.view_is ∙ sym c.pass_unmarked.ensures) c.self.invariant.contiguous) is_worn worn-open))
