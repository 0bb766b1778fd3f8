use Rattle.sctp_association.proofs.Telling.{end_same, end_then, streams_in, to_over}
use Rattle.std.proofs.Common.{ap, ◌∙◌}
use Rattle.sctp_association.proofs.Known.{keeps_as, knows_abort_of, owes_none, within_same}
use Rattle.sctp_association.specs.declared.association.Association.{Association}
use Rattle.sctp_association.specs.Kept.{ticket_due}
use Rattle.std.proofs.Common.{Some}
use Rattle.sctp_association.specs.declared.event.Ending.TheVariants.{Aborted}
use Rattle.sctp_association.proofs.association.Association.end_with.Goals as goal

pub returns-clause-peer : goal.returns-clause-peer
returns-clause-peer c none =
    let abort = c.abort-answer.ensures in
    let owed = c.owe_end.ensures.rest in
    let ended = c.end.ensures.rest in
    keeps_as _ _ _ _ (knows_abort_of abort.dropped abort.takes) (ap (λ (x : Association). x.machine) owed)
    (ap (λ (x : Association). x.config) ended ∙ ap (λ (x : Association). x.config) owed)
    (ap (λ (x : Association). x.key) ended ∙ ap (λ (x : Association). x.key) owed) (ap (λ (x : Association). x.machine) ended)
    (owes_none c.args.self.now c.end.new.self (ap (λ (x : Association). ticket_due x.due.alone) ended ∙ c.owe_end.ensures.owes none))
    (within_same c.args.self.now c.end.new.self (ap (λ (x : Association). x.config) ended ∙ ap (λ (x : Association). x.config) owed)
    (ap (λ (x : Association). x.outbound) ended ∙ ap (λ (x : Association). x.outbound) owed))

pub returns-clause-tells : goal.returns-clause-tells
returns-clause-tells c =
    let owed = c.owe_end.ensures.rest in
    let ended = c.end.ensures.rest in
    end_then (end_same _ _ owed) (to_over _ _ _ _ _ _ _ (ap (λ (x : Association). streams_in x.inbound) ended) c.end.ensures.told c.end.ensures.over)

pub returns-clause-events : goal.returns-clause-events
returns-clause-events c =
    c.end.ensures.told ∙ ap (λ (x : Association). record x.events { closed = Some Aborted }) c.owe_end.ensures.rest
