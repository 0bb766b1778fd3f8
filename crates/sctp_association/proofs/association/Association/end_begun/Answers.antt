use Rattle.sctp_association.proofs.Telling.{end_same, end_then, streams_in, to_over}
use Rattle.std.proofs.Common.{ap, ◌∙◌}
use Rattle.sctp_association.proofs.Known.{keeps_by, knows_abort, owes_none, within_same}
use Rattle.sctp_association.specs.Kept.{ticket_due}
use Rattle.sctp_association.specs.declared.association.Association.{Association}
use Rattle.sctp_association.specs.declared.due.Due.{Due}
use Rattle.std.proofs.Common.{Some, sym}
use Rattle.sctp_association.specs.Events.{whole_from}
use Rattle.sctp_association.specs.declared.event.Ending.TheVariants.{Aborted}
use Rattle.sctp_association.proofs.association.Association.end_begun.Goals as goal

pub returns-clause-peer : goal.returns-clause-peer
returns-clause-peer c =
    let owed = c.owe_farewell.ensures.rest in
    let ended = c.end.ensures.rest in
    keeps_by _ _ _ (knows_abort _ _ _ c.abort-answer.ensures.takes) (ap (λ (x : Association). x.config) ended ∙ ap (λ (x : Association). x.config) owed)
    (ap (λ (x : Association). x.key) ended ∙ ap (λ (x : Association). x.key) owed)
    (ap (λ (x : Association). x.machine) ended ∙ ap (λ (x : Association). x.machine) owed)
    (owes_none c.args.self.now c.end.new.self (ap (λ (x : Association). ticket_due x.due.alone) ended
    ∙ ap (λ (d : Due). ticket_due d.alone) c.owe_farewell.ensures.due ∙ c.requires.no_ticket))
    (within_same c.args.self.now c.end.new.self (ap (λ (x : Association). x.config) ended ∙ ap (λ (x : Association). x.config) owed)
    (ap (λ (x : Association). x.outbound) ended ∙ ap (λ (x : Association). x.outbound) owed))

pub returns-clause-tells : goal.returns-clause-tells
returns-clause-tells c =
    let owed = c.owe_farewell.ensures.rest in
    end_then (end_same _ _ owed)
    (to_over _ _ _ _ _ _ _ (ap (λ (x : Association). streams_in x.inbound) c.end.ensures.rest) c.end.ensures.told c.end.ensures.over)

pub returns-clause-events : goal.returns-clause-events
returns-clause-events c =
    let is = c.end.ensures.told ∙ ap (λ (x : Association). record x.events { closed = Some Aborted }) c.owe_farewell.ensures.rest in
    is ∙ sym (ap (whole_from c.args.self.now.events) is)
