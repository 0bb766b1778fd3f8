use Rattle.sctp_association.proofs.Telling.{streams_in, to_over}
use Rattle.std.proofs.Common.{ap, refl}
use Rattle.sctp_association.proofs.Known.{keeps_by, knows_abort, owes_same, within_same}
use Rattle.sctp_association.specs.declared.association.Association.{Association}
use Rattle.std.proofs.Common.{sym, ◌∙◌}
use Rattle.sctp_association.specs.Events.{whole_from}
use Rattle.sctp_association.proofs.association.Association.take_abort.Goals as goal

pub returns-then-is_none-clause-peer : goal.returns-then-is_none-clause-peer
returns-then-is_none-clause-peer c =
    keeps_by _ _ _ (knows_abort _ _ _ c.abort-answer.ensures.takes) refl refl refl (λ t e. e)
    (λ e. e, λ e. e)

pub returns-clause-peer : goal.returns-clause-peer
returns-clause-peer c =
    let rest = c.end.ensures.rest in
    keeps_by _ _ _ (knows_abort _ _ _ c.abort-answer.ensures.takes) (ap (λ (x : Association). x.config) rest)
    (ap (λ (x : Association). x.key) rest) (ap (λ (x : Association). x.machine) rest)
    (owes_same c.args.self.now c.end.new.self (ap (λ (x : Association). x.due) rest))
    (within_same c.args.self.now c.end.new.self (ap (λ (x : Association). x.config) rest) (ap (λ (x : Association). x.outbound) rest))

pub returns-clause-tells : goal.returns-clause-tells
returns-clause-tells c = to_over _ _ _ _ _ _ _ (ap (λ (x : Association). streams_in x.inbound) c.end.ensures.rest) c.end.ensures.told c.end.ensures.over

pub returns-clause-events : goal.returns-clause-events
returns-clause-events c =
    let is = c.end.ensures.told in
    is ∙ sym (ap (whole_from c.args.self.now.events) is)
