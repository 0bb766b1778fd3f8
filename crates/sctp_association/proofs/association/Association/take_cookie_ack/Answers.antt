use Rattle.sctp_association.proofs.Telling.{tells_cookie_ack, tells_same}
use Rattle.std.proofs.Common.{rules, refl}
use Rattle.sctp_association.proofs.AcksOn.{told_as}
use Rattle.sctp_association.proofs.Offered.{offered_same}
use Rattle.sctp_association.proofs.Offers.{ack_offered}
use Rattle.sctp_association.proofs.Brought.{whole_passed}
use Rattle.sctp_association.proofs.association.Association.take_cookie_ack.Goals as goal

pub returns-then-not-may_begin-clause-came : goal.returns-then-not-may_begin-clause-came
returns-then-not-may_begin-clause-came c = offered_same _ _ _ refl

pub returns-clause-came : goal.returns-clause-came
returns-clause-came c =
    let kept = c.take_answer.ensures.kept in
    ack_offered _ _ c.requires.own _ _ _ _ c.requires.typ c.cookie_ack-answer.ensures.takes (c.may_begin.ensures.once (search rules))
    c.take_answer.ensures.begun (record { config = kept.config; key = kept.key; machine = kept.machine; owes = kept.owes; sending = kept.sending })

pub returns-then-not-may_begin-clause-tells : goal.returns-then-not-may_begin-clause-tells
returns-then-not-may_begin-clause-tells c = tells_same _ _ refl

pub returns-clause-tells : goal.returns-clause-tells
returns-clause-tells c =
    let told = c.take_answer.ensures.tells in
    tells_cookie_ack _ _ _ _ _ _ c.take_answer.ensures.kept.machine told.end told c.cookie_ack-answer.ensures.takes

pub returns-clause-acks : goal.returns-clause-acks
returns-clause-acks c next = told_as _ _ _ _ _ c.cookie_ack-answer.ensures.takes.answer (c.take_answer.ensures.acks next)

pub returns-clause-events : goal.returns-clause-events
returns-clause-events c = whole_passed _ _ _ _ c.take_answer.ensures.tells
