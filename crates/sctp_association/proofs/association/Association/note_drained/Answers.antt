use Rattle.sctp_handshake.specs.declared.machine.Machine.{Machine}
use Rattle.std.proofs.Common.{ap, ◌∙◌}
use Rattle.sctp_association.proofs.Fewer.{drained_alone, drained_shut}
use Rattle.sctp_association.proofs.Known.{keeps_by, knows_drained}
use Rattle.sctp_association.proofs.Going.{drained_told}
use Rattle.sctp_association.proofs.Leaving.{drained_beats, drained_owes}
use Rattle.sctp_association.proofs.association.Association.note_drained.Goals as goal
use Rattle.sctp_association.proofs.Requesting.{both_same}

pub returns-clause-peer : goal.returns-clause-peer
returns-clause-peer c =
    let kept = c.follow.ensures.kept in
    keeps_by _ _ _ (knows_drained _ _ _ c.drained-answer.ensures) kept.config kept.key kept.machine kept.owes kept.sending

pub returns-clause-tells : goal.returns-clause-tells
returns-clause-tells c = c.follow.ensures.tells.end

pub returns-clause-over : goal.returns-clause-over
returns-clause-over c = c.follow.ensures.over (drained_told _ _ c.drained-answer.ensures.answer)

pub returns-clause-inbound : goal.returns-clause-inbound
returns-clause-inbound c = c.follow.ensures.inbound (drained_told _ _ c.drained-answer.ensures.answer)

pub returns-clause-asks : goal.returns-clause-asks
returns-clause-asks c =
    let told = drained_told _ _ c.drained-answer.ensures.answer in
    drained_owes c.args.self.now c.follow.new.self _ _ c.drained-answer.ensures (c.follow.ensures.due told) c.follow.ensures.kept.machine
    (c.follow.ensures.stays told).cookie (c.follow.ensures.inbound told)

pub returns-clause-moments : goal.returns-clause-moments
returns-clause-moments c =
    let told = drained_told _ _ c.drained-answer.ensures.answer in
    drained_beats c.args.now c.args.self.now c.follow.new.self _ _ c.follow.ensures.kept.machine (c.follow.ensures.sending told)
    (c.follow.ensures.heartbeat told) (c.follow.ensures.requests told) (c.follow.ensures.peer_requests told) c.drained-answer.ensures

pub returns-clause-sending : goal.returns-clause-sending
returns-clause-sending c = c.follow.ensures.sending (drained_told _ _ c.drained-answer.ensures.answer)

pub returns-clause-heartbeat : goal.returns-clause-heartbeat
returns-clause-heartbeat c = c.follow.ensures.heartbeat (drained_told _ _ c.drained-answer.ensures.answer)

pub returns-clause-events : goal.returns-clause-events
returns-clause-events c = c.follow.ensures.events (drained_told _ _ c.drained-answer.ensures.answer)

-- ## What may still come to be due

pub returns-clause-stays : goal.returns-clause-stays
returns-clause-stays c = c.follow.ensures.stays (drained_told _ _ c.drained-answer.ensures.answer)

pub returns-clause-alone : goal.returns-clause-alone
returns-clause-alone c =
    drained_alone c.args.self.now.machine _ _ c.args.self.now.due c.follow.new.self.due c.drained-answer.ensures
    (c.follow.ensures.due (drained_told _ _ c.drained-answer.ensures.answer))

pub returns-clause-shut : goal.returns-clause-shut
returns-clause-shut c none = ap (λ (m : Machine). m.state) c.follow.ensures.kept.machine
    ∙ drained_shut c.args.self.now.machine _ _ c.drained-answer.ensures none

pub returns-clause-resets : goal.returns-clause-resets
returns-clause-resets c =
    let told = drained_told _ _ c.drained-answer.ensures.answer in
    both_same _ _ _ _ (c.follow.ensures.requests told) (c.follow.ensures.peer_requests told)
