use Rattle.sctp_model.proofs.sender.Lifetimes.{starts_once}
use Rattle.sctp_model.proofs.sender.Deadlines.{deadlines_by_events, expires_past_deadline, tail_abandons_past_deadline, late_lists_past_deadline}
use Rattle.sctp_model.proofs.sender.Lifetimes.{late_abandons_listed}
use Rattle.sctp_model.proofs.laws.lifetimes_end.Goals as goal

pub returns-clause-once : goal.returns-clause-once
returns-clause-once c = starts_once

pub returns-clause-deadlines : goal.returns-clause-deadlines
returns-clause-deadlines c = deadlines_by_events

pub returns-clause-expire : goal.returns-clause-expire
returns-clause-expire c = expires_past_deadline

pub returns-clause-tail : goal.returns-clause-tail
returns-clause-tail c = tail_abandons_past_deadline

pub returns-clause-listed : goal.returns-clause-listed
returns-clause-listed c = late_lists_past_deadline

pub returns-clause-late : goal.returns-clause-late
returns-clause-late c = late_abandons_listed
