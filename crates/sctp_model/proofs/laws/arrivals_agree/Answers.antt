use Rattle.sctp_model.proofs.sender.Made.{network_is_made}
use Rattle.sctp_model.proofs.receiver.Arrivals.{arrived_is_new}
use Rattle.sctp_model.proofs.receiver.Arrivals.{cumulative_is_seen}
use Rattle.sctp_model.proofs.receiver.Arrivals.{arrivals_answered}
use Rattle.sctp_model.proofs.receiver.KnownRun.{completeness_agrees}
use Rattle.sctp_model.proofs.receiver.Names.{named_is_named}
use Rattle.sctp_model.proofs.receiver.Spans.{spans_fit_always}
use Rattle.sctp_model.proofs.laws.arrivals_agree.Goals as goal

pub returns-clause-network : goal.returns-clause-network
returns-clause-network c = network_is_made

pub returns-clause-arrived : goal.returns-clause-arrived
returns-clause-arrived c = arrived_is_new

pub returns-clause-cumulative : goal.returns-clause-cumulative
returns-clause-cumulative c = cumulative_is_seen

pub returns-clause-answered : goal.returns-clause-answered
returns-clause-answered c = arrivals_answered

pub returns-clause-complete : goal.returns-clause-complete
returns-clause-complete c = completeness_agrees

pub returns-clause-named : goal.returns-clause-named
returns-clause-named c = named_is_named

pub returns-clause-spans : goal.returns-clause-spans
returns-clause-spans c = spans_fit_always
