use Rattle.sctp_model.proofs.EveryHistory.{headline}
use Rattle.sctp_model.proofs.EveryHistory.{beside}
use Rattle.sctp_model.proofs.EveryHistory.{reliable}
use Rattle.sctp_model.proofs.EveryHistory.{partial}
use Rattle.sctp_model.proofs.laws.every_history.Goals as goal

pub returns-clause-headline : goal.returns-clause-headline
returns-clause-headline c = headline

pub returns-clause-beside : goal.returns-clause-beside
returns-clause-beside c = beside

pub returns-clause-reliable : goal.returns-clause-reliable
returns-clause-reliable c = reliable

pub returns-clause-all : goal.returns-clause-all
returns-clause-all c = partial
