use Rattle.sctp_model.proofs.sender.Limits.{within_limit}
use Rattle.sctp_model.proofs.sender.Limits.{filled_to_limit}
use Rattle.sctp_model.proofs.laws.datagrams_keep_the_limit.Goals as goal

pub returns-clause-within : goal.returns-clause-within
returns-clause-within c = within_limit

pub returns-clause-filled : goal.returns-clause-filled
returns-clause-filled c = filled_to_limit
