use Rattle.sctp_model.proofs.acknowledgement.Bytes.{balances}
use Rattle.sctp_model.proofs.acknowledgement.BytesAnswered.{sums_agree}
use Rattle.sctp_model.proofs.laws.bytes_balance.Goals as goal

pub returns-clause-balance : goal.returns-clause-balance
returns-clause-balance c = balances

pub returns-clause-sums : goal.returns-clause-sums
returns-clause-sums c = sums_agree
