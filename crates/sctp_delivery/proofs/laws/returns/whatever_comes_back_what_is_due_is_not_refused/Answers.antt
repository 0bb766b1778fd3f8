use Rattle.sctp_delivery.proofs.PlainRefused as refused
use Rattle.sctp_delivery.proofs.laws.returns.whatever_comes_back_what_is_due_is_not_refused.Goals as goal

pub returns : goal.returns
returns c = record { due = refused.none-due; read = refused.none-read; forward = refused.none-forward }
