use Rattle.sctp_receiver.proofs.HeldBound as bound
use Rattle.sctp_receiver.proofs.laws.what_is_held_is_bounded.Goals as goal

pub returns : goal.returns
returns c = record { chunks = bound.few-chunks; bytes = bound.little; beyond = bound.few-tsns; duplicates = bound.few-duplicates }
