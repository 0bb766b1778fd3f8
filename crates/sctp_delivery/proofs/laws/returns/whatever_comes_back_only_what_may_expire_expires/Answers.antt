use Rattle.sctp_delivery.proofs.PlainLaws as laws
use Rattle.sctp_delivery.proofs.laws.returns.whatever_comes_back_only_what_may_expire_expires.Goals as goal

pub returns : goal.returns
returns c = record { only = laws.only-due; due = laws.due-expires }
