use Rattle.sctp_delivery.proofs.OneStep.{arrivals-one, releases-one, steps-one}
use Rattle.sctp_delivery.proofs.laws.rounds.each_call_makes_one_step.Goals as goal

pub returns : goal.returns
returns c = record { step = steps-one; arrival = arrivals-one; sack = releases-one }
