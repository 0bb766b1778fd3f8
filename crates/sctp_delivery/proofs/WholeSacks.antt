-- A SACK that a sender takes, by which something may come back first.
use Rattle.sctp_delivery.proofs.Names.{common_steps, nat_tests, Result, arith, IfOk, Sack, SenderRefusal, Transmission}
use Rattle.sctp_delivery.specs.SenderCalls.{TakesBackAndSack}
use Rattle.sctp_sender.specs.declared.sender.Acked.{Acked}
use Rattle.sctp_sender.specs.Calls.{Acknowledges}
use Rattle.sctp_sender.proofs.TakenSacks.{none-told, nothing-kept, same-refusal}

pub makes : (s : Sack) (old new : Transmission) (r : Result Acked SenderRefusal) → Acknowledges s old new r
    → IfOk r (λ a. TakesBackAndSack s a.taken_back.items a.released.items old new)
makes h0 h1 h2 h3 h4 = grind (arith, nat_tests, common_steps, same-refusal, nothing-kept, none-told)
