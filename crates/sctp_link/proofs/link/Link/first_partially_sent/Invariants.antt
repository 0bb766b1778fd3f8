use Rattle.sctp_link.proofs.Names.{◌≡◌, drop, find, is_partially_sent, message_of_tsn}
use Rattle.sctp_link.proofs.link.Link.first_partially_sent.Given as goal

abbrev pub invariant-loop-at : goal.invariant-loop-at
invariant-loop-at g l = find (λ t. is_partially_sent l.self.recorded (message_of_tsn l.self.recorded t)) l.tsns
    ≡ find (λ t. is_partially_sent l.self.recorded (message_of_tsn l.self.recorded t)) (drop l.at l.tsns)
