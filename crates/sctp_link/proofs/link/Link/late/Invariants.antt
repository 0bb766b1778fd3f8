use Rattle.sctp_link.proofs.Names.{◌≡◌, find, is_partially_sent, message_of_tsn, GivesInTurn}
use Rattle.sctp_link.proofs.link.Link.late.Given as goal

abbrev pub invariant-loop-at : goal.invariant-loop-at
invariant-loop-at g l = record {
  turns : GivesInTurn l.fn.self.recorded l.self.recorded
      (find (λ t. is_partially_sent l.fn.self.recorded (message_of_tsn l.fn.self.recorded t)) l.tsns.items) l.tsns.items l.at l.bytes;
  checksum : l.self.checksum ≡ l.fn.self.checksum;
}
