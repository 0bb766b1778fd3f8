use Rattle.sctp_association.proofs.Lives.{ack_read, beginning_came, deed_is_known, init_read, life_begins, unforged_came}
use Rattle.sctp_association.proofs.laws.each_receiver_begins_by_what_came.Goals as goal

pub returns : goal.returns
returns c = record {
  begun = life_begins;
  deeds = deed_is_known;
  came = beginning_came;
  unforged = unforged_came;
  read = λ a d w o. (init_read a d w o, ack_read a d w o);
}
