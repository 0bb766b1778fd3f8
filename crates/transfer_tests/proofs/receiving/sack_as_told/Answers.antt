use Rattle.sctp_receiver.proofs.SackTold as told
use Rattle.transfer_tests.proofs.receiving.sack_as_told.Goals as goal

pub returns : goal.returns
returns c = record {
  credit = told.credit c.args.receiver.now c.args.room c.sack.result c.sack.ensures.sack;
  duplicates = told.duplicates c.args.receiver.now c.sack.new.self c.args.room c.sack.result c.sack.ensures.sack c.sack.ensures.rest;
}
