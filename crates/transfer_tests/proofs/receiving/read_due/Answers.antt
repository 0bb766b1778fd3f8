use Rattle.sctp_receiver.proofs.Drained as drained
use Rattle.transfer_tests.proofs.receiving.read_due.Goals as goal

pub returns : goal.returns
returns c = record {
  first = drained.first c.args.stream c.args.receiver.now c.read.result c.read.ensures.message;
  rest = drained.rest c.args.stream c.args.receiver.now c.read.new.self c.read.result c.read.ensures.ok;
}
