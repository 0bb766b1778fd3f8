use Rattle.sctp_delivery.proofs.PlainRuns as runs
use Rattle.sctp_delivery.proofs.laws.returns.whatever_comes_back_messages_are_writes.Goals as goal

pub returns : goal.returns
returns c = record {
  made = runs.made;
  whole = runs.messages;
  written = runs.written;
  tsns = runs.none-read-twice;
  own = runs.of-their-own;
  order = runs.in-order;
  modes = runs.as-written;
}
