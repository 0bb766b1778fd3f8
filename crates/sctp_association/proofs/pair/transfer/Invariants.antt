use Rattle.std.proofs.Common.{◌≡◌, length}
use Rattle.sctp_association.proofs.Pairs.{DeliversFirst}
use Rattle.sctp_association.proofs.pair.transfer.Given as goal

abbrev pub invariant-loop-bytes : goal.invariant-loop-bytes
invariant-loop-bytes l = record {
  count : length l.read.items ≡ l.bytes-index;
  all : DeliversFirst l.fn.stream l.fn.ppi l.fn.messages l.fn.one l.fn.other l.bytes-index l.read.items l.one l.other;
}
