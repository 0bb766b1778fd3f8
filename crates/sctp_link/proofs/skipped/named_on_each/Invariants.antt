use Rattle.sctp_link.proofs.Names.{◌≡◌, length, drop, HasNames}
use Rattle.sctp_link.proofs.skipped.named_on_each.Given as goal

abbrev pub invariant-loop-number : goal.invariant-loop-number
invariant-loop-number l = record {
  names : HasNames l.messages l.names (drop l.number-index l.names) l.progress l.table.items;
  count : length l.table.items ≡ length l.initial.table.items;
}
