use Rattle.sctp_link.proofs.Names.{◌≡◌, drop, named_from, none_named}
use Rattle.sctp_link.proofs.skipped.named_on.Given as goal

abbrev pub invariant-loop-number : goal.invariant-loop-number
invariant-loop-number l = named_from l.messages l.stream l.named (drop l.number-index l.names) ≡ named_from l.messages l.stream none_named l.names
