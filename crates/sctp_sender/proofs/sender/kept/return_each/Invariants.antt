use Rattle.sctp_sender.proofs.Names.{◌≡◌, ◌+◌, ◌≤◌, length, drop, after_returns}
use Rattle.sctp_sender.proofs.sender.kept.return_each.Given as goal

abbrev pub invariant-loop-one : goal.invariant-loop-one
invariant-loop-one l = record {
  value : after_returns l.answered l.initial.streams ≡ after_returns (drop l.one-index l.answered) l.streams;
  top : l.one-index ≤ length l.answered;
  turns : l.turns ≡ l.initial.turns + l.one-index;
}
