use Rattle.sctp_link.proofs.Names.{◌≡◌, length, with_start, changed_to}
use Rattle.sctp_link.proofs.link.streams.start_from.Given as goal

abbrev pub invariant-loop-place : goal.invariant-loop-place
invariant-loop-place l = record {
  changed : l.messages ≡ changed_to (with_start l.now) l.first l.place l.initial.messages;
  same_length : length l.messages ≡ length l.initial.messages;
}
