use Rattle.sctp_receiver.proofs.Names.{◌≡◌, ◌+◌, length, drop, named_forwarded, each_made, AreNamed}
use Rattle.sctp_receiver.proofs.receiver.names.note_each.Given as goal

abbrev pub invariant-loop-place : goal.invariant-loop-place
invariant-loop-place l = record {
  so_far : named_forwarded l.names l.streams ≡ named_forwarded (drop l.place l.names) (each_made l.noted.items l.streams);
  same : length l.noted.items ≡ length l.initial.noted.items;
  named : AreNamed l.names l.noted.items l.numbers;
  turns : l.turns ≡ l.initial.turns + l.place;
}
