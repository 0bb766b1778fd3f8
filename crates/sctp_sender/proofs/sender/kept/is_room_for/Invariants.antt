use Rattle.sctp_sender.proofs.Names.{◌≡◌, ◌+◌, ◌^◌, ◌<◌, ◌≤◌, length, take, total_bytes, bytes_back}
use Rattle.sctp_sender.proofs.sender.kept.is_room_for.Given as goal

abbrev pub invariant-loop-one : goal.invariant-loop-one
invariant-loop-one l = record {
  sum : l.all ≡ total_bytes l.queue + bytes_back (take l.one-index l.answered);
  top : l.one-index ≤ length l.answered;
  turns : l.turns ≡ l.initial.turns + l.one-index;
  fits : l.all < 2 ^ 64;
}
