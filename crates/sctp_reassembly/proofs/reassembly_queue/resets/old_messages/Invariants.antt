use Rattle.std.proofs.Common.{◌≡◌, ◌≤◌, take, length}
use Rattle.std.specs.List.{filter}
use Rattle.sctp_reassembly.specs.reassembly_queue.Resets.{is_old_message}
use Rattle.sctp_reassembly.proofs.reassembly_queue.resets.old_messages.Given as goal

abbrev pub invariant-loop-place : goal.invariant-loop-place
invariant-loop-place l = record {
  counted : l.count ≡ length (filter (is_old_message l.last_tsn) (take l.place l.sets.items));
  small : l.count ≤ l.place;
}
