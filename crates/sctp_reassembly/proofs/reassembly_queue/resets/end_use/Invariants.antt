use Rattle.std.proofs.Common.{◌≡◌, ◌-◌, ◌^◌, ◌++◌, take, drop, min}
use Rattle.std.specs.List.{filter}
use Rattle.sctp_reassembly.specs.reassembly_queue.Resets.{is_old_message, of_new_use, dropped_bytes}
use Rattle.sctp_reassembly.proofs.reassembly_queue.resets.end_use.Given as goal

abbrev pub invariant-loop-place : goal.invariant-loop-place
invariant-loop-place l = record {
  left : l.sets.items ≡ drop l._place l.initial.sets.items ++ of_new_use l.last_tsn (take l._place l.initial.sets.items);
  moved : l.moved.items ≡ l.initial.moved.items ++ filter (is_old_message l.last_tsn) (take l._place l.initial.sets.items);
  moved_room : l.moved.capacity ≡ l.initial.moved.capacity;
  counted : l.gone ≡ min (dropped_bytes l.last_tsn (take l._place l.initial.sets.items)) (2 ^ 64 - 1);
}
