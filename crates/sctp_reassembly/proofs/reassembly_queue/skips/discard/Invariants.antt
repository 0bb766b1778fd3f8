use Rattle.std.proofs.Common.{◌≡◌, ◌+◌, ◌-◌, ◌*◌, ◌^◌, ◌≤◌, ◌++◌, None, not, length, take, drop, min}
use Rattle.std.specs.List.{All, filter}
use Rattle.sctp_reassembly.specs.reassembly_queue.Counts.{set_chunks}
use Rattle.sctp_reassembly.specs.reassembly_queue.Orders.{IsInOrder}
use Rattle.sctp_reassembly.specs.reassembly_queue.ReassemblyQueue.{set_bytes}
use Rattle.sctp_reassembly.specs.reassembly_queue.Skips.{is_discarded}
use Rattle.sctp_reassembly.proofs.reassembly_queue.skips.discard.Given as goal

abbrev pub invariant-loop-place : goal.invariant-loop-place
invariant-loop-place l = record {
  in_range : l.place ≤ length l.sets.items;
  kept : take l.place l.sets.items ++ filter (λ s. not (is_discarded l.passed l.bound s))
      (drop l.place l.sets.items) ≡ filter (λ s. not (is_discarded l.passed l.bound s)) l.initial.sets.items;
  small : l.gone ≤ 2 ^ 64 - 1;
  counted : min (l.gone + set_bytes (filter (is_discarded l.passed l.bound) (drop l.place l.sets.items)))
      (2 ^ 64 - 1) ≡ min (set_bytes (filter (is_discarded l.passed l.bound) l.initial.sets.items)) (2 ^ 64 - 1);
  not_back : l.initial.turns ≤ l.turns;
  in_order : All IsInOrder l.initial.sets.items → All IsInOrder (drop l.place l.sets.items);
  few : l.bound ≡ None → All IsInOrder l.initial.sets.items → l.turns + 3 * length (drop l.place l.sets.items) ≤ l.initial.turns
      + 3 * length l.initial.sets.items;
  walk : l.turns + 3 * length (drop l.place l.sets.items) + 2 * set_chunks (drop l.place l.sets.items) ≤ l.initial.turns + 3 * length l.initial.sets.items
      + 2 * set_chunks l.initial.sets.items;
}

abbrev pub decreases-loop-place : goal.decreases-loop-place
decreases-loop-place l = length l.sets.items - l.place
