use Rattle.std.proofs.Common.{◌≡◌, ◌+◌, ◌-◌, ◌<◌, ◌≤◌, length, min}
use Rattle.std.specs.List.{concat}
use Rattle.sctp_reassembly.specs.reassembly_queue.Chunks.{left_from, taken_whole}
use Rattle.sctp_reassembly.proofs.reassembly_queue.chunks.room_of.Given as goal

abbrev pub invariant-loop-index : goal.invariant-loop-index
invariant-loop-index l = record {
  within : l.wanted ≤ l.limit;
  room : min l.limit (length (concat (left_from l.chunks l.fn.index l.fn.offset)))
      ≡ (l.limit - l.wanted) + min l.wanted (length (concat (left_from l.chunks l.index l.offset)));
  not_back : l.initial.turns ≤ l.turns;
  cost : l.turns ≤ l.initial.turns + taken_whole l.limit (left_from l.chunks l.fn.index l.fn.offset) + 1;
  cost_left : 0 < l.wanted → l.turns + taken_whole l.wanted (left_from l.chunks l.index l.offset)
      ≤ l.initial.turns + taken_whole l.limit (left_from l.chunks l.fn.index l.fn.offset);
}

abbrev pub decreases-loop-index : goal.decreases-loop-index
decreases-loop-index l = length l.chunks - l.index
