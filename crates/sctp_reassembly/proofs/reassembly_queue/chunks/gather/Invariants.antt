use Rattle.std.proofs.Common.{◌≡◌, ◌+◌, ◌-◌, ◌≤◌, ◌++◌, length, take}
use Rattle.std.specs.List.{concat}
use Rattle.sctp_reassembly.specs.reassembly_queue.Chunks.{left_from, left_after, taken_whole}
use Rattle.sctp_reassembly.proofs.reassembly_queue.chunks.gather.Given as goal

abbrev pub invariant-loop-index : goal.invariant-loop-index
invariant-loop-index l = record {
  bytes : l.buf.items ++ take l.room (concat (left_from l.chunks l.index l.offset)) ≡ take l.max_length (concat (left_from l.chunks l.fn.index l.fn.offset));
  left : left_after l.room (left_from l.chunks l.index l.offset) ≡ left_after l.max_length (left_from l.chunks l.fn.index l.fn.offset);
  not_back : l.initial.turns ≤ l.turns;
  cost_left : l.turns + taken_whole l.room (left_from l.chunks l.index l.offset)
      ≤ l.initial.turns + taken_whole l.max_length (left_from l.chunks l.fn.index l.fn.offset);
}

abbrev pub decreases-loop-index : goal.decreases-loop-index
decreases-loop-index l = length l.chunks - l.index
