use Rattle.sctp_sender.proofs.Names.{◌≡◌, ℕ, ◌+◌, ◌<◌, ◌≤◌, true, false, length, get_or, ◌&&◌, nat_lt, is_in_blocks, ascends_from, vec_capacity}
use Rattle.sctp_sender.proofs.sender.flight.order.one_by_one.Given as goal

abbrev pub invariant-loop-offset : goal.invariant-loop-offset
invariant-loop-offset l = record {
  ascend : ascends_from 0 l.blocks.items ≡ true;
  same : (n : ℕ) → 0 < n → is_in_blocks l.blocks.items n ≡ (nat_lt n l.offset && get_or l.marks n false);
  few : length l.blocks.items + 1 ≤ l.offset;
  top : l.offset ≤ length l.marks + 1;
  turns : l.turns + 1 ≡ l.initial.turns + l.offset;
  room : length l.marks ≤ vec_capacity l.blocks;
}
