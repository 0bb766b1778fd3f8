use Rattle.sctp_sender.proofs.Names.{◌≡◌, ◌+◌, ◌<◌, ◌≤◌, ℕ, length, false, get_or, nat_lt, vec_capacity, list_any, is_in_blocks}
use Rattle.sctp_sender.proofs.Offsets.{goes_past}
use Rattle.sctp_sender.proofs.sender.flight.reports.marks_of.Given as goal

abbrev pub invariant-loop-offset : goal.invariant-loop-offset
invariant-loop-offset l = record {
  count : length l.marks.items ≡ l.offset;
  marked : (n : ℕ) → n < l.offset → get_or l.marks.items n false ≡ is_in_blocks l.blocks n;
  furthest : (last : ℕ) → l.offset ≤ last + 1 → nat_lt last l.end ≡ list_any (goes_past l.offset last) l.blocks;
  turns : l.turns ≡ l.initial.turns + l.offset;
  room : length l.ends.items ≤ vec_capacity l.marks;
}
