use Rattle.sctp_sender.proofs.Names.{◌≡◌, ℕ, suc, ◌+◌, ◌-◌, ◌≤◌, false, length, take, ◌&&◌, not, list_any, is_in_blocks, is_at}
use Rattle.sctp_sender.proofs.Listing.{NoneFrom, Swept}
use Rattle.sctp_sender.proofs.sender.flight.runs.parted.Given as goal

abbrev pub invariant-loop-next : goal.invariant-loop-next
invariant-loop-next l = record {
  swept : Swept (λ k. is_in_blocks l.blocks (suc k) && not (list_any (is_at k) l.backs)) l.left.reported.items l.from;
  twice : l.left.known.items ≡ l.left.reported.items;
  past : NoneFrom l.from l.next l.blocks;
  gone : (k : ℕ) → l.from ≤ suc k → list_any (is_at k) (take l.back l.backs) ≡ false;
  blocks : l.next ≤ length l.blocks;
  backs : l.back ≤ length l.backs;
  not_back : l.fn.turns ≤ l.turns;
  turns : l.turns ≤ l.fn.turns + l.next + l.back;
}

abbrev pub decreases-loop-next : goal.decreases-loop-next
decreases-loop-next l = (length l.blocks - l.next) + (length l.backs - l.back)
