use Rattle.sctp_sender.proofs.Names.{suc, ◌+◌, ◌-◌, ◌≤◌, length, ◌||◌, is_in_blocks}
use Rattle.sctp_sender.proofs.Listing.{NoneFrom, Swept}
use Rattle.sctp_sender.proofs.sender.flight.runs.joined.Given as goal

abbrev pub invariant-loop-next : goal.invariant-loop-next
invariant-loop-next l = record {
  swept : Swept (λ k. is_in_blocks l.sorted (suc k) || is_in_blocks l.listed (suc (l.count + k))) l.all.items l.from;
  past : NoneFrom l.from l.next l.sorted;
  before : NoneFrom (l.count + l.from) l.old l.listed;
  ours : l.next ≤ length l.sorted;
  theirs : l.old ≤ length l.listed;
  not_back : l.fn.turns ≤ l.turns;
  turns : l.turns ≤ l.fn.turns + l.next + l.old;
}

abbrev pub decreases-loop-next : goal.decreases-loop-next
decreases-loop-next l = (length l.sorted - l.next) + (length l.listed - l.old)
