use Rattle.sctp_receiver.proofs.Names.{◌≡◌, ◌+◌, ◌<◌, ◌≤◌, ◌^◌, length, deque_capacity, distance, AreRuns, tsns_of}
use Rattle.sctp_receiver.proofs.RunMoves.{moved_to}
use Rattle.sctp_receiver.proofs.receiver.tsn_filter.runs.pass.Given as goal

abbrev pub invariant-loop-runs : goal.invariant-loop-runs
invariant-loop-runs l = record {
  moved : moved_to l.tsn (tsns_of l.initial.runs.items) ≡ moved_to l.cumulative_tsn (tsns_of l.runs.items);
  runs : AreRuns l.base 0 l.runs.items;
  fits : l.cumulative_tsn < 2 ^ 32;
  near : distance l.base l.cumulative_tsn < 2 ^ 31;
  len : length l.runs.items ≤ length l.initial.runs.items;
  capacity : deque_capacity l.runs ≡ deque_capacity l.initial.runs;
  not_back : l.initial.turns ≤ l.turns;
  cost : l.turns + length (tsns_of l.runs.items) ≤ l.initial.turns + length (tsns_of l.initial.runs.items);
  start : l.turns ≤ l.initial.turns → l.cumulative_tsn ≡ l.tsn;
  one : distance l.base l.tsn ≤ 1 → l.turns ≤ l.initial.turns + 1;
  over : distance l.base l.tsn ≤ 1 → l.initial.turns < l.turns → AreRuns l.base (distance l.base l.cumulative_tsn) l.runs.items;
}

abbrev pub decreases-loop-runs : goal.decreases-loop-runs
decreases-loop-runs l = length l.runs.items
