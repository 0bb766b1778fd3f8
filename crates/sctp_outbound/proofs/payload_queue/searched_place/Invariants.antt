use Rattle.std.proofs.Common.{◌-◌, ◌+◌, ◌*◌, ◌^◌, ◌≤◌, length}
use Rattle.sctp_outbound.proofs.lemmas.payload_queue.Search.{Narrowed}
use Rattle.sctp_outbound.proofs.payload_queue.searched_place.Given as goal

abbrev pub invariant-loop-low : goal.invariant-loop-low
invariant-loop-low l = record {
  narrowed : Narrowed l.held.chunks l.tsn l.low l.high;
  not_back : l.initial.turns ≤ l.turns;
  cost_left : 2 ^ (l.turns - l.initial.turns) * (l.high - l.low) ≤ length l.held.chunks;
  cost : 2 ^ (l.turns - l.initial.turns) ≤ 2 * length l.held.chunks + 1;
}

abbrev pub decreases-loop-low : goal.decreases-loop-low
decreases-loop-low l = l.high - l.low
