use Rattle.std.proofs.Common.{◌-◌, ◌+◌, ◌*◌, ◌^◌, ◌≤◌, length}
use Rattle.sctp_reassembly.proofs.lemmas.reassembly_queue.SerialPlaces.{Cut}
use Rattle.sctp_reassembly.proofs.reassembly_queue.unassembled_places.by_halves.Given as goal

abbrev pub invariant-loop-low : goal.invariant-loop-low
invariant-loop-low l = record {
  cut : Cut l.unassembled.chunks l.tsn l.low l.high;
  not_back : l.initial.turns ≤ l.turns;
  cost_left : 2 ^ (l.turns - l.initial.turns) * (l.high - l.low) ≤ length l.unassembled.chunks;
  cost : 2 ^ (l.turns - l.initial.turns) ≤ 2 * length l.unassembled.chunks + 1;
}

abbrev pub decreases-loop-low : goal.decreases-loop-low
decreases-loop-low l = l.high - l.low
