use Rattle.std.proofs.Common.{◌-◌, ◌+◌, ◌*◌, ◌^◌, ◌≤◌, length}
use Rattle.sctp_data.specs.ChunkSet.{ChunkSet}
use Rattle.sctp_util.specs.Serial.{distance}
use Rattle.sctp_serial.specs.Ascending.{upper_half}
use Rattle.sctp_reassembly.proofs.lemmas.reassembly_queue.Digits.{IsCut}
use Rattle.sctp_reassembly.proofs.reassembly_queue.ordered_sets.by_halves.Given as goal

abbrev pub invariant-loop-low : goal.invariant-loop-low
invariant-loop-low l = record {
  cut : IsCut (λ (s : ChunkSet). distance l.first (upper_half s.ssn)) l.far l.sets.items l.low l.high;
  not_back : l.initial.turns ≤ l.turns;
  cost_left : 2 ^ (l.turns - l.initial.turns) * (l.high - l.low) ≤ length l.sets.items;
  cost : 2 ^ (l.turns - l.initial.turns) ≤ 2 * length l.sets.items + 1;
}

abbrev pub decreases-loop-low : goal.decreases-loop-low
decreases-loop-low l = l.high - l.low
