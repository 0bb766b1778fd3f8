use Rattle.std.proofs.Common.{◌-◌, ◌+◌, ◌*◌, ◌^◌, ◌≤◌, length}
use Rattle.sctp_data.specs.declared.chunk.chunk_payload_data.ChunkPayloadData.{ChunkPayloadData}
use Rattle.sctp_util.specs.Serial.{distance}
use Rattle.sctp_reassembly.proofs.lemmas.reassembly_queue.Digits.{IsCut}
use Rattle.sctp_reassembly.proofs.reassembly_queue.fragment_places.by_halves.Given as goal

abbrev pub invariant-loop-low : goal.invariant-loop-low
invariant-loop-low l = record {
  cut : IsCut (λ (c : ChunkPayloadData). distance l.first c.tsn) l.far l.chunks l.low l.high;
  not_back : l.initial.turns ≤ l.turns;
  cost_left : 2 ^ (l.turns - l.initial.turns) * (l.high - l.low) ≤ length l.chunks;
  cost : 2 ^ (l.turns - l.initial.turns) ≤ 2 * length l.chunks + 1;
}

abbrev pub decreases-loop-low : goal.decreases-loop-low
decreases-loop-low l = l.high - l.low
