use Rattle.std.proofs.Common.{◌≡◌, ℕ, ◌-◌, ◌*◌, ◌^◌, ◌<◌, ◌≤◌, ◌+◌, get_or}
use Rattle.sctp_data.specs.declared.chunk.chunk_payload_data.ChunkPayloadData.{ChunkPayloadData}
use Rattle.sctp_serial.specs.Runs.{IsRising}
use Rattle.sctp_outbound.proofs.payload_queue.run_end.Given as goal

abbrev pub invariant-loop-step : goal.invariant-loop-step
invariant-loop-step l = record {
  from : l.place + 4 ≤ l.last;
  in_range : l.last < l.end;
  known : l.step ≡ l.last - l.place;
  power : (j : ℕ) × (l.step ≡ 2 ^ j);
  number : (d : ChunkPayloadData) → (get_or l.held.chunks l.last d).tsn ≡ l.tsn;
  rising : IsRising l.held.chunks l.place l.last;
  not_back : l.initial.turns ≤ l.turns;
  cost : 4 * 2 ^ (l.turns - l.initial.turns) ≡ l.last - l.place;
}

abbrev pub decreases-loop-step : goal.decreases-loop-step
decreases-loop-step l = l.end - l.last
