use Rattle.std.proofs.Common.{◌≡◌, ◌-◌, ◌+◌, ◌*◌, ◌^◌, ◌<◌, ◌≤◌, get_or}
use Rattle.std.specs.Prelude.{IfSome}
use Rattle.sctp_data.specs.declared.chunk.chunk_payload_data.ChunkPayloadData.{ChunkPayloadData}
use Rattle.sctp_serial.specs.Runs.{IsRising}
use Rattle.sctp_outbound.proofs.payload_queue.run_end_between.Given as goal

abbrev pub invariant-loop-last : goal.invariant-loop-last
invariant-loop-last l = record {
  from : l.place ≤ l.last;
  ordered : l.last < l.beyond;
  in_range : l.beyond ≤ l.end;
  number : (d : ChunkPayloadData) → (get_or l.held.chunks l.last d).tsn ≡ l.tsn;
  rising : IsRising l.held.chunks l.place l.last;
  breaks : l.beyond < l.end → IsRising l.held.chunks l.last l.beyond → ⊥;
  seen : IfSome l.seen (λ tsn. (d : ChunkPayloadData) → (get_or l.held.chunks l.beyond d).tsn ≡ tsn);
  not_back : l.initial.turns ≤ l.turns;
  cost_left : 2 ^ (l.turns - l.initial.turns) * (l.beyond - l.last - 1) ≤ l.end - l.place - 1;
  cost : 2 ^ (l.turns - l.initial.turns) ≤ 2 * (l.end - l.place - 1) + 1;
}

abbrev pub decreases-loop-last : goal.decreases-loop-last
decreases-loop-last l = l.beyond - l.last
