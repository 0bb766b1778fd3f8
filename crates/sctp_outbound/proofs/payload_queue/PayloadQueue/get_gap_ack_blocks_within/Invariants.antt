use Rattle.std.proofs.Common.{◌≡◌, ℕ, ◌+◌, ◌-◌, ◌*◌, ◌^◌, ◌<◌, ◌≤◌, length, map, take, get_or}
use Rattle.std.specs.List.{All, list_any}
use Rattle.sctp_data.specs.declared.chunk.chunk_payload_data.ChunkPayloadData.{ChunkPayloadData}
use Rattle.sctp_util.specs.Kept.{runs_of}
use Rattle.sctp_util.specs.Serial.{distance}
use Rattle.sctp_serial.specs.Turns.{IsWithinDigits}
use Rattle.sctp_outbound.specs.payload_queue.Blocks.{AscendsFrom, BlocksAscend, is_in_blocks, is_reported, gap_offsets, ends_of, offset_at}
use Rattle.sctp_outbound.proofs.payload_queue.PayloadQueue.get_gap_ack_blocks_within.Given as goal

abbrev pub invariant-loop-tsns : goal.invariant-loop-tsns
invariant-loop-tsns l = record {
  in_range : l.place ≤ length l.self-inside.held.chunks;
  here : l.offset ≡ offset_at l.cumulative_tsn l.self-inside.held.chunks l.place;
  ahead : AscendsFrom l.cumulative_tsn l.self-inside.held.chunks l.place;
  ascend : BlocksAscend l.blocks.items;
  behind : (j : ℕ) (d : ChunkPayloadData) → l.place ≤ j → j < length l.self-inside.held.chunks
      → distance l.cumulative_tsn (get_or l.self-inside.held.chunks j d).tsn < 2 ^ 16
      → All (λ b. b.end + 1 < distance l.cumulative_tsn (get_or l.self-inside.held.chunks j d).tsn) l.blocks.items;
  exact : (n : ℕ) → is_in_blocks l.blocks.items n ≡ list_any (is_reported l.cumulative_tsn n) (take l.place l.self-inside.held.chunks);
  not_back : l.fn.turns ≤ l.turns;
  cost : IsWithinDigits (length l.self-inside.held.chunks) (l.turns - l.fn.turns - 34 * length l.blocks.items - 1);
  limit : length l.blocks.items ≤ l.most;
  runs : map ends_of l.blocks.items ≡ runs_of (gap_offsets l.cumulative_tsn (take l.place l.self-inside.held.chunks));
}

abbrev pub decreases-loop-tsns : goal.decreases-loop-tsns
decreases-loop-tsns l = length l.self-inside.held.chunks - l.place
