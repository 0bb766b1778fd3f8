use Rattle.sctp_sender.proofs.Names.{◌≡◌, ◌≤◌, ◌+◌, ◌*◌, ◌-◌, ◌^◌, ℕ, Bool, List, length, take, slice_index_or, count_by, ChunkPayloadData, PicksLeftOut}
use Rattle.sctp_sender.proofs.Names.{ArePassed, placed, return_at}
use Rattle.std.specs.Prelude.{Option, None}
use Rattle.sctp_sender.proofs.sender.flight.returns.returning.Given as goal

abbrev pub invariant-loop-at : goal.invariant-loop-at
invariant-loop-at l = record {
  from : l.count ≤ l.at.place;
  passed : ArePassed 0 l.at.listed l.kept.reported.items l.at.place;
  reported : ArePassed l.count l.at.block l.blocks l.at.place;
  backs : (bs : List (Option (List ℕ))) → ((k : ℕ) → slice_index_or bs k None
      ≡ return_at l.count l.blocks l.queue.inflight.chunks l.kept.user_data.items k) → l.backs.items ≡ placed 0 (take l.at.place bs);
  inside : l.at.listed ≤ length l.kept.reported.items;
  within : l.at.block ≤ length l.blocks;
  not_back : l.fn.turns ≤ l.turns;
  cost : (q : ChunkPayloadData → Bool) → PicksLeftOut q l.count l.kept.reported.items l.blocks l.queue.inflight.chunks
      → l.turns + count_by q (take l.count l.queue.inflight.chunks)
      ≤ l.fn.turns + l.at.listed + 2 * l.at.block + count_by q (take l.at.place l.queue.inflight.chunks);
}

abbrev pub decreases-loop-at : goal.decreases-loop-at
decreases-loop-at l = 2 ^ 16 - l.at.place
