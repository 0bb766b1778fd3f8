use Rattle.sctp_sender.proofs.Names.{◌≡◌, ◌+◌, ◌<◌, ◌≤◌, ℕ, length, take, slice_index_or, All, list_any, ChunkPayloadData, IsOwn, is_at, is_answered}
use Rattle.sctp_sender.proofs.sender.flight.anew.shared_each.Given as goal

abbrev pub invariant-loop-one : goal.invariant-loop-one
invariant-loop-one l = record {
  own : All (IsOwn l.count l.queue.inflight.chunks) l.anew.items;
  few : length l.anew.items ≤ l.one-index;
  top : l.one-index ≤ length l.released;
  turns : l.turns ≡ l.initial.turns + l.one-index;
  each : (k : ℕ) (d : ChunkPayloadData) → l.count + k < length l.queue.inflight.chunks → list_any (is_at k) l.anew.items
      ≡ is_answered (take l.one-index l.released) (slice_index_or l.queue.inflight.chunks (l.count + k) d);
}
