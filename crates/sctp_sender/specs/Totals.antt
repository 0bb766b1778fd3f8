-- What left in all.
use Rattle.std.specs.Prelude.{◌≡◌, ℕ, true, List, [], ◌∷◌, length}
use Rattle.std.specs.List.{sum_by}
use Rattle.sctp_data.specs.declared.chunk.chunk_payload_data.ChunkPayloadData.{ChunkPayloadData}
use Rattle.sctp_outbound.specs.outbound_queue.OutboundQueue.{Outbound}
use Rattle.sctp_sender.specs.declared.sender.flight.Released.{Released}

-- the bytes of all
abbrev pub bytes_in : List Released → ℕ
bytes_in rs = sum_by (λ r. r.bytes) rs

-- ## What was acknowledged has left

-- if the chunk is acknowledged, it has no bytes
abbrev pub IsSettled : ChunkPayloadData → Type 0
IsSettled c = c.acked ≡ true → length c.user_data ≡ 0

abbrev pub AreSettled : List ChunkPayloadData → Type 0
AreSettled [] = Unit {0}
AreSettled (c ∷ cs) = IsSettled c × AreSettled cs

-- no acknowledged chunk that waits or is in flight has bytes
pub record IsAllSettled (q : Outbound) : Type 0 where
  pub ordered : AreSettled q.pending.ordered
  pub unordered : AreSettled q.pending.unordered
  pub inflight : AreSettled q.inflight.chunks
