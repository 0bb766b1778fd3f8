-- When lifetimes end (RFC 3758 4.1).
use Rattle.std.specs.Prelude.{ℕ, min, ◌||◌, if◌then◌else◌, List, [], ◌∷◌, Option, Some, None}
use Rattle.sctp_data.specs.PayloadTypes.{is_dcep}
use Rattle.sctp_data.specs.declared.chunk.chunk_payload_data.ChunkPayloadData.{ChunkPayloadData}
use Rattle.sctp_outbound.specs.outbound_queue.OutboundQueue.{Outbound}
use Rattle.sctp_outbound.specs.pending_queue.PendingQueue.{next_pending}

-- the earlier of two moments, where there are any
abbrev pub earlier : Option ℕ → Option ℕ → Option ℕ
earlier None b = b
earlier (Some a) None = Some a
earlier (Some a) (Some b) = Some (min a b)

-- of a chunk in flight: what is acknowledged or abandoned expires no more
abbrev pub in_flight_deadline : Option ChunkPayloadData → Option ℕ
in_flight_deadline None = None
in_flight_deadline (Some c) = if c.abandoned || c.acked then None else c.deadline

-- of what is next to be sent: a DCEP message never expires there
abbrev pub waiting_deadline : Option ChunkPayloadData → Option ℕ
waiting_deadline None = None
waiting_deadline (Some c) = if is_dcep c.payload_type then None else c.deadline

-- the earliest of a moment and those of chunks in flight
abbrev pub least_of : Option ℕ → List ChunkPayloadData → Option ℕ
least_of first [] = first
least_of first (c ∷ cs) = least_of (earlier first (in_flight_deadline (Some c))) cs

abbrev pub next_timeout : Outbound → Option ℕ
next_timeout q = earlier (waiting_deadline (next_pending q.pending)) (least_of None q.inflight.chunks)
