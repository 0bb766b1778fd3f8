-- How much of the chunks in flight is outstanding, and how much of that is marked to be sent again (RFC 9260 6.3.3, 7.2.4).
use Rattle.std.specs.Prelude.{◌≡◌, ℕ, ◌+◌, ◌<◌, ◌≤◌, ◌^◌, Bool, not, ◌&&◌, if◌then◌else◌, List, length}
use Rattle.std.specs.List.{count_by, sum_by}
use Rattle.sctp_data.specs.declared.chunk.chunk_payload_data.ChunkPayloadData.{ChunkPayloadData}
use Rattle.sctp_serial.specs.DataChunks.{bytes_of}
use Rattle.sctp_outbound.specs.declared.payload_queue.outstanding.Outstanding.{Outstanding}
use Rattle.sctp_outbound.specs.Marks.{is_outstanding}

-- marked, and outstanding
abbrev pub is_to_resend : ChunkPayloadData → Bool
is_to_resend c = c.retransmit && is_outstanding c

-- outstanding, and not marked
abbrev pub is_unmarked : ChunkPayloadData → Bool
is_unmarked c = is_outstanding c && not c.retransmit

-- its part of the flight size, in which a marked chunk has none (RFC 9260 6.2.1 B, 7.2)
abbrev pub flight_bytes : ChunkPayloadData → ℕ
flight_bytes c = if is_unmarked c then length c.user_data else 0

-- the flight size, how many chunks it counts, and how many chunks are marked
abbrev pub outstanding_of : List ChunkPayloadData → Outstanding
outstanding_of chunks = record {
  bytes = sum_by flight_bytes chunks;
  chunks = count_by is_unmarked chunks;
  marked = count_by is_to_resend chunks;
}

-- ## Counting

-- the numbers are those of the chunks, which have fewer than 2^64 bytes
pub record Counts (o : Outstanding) (cs : List ChunkPayloadData) : Type 0 where
  pub fits : bytes_of cs < 2 ^ 64
  pub bytes : o.bytes ≡ sum_by flight_bytes cs
  pub chunks : o.chunks ≡ count_by is_unmarked cs
  pub marked : o.marked ≡ count_by is_to_resend cs

-- the chunk is counted
pub record IsCounted (o : Outstanding) (c : ChunkPayloadData) : Type 0 where
  pub bytes : flight_bytes c ≤ o.bytes
  pub chunks : (if is_unmarked c then 1 else 0) ≤ o.chunks
  pub marked : (if is_to_resend c then 1 else 0) ≤ o.marked

-- another chunk can be counted in place of it, with so many bytes
pub record HasRoom (o : Outstanding) (c : ChunkPayloadData) (n : ℕ) : Type 0 where
  pub counted : IsCounted o c
  pub bytes : o.bytes + n < 2 ^ 64 + flight_bytes c
  pub chunks : o.chunks + 1 < 2 ^ 64
  pub marked : o.marked + 1 < 2 ^ 64

-- it is counted, in place of the first
pub record IsRecounted (old new : Outstanding) (x y : ChunkPayloadData) : Type 0 where
  pub bytes : new.bytes + flight_bytes x ≡ old.bytes + flight_bytes y
  pub chunks : new.chunks + (if is_unmarked x then 1 else 0)
      ≡ old.chunks + (if is_unmarked y then 1 else 0)
  pub marked : new.marked + (if is_to_resend x then 1 else 0)
      ≡ old.marked + (if is_to_resend y then 1 else 0)
