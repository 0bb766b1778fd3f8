-- How far a SACK has been taken, while what it reports is gone through.
use Rattle.std.specs.Prelude.{◌≡◌, ◌==◌, ℕ, ◌+◌, ◌<◌, ◌≤◌, ◌^◌, Bool, ◌&&◌, ◌||◌, nat_le, nat_lt, if◌then◌else◌, List, length, slice_index_or}
use Rattle.std.specs.List.{list_any}
use Rattle.sctp_data.specs.declared.chunk.chunk_payload_data.ChunkPayloadData.{ChunkPayloadData}
use Rattle.sctp_data.specs.declared.chunk.chunk_selective_ack.GapAckBlock.{GapAckBlock}
use Rattle.sctp_outbound.specs.payload_queue.Blocks.{is_in_block}
use Rattle.sctp_model.specs.LinkRecord.{LinkRecord}
use Rattle.sctp_model.specs.Messages.{slot_at}
use Rattle.sctp_model.specs.Amounts.{on_stream, pending_bytes}
use Rattle.sctp_model.specs.refinement.Amount.{unacked_on, stream_of_slot, bytes_at}
use Rattle.sctp_model.specs.refinement.Refines.{sending_of, sending_by}
use Rattle.sctp_link.specs.declared.record.Slot.{Slot}
use Rattle.sctp_link.specs.Records.{slot_record}

-- what a stream still has to send or to see acknowledged, were these slots acknowledged
abbrev pub amount_with : LinkRecord → (ℕ → Bool) → ℕ → ℕ
amount_with w acked s = on_stream w s (pending_bytes w) + unacked_on w acked s

-- what is known of the record from the beginning
pub record Acks (first : ℕ) (w : LinkRecord) : Type 0 where
  pub first_is : first ≡ w.setup.first
  pub in_range : w.setup.first < 2 ^ 32
  pub few : length w.slots < 2 ^ 31
  pub taken : w.taken ≤ length w.slots
  pub short : (p : ℕ) → p < length w.slots → bytes_at w p < 2 ^ 31
  -- the bytes of a chunk in flight are those of its slot
  pub shares : (p t : ℕ) (b : Bool) (c : ChunkPayloadData) → p < length w.slots → sending_of c
      ≡ sending_by w b p →
      (if c.stream_identifier == t then length c.user_data else 0)
      ≡ (if stream_of_slot w p == t then (if b then 0 else bytes_at w p) else 0)

-- the slots once these are acknowledged
pub record IsMarking (w : LinkRecord) (acked : ℕ → Bool) (marked : List Slot) : Type 0 where
  pub count : length marked ≡ length w.slots
  pub slots : (k : ℕ) (d : Slot) → k < length marked → slot_record (slice_index_or marked k d)
      ≡ record (slot_at w k) { acknowledged = acked k }

-- and one slot more
abbrev pub and_one : (ℕ → Bool) → ℕ → ℕ → Bool
and_one acked p k = acked k || (k == p)

-- and those from one place to another
abbrev pub and_run : (ℕ → Bool) → ℕ → ℕ → ℕ → Bool
and_run acked from to k = acked k || (nat_le from k && nat_lt k to)

-- a gap block, by its distances from the cumulative count, reports the slot
abbrev pub in_block : ℕ → ℕ → GapAckBlock → Bool
in_block cumulative k b =
    nat_le (cumulative + b.start) (k + 1) && nat_le (k + 1) (cumulative + b.end)

-- and those that gap blocks report
abbrev pub and_blocks : (ℕ → Bool) → ℕ → List GapAckBlock → ℕ → Bool
and_blocks acked cumulative blocks k = acked k || list_any (in_block cumulative k) blocks

-- a block that begins beyond the cumulative TSN, and reports from there what another reports from so many TSNs before it
pub record IsNearer (behind : ℕ) (b c : GapAckBlock) : Type 0 where
  pub begin : 0 < c.start
  pub covers : (n : ℕ) → 0 < n → is_in_block n c ≡ is_in_block (n + behind) b
