-- What marks make of a chunk.
use Rattle.std.specs.Prelude.{◌≡◌, ℕ, ◌≤◌, Bool, true, false, not, ◌&&◌, ◌==◌, List, [], Option, length, take, drop}
use Rattle.std.specs.List.{list_any}
use Rattle.sctp_data.specs.declared.chunk.chunk_payload_data.ChunkPayloadData.{ChunkPayloadData}
use Rattle.sctp_outbound.specs.declared.payload_queue.held.Mark.{Mark}
use Rattle.sctp_outbound.specs.declared.payload_queue.held.Mark.TheVariants.{Acknowledged, Abandoned, Retransmit, Nsent, Since, MissIndicator}

-- acknowledged: its bytes are gone
abbrev pub as_acknowledged : ChunkPayloadData → ChunkPayloadData
as_acknowledged c = record c { acked = true; retransmit = false; user_data = [] }

-- the acknowledgement is taken back: it is not acknowledged, and has these bytes
abbrev pub as_taken_back : List ℕ → ChunkPayloadData → ChunkPayloadData
as_taken_back bytes c = record c { acked = false; user_data = bytes }

-- of a message that is abandoned: its bytes are gone
abbrev pub as_abandoned : ChunkPayloadData → ChunkPayloadData
as_abandoned c = record c { abandoned = true; retransmit = false; user_data = [] }

abbrev pub with_retransmit : Bool → ChunkPayloadData → ChunkPayloadData
with_retransmit b c = record c { retransmit = b }

abbrev pub with_nsent : ℕ → ChunkPayloadData → ChunkPayloadData
with_nsent n c = record c { nsent = n }

abbrev pub with_since : Option ℕ → ChunkPayloadData → ChunkPayloadData
with_since since c = record c { since = since }

abbrev pub with_miss_indicator : ℕ → ChunkPayloadData → ChunkPayloadData
with_miss_indicator n c = record c { miss_indicator = n }

-- what each mark makes
abbrev pub with_mark : Mark → ChunkPayloadData → ChunkPayloadData
with_mark Acknowledged c = as_acknowledged c
with_mark Abandoned c = as_abandoned c
with_mark (Retransmit b) c = with_retransmit b c
with_mark (Nsent n) c = with_nsent n c
with_mark (Since since) c = with_since since c
with_mark (MissIndicator n) c = with_miss_indicator n c

-- neither acknowledged nor abandoned
abbrev pub is_outstanding : ChunkPayloadData → Bool
is_outstanding c = not c.acked && not c.abandoned

-- whether the chunk is a fragment of the message
abbrev pub is_of : ℕ → ChunkPayloadData → Bool
is_of message c = c.message_id == message

-- the chunks of the message stand from a place on and before another
pub record IsBetween (message start end : ℕ) (chunks : List ChunkPayloadData) : Type 0 where
  pub order : start ≤ end
  pub inside : end ≤ length chunks
  pub before : list_any (is_of message) (take start chunks) ≡ false
  pub behind : list_any (is_of message) (drop end chunks) ≡ false
