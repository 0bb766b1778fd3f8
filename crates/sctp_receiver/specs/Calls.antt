-- What calls of a receiver do. A relation is of calls that differ in what they count or test; what a call answers is handed in.
use Rattle.std.specs.Prelude.{◌≡◌, ◌⊎◌, ℕ, Bool, true, false, ◌+◌, ◌*◌, ◌-◌, ◌≤◌, max, List, length, Option, Some, None, Vec, Result}
use Rattle.std.specs.Global.{Global}
use Rattle.std.specs.Prelude.{OnOk, OnErr, IfOk, IfErr, IsOk}
use Rattle.sctp_data.specs.declared.chunk.chunk_payload_data.ChunkPayloadData.{ChunkPayloadData}
use Rattle.sctp_data.specs.declared.chunk.chunk_selective_ack.ChunkSelectiveAck.{ChunkSelectiveAck}
use Rattle.sctp_data.specs.ForwardTsn.{ForwardTsn}
use Rattle.sctp_data.specs.SelectiveAck.{sack_of}
use Rattle.sctp_receiver.specs.declared.receiver.arrival.Arrival.{Arrival}
use Rattle.sctp_receiver.specs.declared.receiver.arrival.Forwarded.{Forwarded}
use Rattle.sctp_receiver.specs.declared.receiver.refusal.ReceiverRefusal.{ReceiverRefusal}
use Rattle.sctp_receiver.specs.declared.receiver.refusal.ReceiverRefusal.TheVariants.{OutOfMemory}
use Rattle.sctp_receiver.specs.Costs.{IsWithinBlocks, IsWithinData, forward_turns}
use Rattle.sctp_receiver.specs.Receiver.{Reception, filter_of, stream_of, arrival_refusal, IsRefusedFor, takes_memory, arrival_of, is_answered_complete, Takes}
use Rattle.sctp_receiver.specs.Receiver.{TakesEach, StopsAt}
use Rattle.sctp_receiver.specs.Receiver.{entries_wanted, sack, without_duplicates, sack_within, after_sack_within, window, forward_refusal, forwarded_of}
use Rattle.sctp_receiver.specs.Receiver.{after_forward}
use Rattle.sctp_receiver.specs.SkipCosts.{skips_walk}
use Rattle.sctp_receiver.specs.Skips.{after_forward_tsn, has_incomplete}
use Rattle.sctp_receiver.specs.Ssns.{is_kept_on}
use Rattle.sctp_receiver.specs.TsnFilter.{has_come}

-- ## DATA

-- a chunk is taken; or it is refused, and nothing changes
pub record TakesData (c : ChunkPayloadData) (old new : Reception)
    (result : Result Arrival ReceiverRefusal) : Type 0 where
  pub answer : IfOk result (λ arrival. arrival
      ≡ arrival_of c.tsn (is_answered_complete arrival) old)
  pub ok : IfOk result (λ arrival. Takes c arrival old new)
  pub accepted : IsOk result → arrival_refusal c old ≡ None
  pub kept : IsOk result → has_come c.tsn (filter_of old) ≡ false
      → is_kept_on c (stream_of c.stream_identifier old) ≡ true
  pub came : IsOk result → has_come c.tsn (filter_of new) ≡ true
  pub refused : IfErr result (λ e. IsRefusedFor (arrival_refusal c old) e)
  pub wants : IfErr result (λ e. e ≡ OutOfMemory → takes_memory c old ≡ true)
  pub err : OnErr result (new ≡ old)

-- the same, with its turns counted: the count before the call, and after it
pub record TakesDataCounted (c : ChunkPayloadData) (old new : Reception)
    (result : Result Arrival ReceiverRefusal) (turns turns_after : ℕ) : Type 0 where
  pub takes : TakesData c old new result
  pub open takes use *
  pub not_back : turns ≤ turns_after
  pub cost : IsWithinData c old new (turns_after - turns)

-- the chunks of a packet of a record are taken one after another, whatever their stream sequence numbers, all or none: the first one that is
-- refused refuses them all
pub record TakesDataEach (cs : List ChunkPayloadData) (old new : Reception)
    (result : Result (Vec Arrival Global) ReceiverRefusal) : Type 0 where
  pub ok : IfOk result (λ arrivals. TakesEach cs arrivals.items old new)
  pub refused : IfErr result (λ e. (e ≡ OutOfMemory) ⊎ StopsAt cs old e)
  pub err : OnErr result (new ≡ old)

-- ## FORWARD-TSN

-- a FORWARD-TSN is followed; or it is refused for the reason that is handed in, and nothing changes
pub record Skips (refusal : ForwardTsn → Reception → Option ReceiverRefusal)
    (f : ForwardTsn) (old new : Reception) (result : Result Forwarded ReceiverRefusal)
    : Type 0 where
  pub answer : IfOk result (λ forwarded. forwarded ≡ forwarded_of f old)
  pub ok : OnOk result (new ≡ after_forward_tsn f old)
  pub accepted : IsOk result → refusal f old ≡ None
  pub refused : IfErr result (λ e. refusal f old ≡ Some e)
  pub err : OnErr result (new ≡ old)
  pub agrees : has_incomplete f.new_cumulative_tsn (after_forward f old).streams ≡ false
      → OnOk result (new ≡ after_forward f old)

-- the same, with its turns counted, and apart from them those within streams
pub record SkipsCounted (refusal : ForwardTsn → Reception → Option ReceiverRefusal)
    (f : ForwardTsn) (old new : Reception) (result : Result Forwarded ReceiverRefusal)
    (turns turns_after skips skips_after : ℕ) : Type 0 where
  pub follows : Skips refusal f old new result
  pub open follows use *
  pub not_back : turns ≤ turns_after
  pub cost : turns_after ≤ turns + forward_turns f old new
  pub skips_not_back : skips ≤ skips_after
  pub walk : skips_after ≤ skips + skips_walk f old

-- a FORWARD-TSN is followed by what it names alone; or it is refused, and nothing changes
pub record SkipsByNames (f : ForwardTsn) (old new : Reception)
    (result : Result Forwarded ReceiverRefusal) : Type 0 where
  pub answer : IfOk result (λ forwarded. forwarded ≡ forwarded_of f old)
  pub ok : OnOk result (new ≡ after_forward f old)
  pub accepted : IsOk result → forward_refusal f old ≡ None
  pub refused : IfErr result (λ e. forward_refusal f old ≡ Some e)
  pub err : OnErr result (new ≡ old)

-- ## SACK

-- a SACK is made in a chunk of at most so many bytes, or memory runs out
pub record MakesSack (room : ℕ) (r : Reception)
    (result : Result ChunkSelectiveAck ReceiverRefusal) : Type 0 where
  pub all : 65532 ≤ room → IfOk result (λ s. sack_of s ≡ sack (window r) r)
  pub sack : IfOk result (λ s. sack_of s ≡ sack_within (window r) room r)
  pub fits : IfOk result (λ s. 16
      + 4 * (length s.gap_ack_blocks.items + length s.duplicate_tsn.items) ≤ max 16 room)
  pub fits_chunk : IfOk result
      (λ s. length s.gap_ack_blocks.items + length s.duplicate_tsn.items ≤ 16379)
  pub memory : IfErr result (λ e. e ≡ OutOfMemory)

-- a SACK is made, and its duplicates are forgotten; or memory runs out, and nothing changes
pub record Sacks (room : ℕ) (old new : Reception)
    (result : Result ChunkSelectiveAck ReceiverRefusal) : Type 0 where
  pub made : MakesSack room old result
  pub open made use *
  pub rest : OnOk result (new ≡ after_sack_within room old)
  pub rest_of_all : 65532 ≤ room → entries_wanted old ≤ 16379
      → OnOk result (new ≡ without_duplicates old)
  pub err : OnErr result (new ≡ old)

-- so many turns are taken for the blocks of a SACK; where memory runs out, for those that it would have else
pub record CountsBlocks (room : ℕ) (r : Reception)
    (result : Result ChunkSelectiveAck ReceiverRefusal) (turns turns_after : ℕ) : Type 0 where
  pub not_back : turns ≤ turns_after
  pub cost : IfOk result (λ s. IsWithinBlocks
      (length s.gap_ack_blocks.items) (length r.beyond) (turns_after - turns))
  pub cost_of_blocks : IsWithinBlocks (length (sack_within (window r) room r).gap_ack_blocks)
      (length r.beyond) (turns_after - turns)
  pub cost_of_all : 65532 ≤ room → IsWithinBlocks
      (length (sack (window r) r).gap_ack_blocks) (length r.beyond) (turns_after - turns)
