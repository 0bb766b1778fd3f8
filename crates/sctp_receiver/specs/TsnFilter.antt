-- The TSNs that came: the cumulative one, and those beyond it (RFC 4960 6.2; RFC 3758 3.6).
use Rattle.std.specs.Prelude.{◌≡◌, ℕ, ◌-◌, ◌<◌, ◌≤◌, ◌^◌, ◌==◌, Bool, true, false, not, ◌&&◌, ◌||◌, nat_lt, List, [], ◌∷◌, ◌++◌, length, map, slice_get, unwrap_or}
use Rattle.std.specs.List.{list_any, filter}
use Rattle.sctp_util.specs.Kept.{runs_of}
use Rattle.sctp_util.specs.Lists.{advance_over, insert_before, Seen}
use Rattle.sctp_util.specs.Serial.{distance, comes_before, at_or_before}
use Rattle.sctp_data.specs.ChunkSet.{fresh}
use Rattle.sctp_data.specs.declared.chunk.chunk_payload_data.PayloadProtocolIdentifier.TheVariants.{Unknown}
use Rattle.sctp_data.specs.declared.chunk.chunk_payload_data.ChunkPayloadData.{ChunkPayloadData}
use Rattle.sctp_data.specs.declared.chunk.chunk_selective_ack.GapAckBlock.{GapAckBlock}
use Rattle.sctp_outbound.specs.payload_queue.Blocks.{is_offset}
use Rattle.sctp_serial.specs.DataChunks.{following_tsn}
use Rattle.sctp_receiver.specs.TsnRuns.{count_of_runs}

-- all came up to the cumulative TSN; these came beyond it, in serial order; these came again since the last SACK;
-- and so many runs of those beyond take no memory
pub record Filter : Type 0 where
  pub cumulative_tsn : ℕ
  pub beyond : List ℕ
  pub duplicates : List ℕ
  pub room : ℕ

-- ## Which TSNs are new

-- it came: it is at or before the cumulative TSN, or among those beyond
abbrev pub has_come : ℕ → Filter → Bool
has_come tsn f = at_or_before tsn f.cumulative_tsn || list_any (λ t. t == tsn) f.beyond

-- half the circle from the cumulative TSN, and so neither before nor after it (RFC 1982 3.2)
abbrev pub is_opposite : ℕ → Filter → Bool
is_opposite tsn f = distance f.cumulative_tsn tsn == 2 ^ 31

-- the highest TSN that came: the last of those beyond, or the cumulative one
abbrev pub highest_tsn : Filter → ℕ
highest_tsn f = unwrap_or (slice_get f.beyond (length f.beyond - 1)) f.cumulative_tsn

-- ## Room for a TSN

-- it takes no memory: it is expected next, or there is room for one run more
abbrev pub HasRoomFor : ℕ → Filter → Type 0
HasRoomFor tsn f =
    (tsn == following_tsn f.cumulative_tsn) ≡ false
    → count_of_runs f.cumulative_tsn f.beyond < f.room

-- room is made for it, and nothing else changes
pub record MakesRoom (tsn : ℕ) (old new : Filter) : Type 0 where
  pub same : new ≡ record old { room = new.room }
  pub more : old.room ≤ new.room
  pub fits : HasRoomFor tsn new

-- ## What a TSN makes of it

abbrev pub with_seen : Seen → Filter → Filter
with_seen s f = record f { cumulative_tsn = s.cum; beyond = s.held }

-- a new TSN comes: the cumulative one moves over all that stand next to it
abbrev pub with_tsn : ℕ → Filter → Filter
with_tsn tsn f =
    with_seen (advance_over f.cumulative_tsn (insert_before comes_before tsn f.beyond)) f

-- a TSN comes again
abbrev pub with_duplicate : ℕ → Filter → Filter
with_duplicate tsn f = record f { duplicates = f.duplicates ++ tsn ∷ [] }

-- all up to a later TSN counts as come
abbrev pub skipped_to : ℕ → Filter → Filter
skipped_to tsn f = with_seen (advance_over tsn (filter (λ t. not (at_or_before t tsn)) f.beyond)) f

-- ## What a SACK says of it

-- the distances after the cumulative TSN, of those that a gap ack block can hold
abbrev pub offsets : Filter → List ℕ
offsets f = filter is_offset (map (distance f.cumulative_tsn) f.beyond)

abbrev pub block_of : ℕ × ℕ → GapAckBlock
block_of run = record { start = run.0; end = run.1 }

abbrev pub gap_ack_blocks : Filter → List GapAckBlock
gap_ack_blocks f = map block_of (runs_of (offsets f))

-- ## What is kept

-- a TSN as a payload queue keeps it: a chunk that says nothing else
abbrev pub placeholder : ℕ → ChunkPayloadData
placeholder tsn = fresh (record {
  unordered = false;
  beginning_fragment = false;
  ending_fragment = false;
  immediate_sack = false;
  tsn = tsn;
  stream_identifier = 0;
  stream_sequence_number = 0;
  payload_type = Unknown;
  user_data = [];
})

-- each lies farther after the base than the one before it, and nearer than half the circle
abbrev pub rise_beyond : ℕ → ℕ → List ℕ → Bool
rise_beyond base far [] = true
rise_beyond base far (t ∷ ts) =
    (nat_lt t (2 ^ 32) && (nat_lt far (distance base t) && nat_lt (distance base t) (2 ^ 31)))
    && rise_beyond base (distance base t) ts
