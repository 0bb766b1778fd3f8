-- The TSNs that the receiver of a link has, as the payload queue that a link lends keeps them (RFC 9260 6.2).
use Rattle.std.specs.Prelude.{◌≡◌, ℕ, ◌-◌, ◌<◌, ◌≤◌, ◌^◌, ◌==◌, true, not, if◌then◌else◌, List, [], ◌∷◌, ◌++◌}
use Rattle.std.specs.Prelude.{length, take, None}
use Rattle.std.specs.List.{filter}
use Rattle.sctp_util.specs.Serial.{comes_before}
use Rattle.sctp_data.specs.declared.chunk.chunk_payload_data.ChunkPayloadData.{ChunkPayloadData}
use Rattle.sctp_serial.specs.DataChunks.{following_tsn, tsns}
use Rattle.sctp_outbound.specs.payload_queue.PayloadQueue.{Payload}
use Rattle.sctp_receiver.specs.TsnFilter.{Filter, has_come, is_opposite, rise_beyond, with_tsn, with_duplicate, skipped_to}
use Rattle.sctp_receiver.specs.Receiver.{filter_of}
use Rattle.sctp_receiver.specs.Undo.{passed}
use Rattle.sctp_link.specs.declared.link_receiver.tsn_queue.undo.TsnUndo.{TsnUndo}
use Rattle.sctp_link.specs.declared.link_receiver.tsn_queue.undo.TsnUndo.TheVariants.{Nothing, Repeat, Beyond, Next}

-- the cumulative TSN, those that came beyond it, and those that came again
abbrev pub came : ℕ → List ℕ → List ℕ → Filter
came cumulative beyond duplicates =
    filter_of (record {
      streams = [];
      cumulative_tsn = cumulative;
      beyond = beyond;
      duplicates = duplicates;
      max_message_size = 0;
      limits = None;
    })

-- as a queue keeps them past a cumulative TSN
abbrev pub came_in : ℕ → Payload → Filter
came_in cumulative q = came cumulative (tsns q.chunks) q.duplicates

-- the TSNs that came, and how many may stand beyond the cumulative one without memory
pub record Kept : Type 0 where
  pub filter : Filter
  pub places : ℕ

-- ## TSNs come

-- one that came is noted; one that is opposite to the cumulative TSN is passed over
abbrev pub with_arrival : ℕ → Filter → Filter
with_arrival tsn f =
    if has_come tsn f then with_duplicate tsn f
    else (if is_opposite tsn f then f else with_tsn tsn f)

-- those of several chunks, one after another
abbrev pub with_arrivals : List ChunkPayloadData → Filter → Filter
with_arrivals [] f = f
with_arrivals (c ∷ cs) f = with_arrivals cs (with_arrival c.tsn f)

-- all up to a later TSN counts as come
abbrev pub with_skip : ℕ → Filter → Filter
with_skip tsn f = if comes_before f.cumulative_tsn tsn then skipped_to tsn f else f

-- ## They are taken back

-- how a new TSN is taken back
abbrev pub undo_of : ℕ → Filter → TsnUndo
undo_of tsn f =
    if tsn == following_tsn f.cumulative_tsn then Next f.cumulative_tsn else Beyond tsn

-- what is left when one is: where the cumulative TSN moved it goes back, and what it moved over is beyond again
abbrev pub undone : TsnUndo → Filter → Filter
undone Nothing f = f
undone Repeat f = record f { duplicates = take (length f.duplicates - 1) f.duplicates }
undone (Beyond tsn) f = record f { beyond = filter (λ t. not (t == tsn)) f.beyond }
undone (Next cumulative) f =
    record f {
      cumulative_tsn = cumulative;
      beyond = passed cumulative f.cumulative_tsn ++ f.beyond;
    }

-- there is a place for what is left
pub record CanUndo (u : TsnUndo) (k : Kept) : Type 0 where
  pub in_range : (undone u k.filter).cumulative_tsn < 2 ^ 32
  pub rise : rise_beyond (undone u k.filter).cumulative_tsn 1 (undone u k.filter).beyond ≡ true
  pub places : length (undone u k.filter).beyond ≤ k.places

-- several, the last one first
abbrev pub each_undone : List TsnUndo → Filter → Filter
each_undone [] f = f
each_undone (u ∷ us) f = undone u (each_undone us f)

abbrev pub CanUndoEach : List TsnUndo → Kept → Type 0
CanUndoEach [] k = Unit {0}
CanUndoEach (u ∷ us) k =
    CanUndoEach us k × CanUndo u (record { filter = each_undone us k.filter; places = k.places })
