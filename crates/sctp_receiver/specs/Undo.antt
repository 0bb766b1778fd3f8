-- What a chunk made of a receiver is taken back.
use Rattle.std.specs.Prelude.{◌≡◌, ℕ, ◌-◌, ◌<◌, ◌≤◌, ◌^◌, ◌==◌, Bool, true, false, not, if◌then◌else◌, List, [], ◌∷◌, ◌++◌, length, take}
use Rattle.std.specs.Prelude.{IsSomeAnd, slice_get}
use Rattle.std.specs.List.{filter}
use Rattle.sctp_util.specs.Lists.{change_at}
use Rattle.sctp_util.specs.Serial.{distance}
use Rattle.sctp_serial.specs.DataChunks.{following_tsn}
use Rattle.sctp_receiver.specs.declared.receiver.tsn_filter.undo.FilterUndo.{FilterUndo}
use Rattle.sctp_receiver.specs.declared.receiver.tsn_filter.undo.FilterUndo.TheVariants.{Beyond, Next}
use Rattle.sctp_receiver.specs.declared.receiver.inbound_streams.InboundStream.{InboundStream}
use Rattle.sctp_receiver.specs.declared.receiver.intake.ChunkUndo.{ChunkUndo}
use Rattle.sctp_receiver.specs.declared.receiver.intake.ChunkUndo.TheVariants.{Repeat, New}
use Rattle.sctp_receiver.specs.declared.receiver.intake.Rules.{Rules}
use Rattle.sctp_receiver.specs.declared.receiver.spans.TsnSpan.{TsnSpan}
use Rattle.sctp_receiver.specs.Inbound.{with_queue}
use Rattle.sctp_receiver.specs.Receiver.{Reception}
use Rattle.sctp_receiver.specs.Spans.{holds_outside}
use Rattle.sctp_receiver.specs.TsnFilter.{Filter, rise_beyond}
use Rattle.sctp_receiver.specs.TsnRuns.{count_of_runs, tsns_from}
use Rattle.sctp_reassembly.specs.declared.reassembly_queue.undo.PushUndo.{PushUndo}
use Rattle.sctp_reassembly.specs.reassembly_queue.Undo.{undone, CanUndo}

-- ## TSNs

-- from the second one after a TSN on, up to a later one: the cumulative TSN moved over them when the first one came
abbrev pub passed : ℕ → ℕ → List ℕ
passed tsn later = tsns_from (following_tsn (following_tsn tsn)) (distance tsn later - 1)

-- how a new TSN is taken back
abbrev pub undo_of : ℕ → Filter → FilterUndo
undo_of tsn f =
    if tsn == following_tsn f.cumulative_tsn then Next f.cumulative_tsn f.room else Beyond tsn f.room

-- what is left when it is: one beyond goes; where the cumulative TSN moved it goes back, and what it moved over is beyond again
abbrev pub retracted : FilterUndo → Filter → Filter
retracted (Beyond tsn room) f =
    record f { beyond = filter (λ t. not (t == tsn)) f.beyond; room = room }
retracted (Next cumulative room) f =
    record f {
      cumulative_tsn = cumulative;
      beyond = passed cumulative f.cumulative_tsn ++ f.beyond;
      room = room;
    }

-- a filter can be so, and there is room for it
pub record CanRetract (u : FilterUndo) (f : Filter) : Type 0 where
  pub in_range : (retracted u f).cumulative_tsn < 2 ^ 32
  pub rise : rise_beyond (retracted u f).cumulative_tsn 1 (retracted u f).beyond ≡ true
  pub places : count_of_runs (retracted u f).cumulative_tsn (retracted u f).beyond
      ≤ (retracted u f).room
  pub room : (retracted u f).room ≤ f.room

-- ## Streams

abbrev pub stream_undone : PushUndo → InboundStream → InboundStream
stream_undone u l = with_queue (undone u l.queue) l

-- the last fragment of the stream at a place is taken back
abbrev pub undone_at : ℕ → PushUndo → List InboundStream → List InboundStream
undone_at place u ls = change_at (stream_undone u) place ls

-- it can be: a stream stands there, and its queue is as the push left it
abbrev pub CanUndoAt : ℕ → PushUndo → List InboundStream → Type 0
CanUndoAt place u ls = IsSomeAnd (slice_get ls place) (λ l. CanUndo u l.queue)

-- a stretch covers what the stream at a place holds
abbrev pub IsSpanAt : ℕ → TsnSpan → List InboundStream → Type 0
IsSpanAt place span ls =
    IsSomeAnd (slice_get ls place) (λ l. holds_outside span l.queue.held ≡ false)

-- ## Chunks

-- what a chunk changes
pub record Parts : Type 0 where
  pub streams : List InboundStream
  pub filter : Filter

abbrev pub parts : List InboundStream → Filter → Parts
parts streams filter = record { streams = streams; filter = filter }

-- the receiver of these parts
abbrev pub reception_of : Rules → Parts → Reception
reception_of rules p =
    record {
      streams = p.streams;
      cumulative_tsn = p.filter.cumulative_tsn;
      beyond = p.filter.beyond;
      duplicates = p.filter.duplicates;
      max_message_size = rules.max_message_size;
      limits = rules.limits;
    }

-- without the duplicate that was noted last
abbrev pub without_duplicate : Filter → Filter
without_duplicate f =
    record f { duplicates = take (length f.duplicates - 1) f.duplicates }

-- a TSN that came again is taken back: of one that was not noted nothing was kept
abbrev pub repeat_undone : Bool → Filter → Filter
repeat_undone true f = without_duplicate f
repeat_undone false f = f

-- a chunk is taken back
abbrev pub chunk_undone : ChunkUndo → Parts → Parts
chunk_undone (Repeat noted) p = record p { filter = repeat_undone noted p.filter }
chunk_undone (New tsn place u span) p =
    parts (undone_at place u p.streams) (retracted tsn p.filter)

abbrev pub CanUndoChunk : ChunkUndo → Parts → Type 0
CanUndoChunk (Repeat noted) p = Unit {0}
CanUndoChunk (New tsn place u span) p =
    CanRetract tsn p.filter
    × (CanUndoAt place u p.streams × IsSpanAt place span (undone_at place u p.streams))

-- several, the last one first
abbrev pub chunks_undone : List ChunkUndo → Parts → Parts
chunks_undone [] p = p
chunks_undone (u ∷ us) p = chunk_undone u (chunks_undone us p)

abbrev pub CanUndoChunks : List ChunkUndo → Parts → Type 0
CanUndoChunks [] p = Unit {0}
CanUndoChunks (u ∷ us) p = CanUndoChunks us p × CanUndoChunk u (chunks_undone us p)
