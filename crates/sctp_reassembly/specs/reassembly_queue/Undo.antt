-- A push taken back.
use Rattle.std.specs.Prelude.{◌≡◌, ℕ, ◌-◌, ◌^◌, ◌<◌, List, [], ◌∷◌, length, map, min, remove, slice_index_or}
use Rattle.sctp_util.specs.Lists.{change_at}
use Rattle.sctp_data.specs.ChunkSet.{ChunkSet}
use Rattle.sctp_data.specs.declared.chunk.chunk_payload_data.ChunkPayloadData.{ChunkPayloadData}
use Rattle.sctp_reassembly.specs.declared.reassembly_queue.chunks.Noted.{Noted}
use Rattle.sctp_reassembly.specs.declared.reassembly_queue.ordered_sets.OrderedPlace.{OrderedPlace}
use Rattle.sctp_reassembly.specs.declared.reassembly_queue.ordered_sets.OrderedPlace.TheVariants.{InSet, NewSet}
use Rattle.sctp_reassembly.specs.declared.reassembly_queue.ordered_sets.OrderedUndo.{OrderedUndo}
use Rattle.sctp_reassembly.specs.declared.reassembly_queue.ordered_sets.SetsNoted.{SetsNoted}
use Rattle.sctp_reassembly.specs.declared.reassembly_queue.undo.MessageUndo.{MessageUndo}
use Rattle.sctp_reassembly.specs.declared.reassembly_queue.undo.PushUndo.{PushUndo}
use Rattle.sctp_reassembly.specs.declared.reassembly_queue.undo.PushChange.{PushChange}
use Rattle.sctp_reassembly.specs.declared.reassembly_queue.undo.PushChange.TheVariants as changes
use Rattle.sctp_reassembly.specs.reassembly_queue.Counts.{set_chunks}
use Rattle.sctp_reassembly.specs.reassembly_queue.Fragments.{without_chunk}
use Rattle.sctp_reassembly.specs.reassembly_queue.Loose.{Unassembled}
use Rattle.sctp_reassembly.specs.reassembly_queue.Orders.{IsOffOnlyOutOfOrder}
use Rattle.sctp_reassembly.specs.reassembly_queue.PoolUndo.{pool_undone, CanUndoPut}
use Rattle.sctp_reassembly.specs.reassembly_queue.ReassemblyQueue.{ReassemblyState}
use Rattle.sctp_serial.specs.Ascending.{IsOrder, upper_half}
use Rattle.sctp_serial.specs.DataChunks.{bytes_of}

-- ## Ordered fragments

-- what is noted of the fragments of a set holds of them
pub record IsNotedOf (m : Noted) (chunks : List ChunkPayloadData) : Type 0 where
  pub counted : m.n_bytes ≡ min (bytes_of chunks) (2 ^ 64 - 1)
  pub order : IsOrder m.ascending (map (λ c. c.tsn) chunks)
  pub exact : IsOffOnlyOutOfOrder m.ascending (map (λ c. c.tsn) chunks)

-- what is noted of sets holds of them
pub record AreNoted (m : SetsNoted) (sets : List ChunkSet) : Type 0 where
  pub counted : m.n_chunks ≡ min (set_chunks sets) (2 ^ 64 - 1)
  pub order : IsOrder m.ascending (map (λ s. upper_half s.ssn) sets)
  pub exact : IsOffOnlyOutOfOrder m.ascending (map (λ s. upper_half s.ssn) sets)

-- the chunk at a place of the set at a place is taken out, or a whole set
abbrev pub taken_out : OrderedPlace → List ChunkSet → List ChunkSet
taken_out (InSet set place noted) sets = change_at (without_chunk place) set sets
taken_out (NewSet set) sets = remove sets set

abbrev pub ordered_undone : OrderedUndo → List ChunkSet → List ChunkSet
ordered_undone u sets = taken_out u.at sets

-- a chunk has this place in a set, and what was noted before it came holds of the others
pub record IsPlaceIn (place : ℕ) (m : Noted) (s : ChunkSet) : Type 0 where
  pub in_range : place < length s.chunks
  pub noted : IsNotedOf m (without_chunk place s).chunks

-- the places exist
abbrev pub IsPlaceAmong : OrderedPlace → List ChunkSet → Type 0
IsPlaceAmong (InSet set place noted) sets =
    (set < length sets) × ((d : ChunkSet) → IsPlaceIn place noted (slice_index_or sets set d))
IsPlaceAmong (NewSet set) sets = set < length sets

-- and what was noted before will hold again
pub record CanUndoOrdered (u : OrderedUndo) (sets : List ChunkSet) : Type 0 where
  pub place : IsPlaceAmong u.at sets
  pub noted : AreNoted u.noted (ordered_undone u sets)

-- ## Unordered fragments

-- the unassembled fragments of a queue
abbrev pub unassembled_of : ReassemblyState → Unassembled
unassembled_of q = record { chunks = q.held.unassembled; places = q.places }

abbrev pub with_unassembled : ReassemblyState → Unassembled → ReassemblyState
with_unassembled q p =
    record q { held = record q.held { unassembled = p.chunks }; places = p.places }

-- the fragments of the last of sets
abbrev pub last_of : ChunkSet → List ChunkSet → List ChunkPayloadData
last_of s [] = s.chunks
last_of s (t ∷ ts) = last_of t ts

abbrev pub last_chunks : List ChunkSet → List ChunkPayloadData
last_chunks [] = []
last_chunks (s ∷ ss) = last_of s ss

-- without the message that became whole last
abbrev pub without_last : ReassemblyState → ReassemblyState
without_last q =
    record q {
      held =
          record q.held {
            unordered = remove q.held.unordered (length q.held.unordered - 1);
          };
    }

abbrev pub change_undone : PushChange → ReassemblyState → ReassemblyState
change_undone changes.NotKept q = q
change_undone (changes.Ordered u) q =
    record q { held = record q.held { ordered = ordered_undone u q.held.ordered } }
change_undone (changes.Unassembled u) q =
    with_unassembled q (pool_undone u [] (unassembled_of q))
change_undone (changes.Message u) q =
    with_unassembled (without_last q)
    (pool_undone u.put (last_chunks q.held.unordered) (unassembled_of q))

-- what taking a push back makes of a queue: the byte count is what it was
abbrev pub undone : PushUndo → ReassemblyState → ReassemblyState
undone u q = record (change_undone u.change q) { bytes = u.n_bytes }

-- the message that became whole last can be taken apart: as many chunks as before are left in the others
pub record CanUndoMessage (u : MessageUndo) (q : ReassemblyState) : Type 0 where
  pub put : CanUndoPut u.put (last_chunks q.held.unordered) (unassembled_of q)
  pub some : 0 < length q.held.unordered
  pub counted : u.n_chunks ≡ min (set_chunks (without_last q).held.unordered) (2 ^ 64 - 1)

abbrev pub CanUndoChange : PushChange → ReassemblyState → Type 0
CanUndoChange changes.NotKept q = Unit {0}
CanUndoChange (changes.Ordered u) q = CanUndoOrdered u q.held.ordered
CanUndoChange (changes.Unassembled u) q = CanUndoPut u [] (unassembled_of q)
CanUndoChange (changes.Message u) q = CanUndoMessage u q

-- when a push can be taken back: the places that it names exist, and what was noted before will hold again
abbrev pub CanUndo : PushUndo → ReassemblyState → Type 0
CanUndo u q = CanUndoChange u.change q
