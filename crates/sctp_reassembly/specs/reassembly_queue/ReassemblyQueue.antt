-- A reassembly queue as callers see it, and its calls as functions of lists (RFC 4960 6.5, 6.6; RFC 3758 3.6).
use Rattle.std.specs.Prelude.{◌≡◌, ℕ, ◌+◌, ◌-◌, ◌%◌, ◌^◌, Bool, true, false, ◌&&◌, not, ◌==◌, min, max, nat_lt, if◌then◌else◌, List, [], ◌∷◌, ◌++◌, length}
use Rattle.std.specs.Prelude.{take, drop, Option, Some, None}
use Rattle.std.specs.List.{list_any, sum_by, filter}
use Rattle.sctp_util.specs.Serial.{comes_before16, at_or_before, at_or_before16}
use Rattle.sctp_util.specs.Lists.{insert_before, after_leading}
use Rattle.sctp_data.specs.declared.chunk.chunk_payload_data.ChunkPayloadData.{ChunkPayloadData}
use Rattle.sctp_data.specs.declared.chunk.chunk_payload_data.PayloadProtocolIdentifier.TheVariants.{Unknown}
use Rattle.sctp_data.specs.ChunkSet.{ChunkSet}
use Rattle.sctp_reassembly.specs.declared.reassembly_queue.chunks.Chunks.{Chunks}
use Rattle.sctp_reassembly.specs.reassembly_queue.Counts.{set_chunks}
use Rattle.sctp_reassembly.specs.reassembly_queue.Fragments.{is_complete, is_complete_after, chunks_of_ssn, sets_with}
use Rattle.sctp_serial.specs.DataChunks.{bytes_of, chunk_before, has_tsn}
use Rattle.sctp_reassembly.specs.reassembly_queue.Sizes.{projected_size}
use Rattle.sctp_serial.specs.Runs.{IsEarliestRun, HasNoRun}

-- the next SSN, the sets of ordered messages, the complete unordered messages, and the unassembled fragments of unordered ones
pub record Reassembly : Type 0 where
  pub next_ssn : ℕ
  pub ordered : List ChunkSet
  pub unordered : List ChunkSet
  pub unassembled : List ChunkPayloadData

-- with the stream, the byte count, the length of the longest message taken, and how many unassembled fragments at once take no
-- memory: the most that there were so far
pub record ReassemblyState : Type 0 where
  pub si : ℕ
  pub held : Reassembly
  pub bytes : ℕ
  pub max_message_size : ℕ
  pub places : ℕ

-- ## What is held: bytes, and chunks

abbrev pub set_bytes : List ChunkSet → ℕ
set_bytes sets = sum_by (λ s. bytes_of s.chunks) sets

abbrev pub held_bytes : Reassembly → ℕ
held_bytes q = set_bytes q.ordered + set_bytes q.unordered + bytes_of q.unassembled

abbrev pub held_chunks : Reassembly → ℕ
held_chunks q = set_chunks q.ordered + set_chunks q.unordered + length q.unassembled

-- the byte count is the sum of the lengths that are held
abbrev pub IsCounted : ReassemblyState → Type 0
IsCounted q = q.bytes ≡ held_bytes q.held

-- a count of so many more, up to the greatest usize
abbrev pub count_up : ℕ → ℕ → ℕ
count_up bytes more = min (bytes + more) (2 ^ 64 - 1)

-- ## Push

abbrev pub is_too_large : ChunkPayloadData → ReassemblyState → Bool
is_too_large x q =
    (x.stream_identifier == q.si) && nat_lt q.max_message_size
    (projected_size x q.held.ordered q.held.unassembled)

-- an ordered chunk comes
abbrev pub held_after_ordered_push : ChunkPayloadData → Reassembly → Reassembly
held_after_ordered_push x q =
    if comes_before16 x.stream_sequence_number q.next_ssn then q
    else record q { ordered = sets_with x q.ordered }

-- an ordered chunk is kept where its SSN isn't before the next one and its TSN isn't in its set
abbrev pub is_kept : ChunkPayloadData → Reassembly → Bool
is_kept x q =
    not (comes_before16 x.stream_sequence_number q.next_ssn)
    && not (list_any (has_tsn x.tsn) (chunks_of_ssn x.stream_sequence_number q.ordered))

-- whether its set became complete by it
abbrev pub is_complete_with : ChunkPayloadData → Reassembly → Bool
is_complete_with x q =
    not (comes_before16 x.stream_sequence_number q.next_ssn)
    && is_complete_after x (chunks_of_ssn x.stream_sequence_number q.ordered)

abbrev pub after_ordered_push : ChunkPayloadData → ReassemblyState → ReassemblyState
after_ordered_push x q =
    record q {
      held = held_after_ordered_push x q.held;
      bytes = (if is_kept x q.held then count_up q.bytes (length x.user_data) else q.bytes);
    }

-- a complete unordered message: its SSN is 0, its payload type that of its first fragment
abbrev pub set_of_run : List ChunkPayloadData → ChunkSet
set_of_run [] = record { ssn = 0; ppi = Unknown; chunks = [] }
set_of_run (x ∷ xs) = record { ssn = 0; ppi = x.payload_type; chunks = x ∷ xs }

-- of these unassembled fragments the run that ends earliest becomes a complete message, behind the others
pub record TakesRun (xs : List ChunkPayloadData) (old new : Reassembly) : Type 0 where
  pub first : ℕ
  pub count : ℕ
  pub run : IsEarliestRun xs first count
  pub moved : new ≡ record old {
    unassembled = take first xs ++ drop (first + count) xs;
    unordered = old.unordered ++ set_of_run (take count (drop first xs)) ∷ [];
  }

-- with these unassembled fragments a message became whole, or none did
abbrev pub BecomesComplete : List ChunkPayloadData → Reassembly → Reassembly → Bool → Type 0
BecomesComplete xs old new true = TakesRun xs old new
BecomesComplete xs old new false = HasNoRun xs × (new ≡ record old { unassembled = xs })

-- an unordered chunk comes
abbrev pub PushesUnordered : ChunkPayloadData → ReassemblyState → ReassemblyState → Bool → Type 0
PushesUnordered x old new whole =
    BecomesComplete (insert_before chunk_before x old.held.unassembled) old.held new.held whole
    × (new ≡ record old {
      held = new.held;
      bytes = count_up old.bytes (length x.user_data);
      places = max old.places (length old.held.unassembled + 1);
    })

-- the run that ends earliest is taken out
pub record GivesRun (old new : ReassemblyState) (set : ChunkSet) : Type 0 where
  pub first : ℕ
  pub count : ℕ
  pub run : IsEarliestRun old.held.unassembled first count
  pub rest : new ≡ record old {
    held =
        record old.held {
          unassembled = take first old.held.unassembled
              ++ drop (first + count) old.held.unassembled;
        };
  }
  pub given : set ≡ set_of_run (take count (drop first old.held.unassembled))

-- ## Read

abbrev pub is_readable : ℕ → ChunkSet → Bool
is_readable next set = is_complete set.chunks && at_or_before16 set.ssn next

abbrev pub front_readable : ℕ → List ChunkSet → Option ChunkSet
front_readable next [] = None
front_readable next (set ∷ sets) = if is_readable next set then Some set else None

abbrev pub without_first : List ChunkSet → List ChunkSet
without_first [] = []
without_first (x ∷ xs) = xs

abbrev pub after_read : Option ChunkSet → Reassembly → Reassembly
after_read None q = q
after_read (Some set) q =
    record q {
      ordered = without_first q.ordered;
      next_ssn = (if set.ssn == q.next_ssn then (q.next_ssn + 1) % 2 ^ 16 else q.next_ssn);
    }

-- the first complete unordered message, else the front ordered set where it is due
abbrev pub message_among : List ChunkSet → Reassembly → Option ChunkSet
message_among [] q = front_readable q.next_ssn q.ordered
message_among (u ∷ us) q = Some u

abbrev pub message_read : Reassembly → Option ChunkSet
message_read q = message_among q.unordered q

abbrev pub rest_among : List ChunkSet → Reassembly → Reassembly
rest_among [] q = after_read (front_readable q.next_ssn q.ordered) q
rest_among (u ∷ us) q = record q { unordered = us }

abbrev pub rest_read : Reassembly → Reassembly
rest_read q = rest_among q.unordered q

abbrev pub bytes_read : Option ChunkSet → ℕ
bytes_read None = 0
bytes_read (Some set) = bytes_of set.chunks

abbrev pub state_read : ReassemblyState → ReassemblyState
state_read q =
    record q { held = rest_read q.held; bytes = q.bytes - bytes_read (message_read q.held) }

-- a message that nothing was taken of
abbrev pub at_start : ChunkSet → Chunks
at_start set = record { set = set; index = 0; offset = 0 }

-- ## Skips

abbrev pub is_passed : ℕ → ChunkSet → Bool
is_passed last set = at_or_before16 set.ssn last && not (is_complete set.chunks)

abbrev pub held_after_ordered_skip : ℕ → Reassembly → Reassembly
held_after_ordered_skip last q =
    record q {
      ordered = filter (λ set. not (is_passed last set)) q.ordered;
      next_ssn = (if at_or_before16 q.next_ssn last then (last + 1) % 2 ^ 16 else q.next_ssn);
    }

abbrev pub after_ordered_skip : ℕ → ReassemblyState → ReassemblyState
after_ordered_skip last q =
    record q {
      held = held_after_ordered_skip last q.held;
      bytes = q.bytes
          - set_bytes (filter (is_passed last) q.held.ordered);
    }

abbrev pub held_after_unordered_skip : ℕ → Reassembly → Reassembly
held_after_unordered_skip tsn q =
    record q { unassembled = after_leading (λ x. at_or_before x.tsn tsn) q.unassembled }

-- the unassembled fragments up to the first that is after the TSN
abbrev pub leading_upto : ℕ → List ChunkPayloadData → List ChunkPayloadData
leading_upto tsn [] = []
leading_upto tsn (x ∷ xs) = if at_or_before x.tsn tsn then x ∷ leading_upto tsn xs else []

abbrev pub after_unordered_skip : ℕ → ReassemblyState → ReassemblyState
after_unordered_skip tsn q =
    record q {
      held = held_after_unordered_skip tsn q.held;
      bytes = q.bytes
          - bytes_of (leading_upto tsn q.held.unassembled);
    }

-- the skips of these numbers, one after another
abbrev pub held_after_ordered_skips : List ℕ → Reassembly → Reassembly
held_after_ordered_skips [] q = q
held_after_ordered_skips (ssn ∷ ssns) q =
    held_after_ordered_skips ssns (held_after_ordered_skip ssn q)

-- the complete sets, which no skip removes
abbrev pub complete_sets : Reassembly → List ChunkSet
complete_sets q = filter (λ set. is_complete set.chunks) q.ordered
