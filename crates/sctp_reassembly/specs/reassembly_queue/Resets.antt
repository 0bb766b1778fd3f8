-- A reset of an incoming stream (RFC 6525 5.2.2).
use Rattle.std.specs.Prelude.{ℕ, ◌-◌, Bool, true, false, ◌&&◌, not, List, [], ◌∷◌, ◌++◌, map}
use Rattle.std.specs.List.{list_all, sum_by, filter}
use Rattle.sctp_util.specs.Serial.{at_or_before}
use Rattle.sctp_data.specs.declared.chunk.chunk_payload_data.ChunkPayloadData.{ChunkPayloadData}
use Rattle.sctp_data.specs.ChunkSet.{ChunkSet}
use Rattle.sctp_reassembly.specs.reassembly_queue.Fragments.{is_complete}
use Rattle.sctp_reassembly.specs.reassembly_queue.ReassemblyQueue.{Reassembly, ReassemblyState}
use Rattle.sctp_serial.specs.DataChunks.{bytes_of}

-- the chunks of the old use, which ends with the last TSN, and those of the new one
abbrev pub chunks_upto : ℕ → List ChunkPayloadData → List ChunkPayloadData
chunks_upto last chunks = filter (λ c. at_or_before c.tsn last) chunks

abbrev pub chunks_past : ℕ → List ChunkPayloadData → List ChunkPayloadData
chunks_past last chunks = filter (λ c. not (at_or_before c.tsn last)) chunks

-- a complete message whose chunks are all of the old use
abbrev pub is_old_message : ℕ → ChunkSet → Bool
is_old_message last set =
    is_complete set.chunks && list_all (λ c. at_or_before c.tsn last) set.chunks

-- a set without its chunks of the old use
abbrev pub rest_past : ℕ → ChunkSet → ChunkSet
rest_past last set = record set { chunks = chunks_past last set.chunks }

abbrev pub is_some_left : List ChunkPayloadData → Bool
is_some_left [] = false
is_some_left (c ∷ cs) = true

-- what of sets is of the new use
abbrev pub of_new_use : ℕ → List ChunkSet → List ChunkSet
of_new_use last sets = filter (λ s. is_some_left s.chunks) (map (rest_past last) sets)

-- the complete messages of the old use go behind those that are read first, in their order
abbrev pub held_after_reset : ℕ → Reassembly → Reassembly
held_after_reset last q =
    record q {
      next_ssn = 0;
      ordered = of_new_use last q.ordered;
      unordered = q.unordered ++ filter (is_old_message last) q.ordered;
    }

-- the bytes of the chunks of the old use that are in none of them
abbrev pub dropped_bytes : ℕ → List ChunkSet → ℕ
dropped_bytes last sets =
    sum_by (λ s. bytes_of (chunks_upto last s.chunks))
    (filter (λ s. not (is_old_message last s)) sets)

abbrev pub after_reset : ℕ → ReassemblyState → ReassemblyState
after_reset last q =
    record q {
      held = held_after_reset last q.held;
      bytes = q.bytes - dropped_bytes last q.held.ordered;
    }
