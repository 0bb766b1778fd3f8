-- Stretches of TSNs, one for each stream, outside of which a FORWARD-TSN discards nothing of the stream without naming it.
use Rattle.std.specs.Prelude.{ℕ, ◌+◌, ◌^◌, Bool, false, not, ◌&&◌, ◌||◌, nat_lt, nat_le, List, [], ◌∷◌}
use Rattle.std.specs.List.{list_any}
use Rattle.sctp_util.specs.Serial.{distance}
use Rattle.sctp_data.specs.declared.chunk.chunk_payload_data.ChunkPayloadData.{ChunkPayloadData}
use Rattle.sctp_data.specs.ChunkSet.{ChunkSet}
use Rattle.sctp_reassembly.specs.reassembly_queue.Fragments.{is_complete}
use Rattle.sctp_reassembly.specs.reassembly_queue.ReassemblyQueue.{Reassembly}
use Rattle.sctp_receiver.specs.declared.receiver.spans.TsnSpan.{TsnSpan}

-- the TSN is not one of those from the first on, up to so many after it
abbrev pub is_outside : TsnSpan → ℕ → Bool
is_outside span tsn = nat_lt span.length (distance span.first tsn)

abbrev pub chunk_outside : TsnSpan → ChunkPayloadData → Bool
chunk_outside span c = is_outside span c.tsn

-- each of these TSNs, the one before it and the one after it come after this TSN, by less than half the circle
abbrev pub lies_past : ℕ → TsnSpan → Bool
lies_past tsn span =
    nat_le 2 (distance tsn span.first)
    && nat_lt (distance tsn span.first + span.length) (2 ^ 31)

-- an incomplete message has a fragment outside; or, of a stretch for all of them, any message
abbrev pub set_outside : TsnSpan → ChunkSet → Bool
set_outside span set =
    (span.all || not (is_complete set.chunks)) && list_any (chunk_outside span) set.chunks

abbrev pub sets_outside : TsnSpan → List ChunkSet → Bool
sets_outside span sets = list_any (set_outside span) sets

-- the first unassembled fragment is outside
abbrev pub front_outside : TsnSpan → List ChunkPayloadData → Bool
front_outside span [] = false
front_outside span (c ∷ cs) = not (nat_lt c.tsn (2 ^ 32)) || is_outside span c.tsn

-- what a stream holds is not covered
abbrev pub holds_outside : TsnSpan → Reassembly → Bool
holds_outside span q = front_outside span q.unassembled || sets_outside span q.ordered
