-- Worked examples, by computation.
use Rattle.std.proofs.Common.{◌≡◌, ℕ, Bool, true, false, List, [], ◌∷◌, Some, refl}
use Rattle.sctp_data.specs.ChunkSet.{ChunkSet, fresh}
use Rattle.sctp_data.specs.declared.chunk.chunk_payload_data.PayloadProtocolIdentifier.TheVariants as identifiers
use Rattle.sctp_data.specs.declared.chunk.chunk_payload_data.ChunkPayloadData.{ChunkPayloadData}
use Rattle.sctp_util.specs.Serial.{distance, comes_before, at_or_before, comes_before16, at_or_before16, distance16}
use Rattle.sctp_reassembly.specs.reassembly_queue.Fragments.{new_set}
use Rattle.sctp_reassembly.specs.reassembly_queue.ReassemblyQueue.{Reassembly, held_after_ordered_push, message_read, rest_read}
use Rattle.sctp_reassembly.specs.reassembly_queue.Resets.{held_after_reset}
use Rattle.sctp_reassembly.specs.reassembly_queue.Skips.{held_after_incomplete_skip}
use Rattle.sctp_reassembly.specs.reassembly_queue.Chunks.{taken_whole}

-- of fragments of two bytes, none and one, a piece of two bytes takes the first two to their end, and one of a byte takes none so
takes_two_whole : taken_whole 2 ((7 ∷ 7 ∷ []) ∷ [] ∷ (7 ∷ []) ∷ []) ≡ 2
takes_two_whole = refl

takes_none_whole : taken_whole 1 ((7 ∷ 7 ∷ []) ∷ [] ∷ (7 ∷ []) ∷ []) ≡ 0
takes_none_whole = refl

-- ## Ordered messages of stream 1

abbrev fragment : ℕ → ℕ → Bool → Bool → ChunkPayloadData
fragment tsn ssn begins ends = fresh (record {
  unordered = false;
  beginning_fragment = begins;
  ending_fragment = ends;
  immediate_sack = false;
  tsn = tsn;
  stream_identifier = 1;
  stream_sequence_number = ssn;
  payload_type = identifiers.Binary;
  user_data = 7 ∷ [];
})

abbrev whole : ℕ → ℕ → ChunkPayloadData
whole tsn ssn = fragment tsn ssn true true

abbrev holding : ℕ → List ChunkSet → Reassembly
holding next sets = record { next_ssn = next; ordered = sets; unordered = []; unassembled = [] }

-- ## A reset

-- the messages 3 and 4 of the old use were not read, and 0 and 1 of the new use come
abbrev reset_then_two : Reassembly
reset_then_two =
    held_after_ordered_push (whole 13 1) (held_after_ordered_push (whole 12 0)
    (held_after_reset 11 (holding 3 (new_set (whole 10 3) ∷ new_set (whole 11 4) ∷ []))))

old_first : message_read reset_then_two ≡ Some (new_set (whole 10 3))
unfolding distance at_or_before comes_before at_or_before16 comes_before16 distance16
old_first = refl

old_second : message_read (rest_read reset_then_two) ≡ Some (new_set (whole 11 4))
unfolding distance at_or_before comes_before at_or_before16 comes_before16 distance16
old_second = refl

new_first : message_read (rest_read (rest_read reset_then_two)) ≡ Some (new_set (whole 12 0))
unfolding distance at_or_before comes_before at_or_before16 comes_before16 distance16
new_first = refl

new_second : message_read (rest_read (rest_read (rest_read reset_then_two))) ≡ Some (new_set (whole 13 1))
unfolding distance at_or_before comes_before at_or_before16 comes_before16 distance16
new_second = refl

-- an incomplete message of the old use is gone, and one with fragments on both sides keeps those of the new use
split_set : held_after_reset 11 (holding 3
    (new_set (fragment 10 3 true false) ∷ record { ssn = 4; ppi = identifiers.Binary; chunks = fragment 11 4 true false ∷ fragment 12 4 false true ∷ [] } ∷ []))
    ≡ holding 0 (record { ssn = 4; ppi = identifiers.Binary; chunks = fragment 12 4 false true ∷ [] } ∷ [])
unfolding distance at_or_before comes_before at_or_before16 comes_before16 distance16
split_set = refl

-- ## A FORWARD-TSN without names

-- the first fragment of message 0 came as TSN 1, and all up to 2 counts as come: message 0 is not waited for
abbrev cut : Reassembly
cut = held_after_incomplete_skip 2 (holding 0 (new_set (fragment 1 0 true false) ∷ []))

none_left : cut ≡ holding 1 []
unfolding distance at_or_before comes_before at_or_before16 comes_before16 distance16
none_left = refl

-- its last fragment is not kept, and message 1 is read
last_too_late : held_after_ordered_push (fragment 3 0 false true) cut ≡ cut
unfolding distance at_or_before comes_before at_or_before16 comes_before16 distance16
last_too_late = refl

next_is_read : message_read (held_after_ordered_push (whole 4 1) cut) ≡ Some (new_set (whole 4 1))
unfolding distance at_or_before comes_before at_or_before16 comes_before16 distance16
next_is_read = refl

-- a complete message between two that are cut is read, and none of both is waited for
between : held_after_incomplete_skip 4 (holding 0 (new_set (fragment 1 0 true false) ∷ new_set (whole 3 1) ∷ new_set (fragment 5 2 false true) ∷ []))
    ≡ holding 3 (new_set (whole 3 1) ∷ [])
unfolding distance at_or_before comes_before at_or_before16 comes_before16 distance16
between = refl
