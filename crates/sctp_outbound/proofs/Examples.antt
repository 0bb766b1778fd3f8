-- Worked examples, by computation.
use Rattle.std.proofs.Common.{◌≡◌, ℕ, Bool, true, false, List, [], ◌∷◌, map, lit≤, refl, arith}
use Rattle.sctp_data.specs.ChunkSet.{fresh}
use Rattle.sctp_data.specs.declared.chunk.chunk_payload_data.ChunkPayloadData.{ChunkPayloadData}
use Rattle.sctp_data.specs.declared.chunk.chunk_payload_data.PayloadProtocolIdentifier.TheVariants as identifiers
use Rattle.sctp_util.specs.Kept.{runs_of}
use Rattle.sctp_util.specs.Serial.{comes_before, distance}
use Rattle.sctp_outbound.specs.outbound_queue.Numbering.{Call, push, send_next, abandon, mark_as_acked, pop, after_all, at_first}
use Rattle.sctp_serial.specs.Turns.{IsWithinDigits}

-- among three held chunks two looks are enough, and three are too many; among none there is nothing to look at
two_of_three : IsWithinDigits 3 2
two_of_three = lit≤ tt

three_of_three : IsWithinDigits 3 3 → ⊥
three_of_three h = omega arith

none_of_none : IsWithinDigits 0 0
none_of_none = lit≤ tt

one_of_none : IsWithinDigits 0 1 → ⊥
one_of_none h = omega arith

-- the runs of the distances 2, 3 and 5
three_distances : runs_of (2 ∷ 3 ∷ 5 ∷ []) ≡ (2, 3) ∷ (5, 5) ∷ []
three_distances = refl

-- ## Runs of calls

abbrev fragment : Bool → Bool → Bool → ChunkPayloadData
fragment unordered beginning ending = fresh (record {
  unordered = unordered;
  beginning_fragment = beginning;
  ending_fragment = ending;
  immediate_sack = false;
  tsn = 0;
  stream_identifier = 1;
  stream_sequence_number = 0;
  payload_type = identifiers.Binary;
  user_data = 7 ∷ [];
})

abbrev three_fragments : Call
three_fragments = push (fragment false true false ∷ fragment false false false ∷ fragment false false true ∷ [])

abbrev urgent : Call
urgent = push (fragment true true true ∷ [])

-- the message and the TSN of each chunk, the last one first
abbrev numbers_after : List Call → List (ℕ × ℕ)
numbers_after calls = map (λ (c : ChunkPayloadData). (c.message_id, c.tsn)) (after_all calls (at_first 4294967295)).put

-- an unordered message that comes while another is partially sent waits for its end
waits_for_its_end : numbers_after (three_fragments ∷ send_next 0 ∷ urgent ∷ send_next 0 ∷ send_next 0 ∷ send_next 0 ∷ [])
    ≡ (1, 2) ∷ (0, 1) ∷ (0, 0) ∷ (0, 4294967295) ∷ []
waits_for_its_end = refl

-- the terminal chunk of a message that is abandoned has the TSN behind its fragments, also where one is acknowledged and gone
ends_behind : numbers_after (three_fragments ∷ send_next 0 ∷ send_next 0 ∷ mark_as_acked 4294967295 ∷ pop 4294967295 ∷ urgent ∷ abandon 0 ∷ send_next 0 ∷ [])
    ≡ (1, 2) ∷ (0, 1) ∷ (0, 0) ∷ (0, 4294967295) ∷ []
unfolding comes_before distance
ends_behind = refl
