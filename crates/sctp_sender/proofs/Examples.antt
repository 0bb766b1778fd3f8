-- Worked examples, by computation.
use Rattle.sctp_sender.proofs.Names.{◌≡◌, ℕ, zero, suc, ◌+◌, Bool, true, false, List, [], ◌∷◌, map, Option, Some, None, refl, ap, sym, fresh, ChunkPayloadData}
use Rattle.sctp_sender.proofs.Names.{PayloadProtocolIdentifier, as_acknowledged, as_abandoned, ◌==◌, ◌&&◌, not, list_any, false≢true, GapAckBlock, after_blocks}
use Rattle.sctp_sender.proofs.Names.{goes_from_to, StandSideBySide, Flight, Sack, advanced_ack_point, kept_after, answered_back, with_restored, late_order}
use Rattle.sctp_sender.proofs.Names.{leaving_each, after_misses, all_marked, is_to_resend, resent_at, worn_tsns, Released, TakenBack, with_lows, OutboundStream}
use Rattle.sctp_sender.proofs.Names.{new_stream}
use Rattle.std.proofs.Common.{option_map, find}
use Rattle.sctp_util.specs.Serial.{at_or_before, comes_before, distance}
use Rattle.sctp_data.specs.declared.chunk.chunk_payload_data.PayloadProtocolIdentifier.TheVariants as identifiers
use Rattle.sctp_data.specs.declared.chunk.chunk_payload_data.ReliabilityType.TheVariants.{Rexmit}
use Rattle.sctp_sender.specs.Flight as flight
use Rattle.sctp_sender.specs.Keeping.{coming_back}
use Rattle.sctp_outbound.specs.Outstanding.{outstanding_of}
use Rattle.sctp_sender.specs.Resending.{thirds}

abbrev fragment : ℕ → Bool → Bool → List ℕ → ChunkPayloadData
fragment tsn begins ends bytes = fresh (record {
  unordered = false;
  beginning_fragment = begins;
  ending_fragment = ends;
  immediate_sack = false;
  tsn = tsn;
  stream_identifier = 1;
  stream_sequence_number = 0;
  payload_type = identifiers.Binary;
  user_data = bytes;
})

-- 103 and 104 are abandoned, 105 is outstanding, and 106 was reported: RFC 3758 3.5 C2 goes to 104
abbrev in_flight : List ChunkPayloadData → Flight
in_flight chunks = record (flight.at_first 103)
    { queue = record (flight.at_first 103).queue { inflight = record { chunks = chunks; duplicates = []; room = 0 } }; next_tsn = 107 }

abbrev chunk_abandoned_at : ℕ → ChunkPayloadData
chunk_abandoned_at tsn = as_abandoned (fragment tsn true true (1 ∷ []))

point : advanced_ack_point (in_flight
    (chunk_abandoned_at 103 ∷ chunk_abandoned_at 104 ∷ fragment 105 true true (1 ∷ []) ∷ as_acknowledged (fragment 106 true true (1 ∷ [])) ∷ [])) ≡ 104
point = refl

-- where 105 is abandoned too, the point stops before what was only reported
far_point : advanced_ack_point
    (in_flight (chunk_abandoned_at 103 ∷ chunk_abandoned_at 104 ∷ chunk_abandoned_at 105 ∷ as_acknowledged (fragment 106 true true (1 ∷ [])) ∷ [])) ≡ 105
far_point = refl

-- a chunk past its deadline is abandoned with its message, whose two bytes leave
abbrev past_deadline : Flight
past_deadline =
    in_flight (record (fragment 103 true false (1 ∷ [])) { deadline = Some 5 } ∷ record (fragment 104 false true (2 ∷ [])) { deadline = Some 5 } ∷ [])

order : late_order 5 past_deadline ≡ 103 ∷ 104 ∷ []
order = refl

leaves : leaving_each (late_order 5 past_deadline) past_deadline ≡ record { stream = 1; number = 0; bytes = 2; is_low = false } ∷ []
leaves = refl

early : late_order 4 past_deadline ≡ []
early = refl

-- ## What is sent again

-- a chunk that is missing for the third time is marked, and is not counted again
abbrev missed_twice : Flight
missed_twice = in_flight (record (fragment 103 true true (1 ∷ [])) { miss_indicator = 2 } ∷ fragment 104 true true (1 ∷ []) ∷ [])

third : map (λ (c : ChunkPayloadData). c.tsn) (thirds 2 missed_twice) ≡ 103 ∷ []
third = refl

marked : option_map (λ (c : ChunkPayloadData). c.tsn) (find is_to_resend (after_misses 2 missed_twice).queue.inflight.chunks) ≡ Some 103
marked = refl

fourth : thirds 2 (after_misses 2 missed_twice) ≡ []
fourth = refl

-- one sending after the first is allowed: a marked chunk that was sent twice is worn out, unless it is of a DCEP message
abbrev marked_after : ℕ → PayloadProtocolIdentifier → Flight
marked_after count ppi =
    in_flight (record (fragment 103 true true (1 ∷ [])) { payload_type = ppi; reliability = Some (Rexmit, 1); nsent = count; retransmit = true } ∷ [])

worn : worn_tsns (marked_after 2 identifiers.Binary) ≡ 103 ∷ []
worn = refl

not_yet : worn_tsns (marked_after 1 identifiers.Binary) ≡ []
not_yet = refl

never : worn_tsns (marked_after 9 identifiers.Dcep) ≡ []
never = refl

-- ## What is outstanding

-- three chunks of 1, 2 and 3 bytes: how many bytes count for the flight size, of how many chunks, and how many are marked
abbrev one : ChunkPayloadData
one = fragment 103 true true (1 ∷ [])

abbrev three : Flight
three = in_flight (one ∷ fragment 104 true true (1 ∷ 2 ∷ []) ∷ fragment 105 true true (1 ∷ 2 ∷ 3 ∷ []) ∷ [])

abbrev told : List ChunkPayloadData → ℕ × ℕ × ℕ
told cs = ((outstanding_of cs).bytes, (outstanding_of cs).chunks, (outstanding_of cs).marked)

sent : told three.queue.inflight.chunks ≡ (6, 3, 0)
sent = refl

-- T3-rtx expires: all are marked
timed_out : told (all_marked three).queue.inflight.chunks ≡ (0, 0, 3)
timed_out = refl

-- then the first is sent again
again : told (resent_at 103 9 one (all_marked three)).queue.inflight.chunks ≡ (1, 1, 2)
again = refl

-- one that is acknowledged or abandoned counts nowhere
gone_both : told (as_acknowledged one ∷ as_abandoned one ∷ record one { acked = true; retransmit = true } ∷ one ∷ []) ≡ (1, 1, 0)
gone_both = refl

-- ## Thresholds

-- a stream with ten bytes and a threshold of five, and one with ten bytes and none
abbrev amounts : List OutboundStream
amounts = record (new_stream 1 1200) { buffered_amount = 10; buffered_amount_low = 5 }
    ∷ record (new_stream 2 1200) { buffered_amount = 10 } ∷ []

abbrev gone : ℕ → ℕ → Released
gone stream bytes = record { tsn = 7; stream = stream; bytes = bytes; nsent = 1; since = Some 0; message = 0; is_message_acked = false; is_low = false }

-- three bytes at a time: the second chunk of the first stream goes from seven to four, and the third tells nothing more; what has no bytes
-- tells nothing; the other stream falls to 0 with its last byte, and one that isn't open never
falls : map (λ (r : Released). r.is_low) (with_lows (gone 1 3 ∷ gone 2 9 ∷ gone 1 0 ∷ gone 1 3 ∷ gone 1 3 ∷ gone 2 1 ∷ gone 3 9 ∷ []) amounts)
    ≡ false ∷ false ∷ false ∷ true ∷ false ∷ true ∷ false ∷ []
falls = refl

-- ## What a SACK reports

abbrev block : ℕ → ℕ → GapAckBlock
block first last = record { start = first; end = last }

-- 2 to 3, then 3 to 5, which overlap, and one that reports nothing
abbrev blocks : List GapAckBlock
blocks = block 2 3 ∷ block 3 5 ∷ block 9 8 ∷ []

after_them : after_blocks blocks ≡ 6
after_them = refl

after_none : after_blocks (block 9 8 ∷ []) ≡ 0
after_none = refl

-- one begins at 3 and goes on to 5, none begins at 4
begins_there : list_any (goes_from_to 3 5) blocks ≡ true
begins_there = refl

begins_not : list_any (goes_from_to 4 5) blocks ≡ false
begins_not = refl

-- ## Messages side by side

together : StandSideBySide (7 ∷ 7 ∷ 9 ∷ [])
together = (λ h. refl, (λ h. absurd (false≢true h), tt))

-- of the message 7 one chunk stands behind one of 9
torn : StandSideBySide (7 ∷ 9 ∷ 7 ∷ []) → ⊥
torn s = false≢true (sym (ap (λ (n : ℕ). n == 9) (s.0 refl)))

-- ## What is kept, and taken back

abbrev up_to : ℕ → List GapAckBlock → Sack
up_to tsn reported = record { cumulative_tsn_ack = tsn; advertised_receiver_window_credit = 0; gap_ack_blocks = reported; duplicate_tsn = [] }

-- 103 to 106 are in flight, each with one byte
abbrev four : Flight
four = in_flight (fragment 103 true true (3 ∷ []) ∷ fragment 104 true true (4 ∷ []) ∷ fragment 105 true true (5 ∷ []) ∷ fragment 106 true true (6 ∷ []) ∷ [])

-- after T3-rtx a SACK reports 104 and 105 in a gap ack block: 103 and 106 are still marked
reported_marked : told (flight.after_sack (up_to 102 (block 2 3 ∷ [])) (all_marked four)).queue.inflight.chunks ≡ (0, 0, 2)
unfolding distance comes_before at_or_before
reported_marked = refl

-- so many from a TSN on
abbrev chunks : ℕ → ℕ → List ChunkPayloadData
chunks tsn zero = []
chunks tsn (suc many) = fragment tsn true true (tsn ∷ []) ∷ chunks (tsn + 1) many

-- 104 and 105 are reported, and kept
abbrev reported_two : Flight
reported_two = flight.after_sack (up_to 102 (block 2 3 ∷ [])) four

abbrev kept_two : List (Option (List ℕ))
kept_two = None ∷ Some (4 ∷ []) ∷ Some (5 ∷ []) ∷ []

kept : kept_after (up_to 102 (block 2 3 ∷ [])) four [] ≡ kept_two
unfolding distance comes_before at_or_before
kept = refl

-- 105 alone is reported: 104 comes back with its byte, and 103, which was not reported, does not
abbrev back : List (Option (List ℕ))
back = None ∷ Some (4 ∷ []) ∷ None ∷ []

comes : coming_back (up_to 102 (block 3 3 ∷ [])) reported_two kept_two ≡ back
unfolding distance comes_before at_or_before
comes = refl

-- with no block nothing is reported any more, and all that is kept comes back
all_comes : coming_back (up_to 102 []) reported_two kept_two ≡ kept_two
unfolding distance comes_before at_or_before
all_comes = refl

-- 2 to 10 past 102 are reported, and kept; then 2 to 3 alone, as where a SACK is cut to the length of a packet: of 112 it tells nothing
abbrev ten : Flight
ten = record (in_flight (chunks 103 10)) { next_tsn = 113 }

abbrev reported_nine : Flight
reported_nine = flight.after_sack (up_to 102 (block 2 10 ∷ [])) ten

abbrev kept_nine : List (Option (List ℕ))
kept_nine = kept_after (up_to 102 (block 2 10 ∷ [])) ten []

abbrev back_by : List GapAckBlock → List ℕ
back_by reported = map (λ (r : TakenBack). r.tsn)
    (answered_back (coming_back (up_to 102 reported) reported_nine kept_nine) reported_nine.queue.inflight.chunks)

cut : back_by (block 2 3 ∷ []) ≡ []
unfolding distance comes_before at_or_before
cut = refl

-- what lies before its last block, and it does not report, comes back
between : back_by (block 2 3 ∷ block 6 8 ∷ []) ≡ 106 ∷ 107 ∷ []
unfolding distance comes_before at_or_before
between = refl

-- and likewise where its blocks do not ascend, or report nothing
unsorted : back_by (block 6 8 ∷ block 2 3 ∷ block 9 4 ∷ []) ≡ 106 ∷ 107 ∷ []
unfolding distance comes_before at_or_before
unsorted = refl

no_block : back_by [] ≡ 104 ∷ 105 ∷ 106 ∷ 107 ∷ 108 ∷ 109 ∷ 110 ∷ 111 ∷ 112 ∷ []
unfolding distance comes_before at_or_before
no_block = refl

answered : answered_back back reported_two.queue.inflight.chunks ≡ record { tsn = 104; stream = 1; bytes = 1; message = 0 } ∷ []
unfolding distance comes_before at_or_before
answered = refl

outstanding : option_map (λ (c : ChunkPayloadData). c.user_data)
    (find (λ c. not c.acked && c.tsn == 104) (with_restored back reported_two).queue.inflight.chunks) ≡ Some (4 ∷ [])
unfolding distance comes_before at_or_before
outstanding = refl

-- up to 104 all is acknowledged: 105 alone is kept on
passed : kept_after (up_to 104 (block 1 1 ∷ [])) reported_two kept_two ≡ Some (5 ∷ []) ∷ []
unfolding distance comes_before at_or_before
passed = refl
