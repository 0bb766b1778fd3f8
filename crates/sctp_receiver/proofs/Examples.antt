-- Worked examples, by computation.
use Rattle.sctp_receiver.proofs.Names.{◌≡◌, ℕ, Bool, true, false, List, [], ◌∷◌, ◌++◌, length, Some, None, refl, ap, nat_le, if◌then◌else◌, ForwardTsn}
use Rattle.sctp_receiver.proofs.Names.{ChunkPayloadData, Limits, StreamUnknown, MessageTooLarge, TsnTooFar, WindowFull, SsnTooFar, NamedStreamUnknown}
use Rattle.sctp_receiver.proofs.Names.{NamedSsnTooFar, New, Repeat, new_stream, has_number, with_queue, Reception, open_stream, data_refusal, arrival_refusal}
use Rattle.sctp_receiver.proofs.Names.{filter_of, with_filter, repeat_tsn, noted_by, discard_refusal, window, change_where, Reassembly, ReassemblyState}
use Rattle.sctp_receiver.proofs.Names.{after_ordered_push, lowest_ssn, is_ssn_too_far, skip_refusal, past_closed_refusal, undo_of, retracted, Filter, with_tsn}
use Rattle.sctp_receiver.proofs.Names.{skipped_to, gap_ack_blocks, has_come, is_opposite, TakesEach}
use Rattle.sctp_data.specs.ChunkSet.{fresh}
use Rattle.sctp_data.specs.declared.chunk.chunk_payload_data.PayloadProtocolIdentifier.TheVariants as identifiers
use Rattle.sctp_util.specs.Serial.{distance, comes_before, at_or_before, comes_before16, at_or_before16, distance16}
use Rattle.sctp_receiver.specs.Receiver.{at_first}
use Rattle.sctp_receiver.specs.Ssns.{is_name_too_far}

-- TSNs 15, 14 and 17 came beyond 12: so RFC 4960 3.3.4 shows its blocks
abbrev twelve : Filter
twelve = record { cumulative_tsn = 12; beyond = []; duplicates = []; room = 0 }

abbrev to_seventeen : Filter
to_seventeen = with_tsn 17 (with_tsn 14 (with_tsn 15 twelve))

blocks : gap_ack_blocks to_seventeen ≡ record { start = 2; end = 3 } ∷ record { start = 5; end = 5 } ∷ []
unfolding distance comes_before
blocks = refl

-- then 13 comes, and 16
thirteen : (with_tsn 13 to_seventeen).cumulative_tsn ≡ 15
unfolding distance comes_before
thirteen = refl

sixteen : with_tsn 16 (with_tsn 13 to_seventeen) ≡ record { cumulative_tsn = 17; beyond = []; duplicates = []; room = 0 }
unfolding distance comes_before
sixteen = refl

-- each is taken back
thirteen_back : retracted (undo_of 13 to_seventeen) (with_tsn 13 to_seventeen) ≡ to_seventeen
unfolding distance comes_before
thirteen_back = refl

fourteen_back : retracted (undo_of 14 (with_tsn 15 twelve)) (with_tsn 14 (with_tsn 15 twelve)) ≡ with_tsn 15 twelve
unfolding distance comes_before
fourteen_back = refl

-- a skip to 13 goes on to 15
skip : skipped_to 13 to_seventeen ≡ record { cumulative_tsn = 15; beyond = 17 ∷ []; duplicates = []; room = 0 }
unfolding distance comes_before at_or_before
skip = refl

-- TSNs wrap
abbrev last_tsn : Filter
last_tsn = record { cumulative_tsn = 4294967294; beyond = []; duplicates = []; room = 0 }

wraps : with_tsn 4294967295 (with_tsn 0 last_tsn) ≡ record { cumulative_tsn = 0; beyond = []; duplicates = []; room = 0 }
unfolding distance comes_before
wraps = refl

-- what lies before came, and what lies half the circle away neither came nor can
before_came : has_come 4294967000 last_tsn ≡ true
unfolding distance at_or_before
before_came = refl

opposite : is_opposite 2147483646 last_tsn ≡ true
unfolding distance
opposite = refl

-- ## A receiver

abbrev fragment : ℕ → Bool → Bool → List ℕ → ChunkPayloadData
fragment tsn begins ends bytes = fresh (record {
  unordered = false;
  beginning_fragment = begins;
  ending_fragment = ends;
  immediate_sack = false;
  tsn = tsn;
  stream_identifier = 1;
  stream_sequence_number = 0;
  payload_type = identifiers.Binary;
  user_data = bytes;
})

-- no stream is open
unknown : data_refusal (fragment 7 true true (1 ∷ [])) (at_first 7 2 None) ≡ Some StreamUnknown
unfolding distance at_or_before
unknown = refl

-- a message may have two bytes
too_large : data_refusal (fragment 7 true true (1 ∷ 2 ∷ 3 ∷ [])) (open_stream 1 (at_first 7 2 None)) ≡ Some MessageTooLarge
unfolding distance at_or_before
too_large = refl

fits : data_refusal (fragment 7 true true (1 ∷ 2 ∷ [])) (open_stream 1 (at_first 7 2 None)) ≡ None
unfolding distance at_or_before
fits = refl

-- a datagram with a message in two chunks, the first of which stands in it twice
abbrev front : ChunkPayloadData
front = fragment 7 true false (1 ∷ [])

abbrev back : ChunkPayloadData
back = fragment 8 false true (2 ∷ [])

abbrev at_one : ReassemblyState
at_one = after_ordered_push front (new_stream 1 2).queue

abbrev at_two : ReassemblyState
at_two = after_ordered_push back at_one

abbrev taken_on : ChunkPayloadData → ReassemblyState → Reception → Reception
taken_on c q r = with_filter (with_tsn c.tsn (filter_of r)) (record r { streams = change_where (has_number 1) (with_queue q) r.streams })

abbrev one_open : Reception
one_open = open_stream 1 (at_first 7 2 None)

abbrev after_datagram : Reception
after_datagram = taken_on back at_two (repeat_tsn 7 (taken_on front at_one one_open))

datagram : TakesEach (front ∷ front ∷ back ∷ []) (New false ∷ Repeat ∷ New true ∷ []) one_open after_datagram
unfolding distance at_or_before comes_before at_or_before16 comes_before16 distance16
datagram = (
  taken_on front at_one one_open,
  (
    record { accepted = refl; answer = refl; taken = record { stream = new_stream 1 2; found = refl; queue = at_one; pushed = (refl, refl); after = refl } },
    (
      repeat_tsn 7 (taken_on front at_one one_open),
      (
        record { accepted = refl; answer = refl; taken = refl },
        (
          after_datagram,
          (
            record {
              accepted = refl;
              answer = refl;
              taken = record { stream = with_queue at_one (new_stream 1 2); found = refl; queue = at_two; pushed = (refl, refl); after = refl };
            },
            refl,
          ),
        ),
      ),
    ),
  ),
)

-- all came, 7 twice
up_to_eight : after_datagram.cumulative_tsn ≡ 8
unfolding distance at_or_before comes_before at_or_before16 comes_before16 distance16
up_to_eight = refl

seven_twice : after_datagram.duplicates ≡ 7 ∷ []
unfolding distance at_or_before comes_before at_or_before16 comes_before16 distance16
seven_twice = refl

-- ## Limits

-- a window of one chunk of a byte, which counts for 401
abbrev narrow : Limits
narrow = record { window = 401; reach = 3 }

abbrev narrow_open : Reception
narrow_open = open_stream 1 (at_first 7 100 (Some narrow))

abbrev one_byte : ℕ → ChunkPayloadData
one_byte tsn = fragment tsn true true (1 ∷ [])

-- 6 is the cumulative TSN
too_far : data_refusal (one_byte 10) narrow_open ≡ Some TsnTooFar
unfolding distance at_or_before
too_far = refl

too_far_to_drop : discard_refusal 10 narrow_open ≡ Some TsnTooFar
unfolding distance at_or_before
too_far_to_drop = refl

in_reach : data_refusal (one_byte 9) narrow_open ≡ None
unfolding distance at_or_before comes_before
in_reach = refl

-- 8 came, and fills the window
abbrev full : Reception
full = taken_on (one_byte 8) (after_ordered_push (one_byte 8) (new_stream 1 100).queue) narrow_open

past_it : data_refusal (one_byte 9) full ≡ Some WindowFull
unfolding distance at_or_before comes_before at_or_before16 comes_before16 distance16
past_it = refl

past_it_to_drop : discard_refusal 9 full ≡ Some WindowFull
unfolding distance at_or_before comes_before at_or_before16 comes_before16 distance16
past_it_to_drop = refl

-- 7 fills the gap, and 8 comes again
gap_filled : data_refusal (one_byte 7) full ≡ None
unfolding distance at_or_before comes_before at_or_before16 comes_before16 distance16
gap_filled = refl

came_again : data_refusal (one_byte 8) full ≡ None
unfolding distance at_or_before comes_before at_or_before16 comes_before16 distance16
came_again = refl

-- what is told of the window
nothing_left : window full ≡ 0
unfolding distance at_or_before comes_before at_or_before16 comes_before16 distance16
nothing_left = refl

all_left : window narrow_open ≡ 401
all_left = refl

no_limits : window (at_first 7 2 None) ≡ 4294967295
no_limits = refl

-- with limits the duplicate of which a SACK is full is noted, and the next one is not; without limits each is
last_noted : (ds : List ℕ) → length ds ≡ 16378 → noted_by (Some narrow) 7 ds ≡ ds ++ 7 ∷ []
last_noted ds e = ap (λ n. if nat_le 16379 n then ds else ds ++ 7 ∷ []) e

not_noted : (ds : List ℕ) → length ds ≡ 16379 → noted_by (Some narrow) 7 ds ≡ ds
not_noted ds e = ap (λ n. if nat_le 16379 n then ds else ds ++ 7 ∷ []) e

each_noted : (ds : List ℕ) → noted_by None 7 ds ≡ ds ++ 7 ∷ []
each_noted ds = refl

-- ## Stream sequence numbers

-- message 0 is complete, and a FORWARD-TSN went past the messages up to 9
abbrev below_ten : Reassembly
below_ten = record (after_ordered_push (one_byte 7) (new_stream 1 100).queue).held { next_ssn = 10 }

lowest : lowest_ssn below_ten ≡ 0
unfolding at_or_before16 comes_before16 distance16
lowest = refl

-- once it is read the next number is the lowest one
lowest_read : lowest_ssn (record below_ten { ordered = [] }) ≡ 10
lowest_read = refl

last_near : is_ssn_too_far 32767 below_ten ≡ false
unfolding at_or_before16 comes_before16 distance16
last_near = refl

first_far : is_ssn_too_far 32768 below_ten ≡ true
unfolding at_or_before16 comes_before16 distance16
first_far = refl

-- past a complete message names end one earlier; the last 2^14 numbers before it are of old names
last_name : is_name_too_far 32766 below_ten ≡ false
unfolding at_or_before16 comes_before16 distance16
last_name = refl

past_complete : is_name_too_far 32767 below_ten ≡ true
unfolding at_or_before16 comes_before16 distance16
past_complete = refl

may_be_old : is_name_too_far 49151 below_ten ≡ true
unfolding at_or_before16 comes_before16 distance16
may_be_old = refl

is_old : is_name_too_far 49152 below_ten ≡ false
unfolding at_or_before16 comes_before16 distance16
is_old = refl

past_nothing : is_name_too_far 32767 (new_stream 1 100).queue.held ≡ false
unfolding at_or_before16 comes_before16 distance16
past_nothing = refl

-- of 32,770 messages of one fragment the last one comes first
abbrev last_of_many : ChunkPayloadData
last_of_many = record (fragment 32770 true true (1 ∷ [])) { stream_sequence_number = 32769 }

last_first : arrival_refusal last_of_many (open_stream 1 (at_first 1 100 None)) ≡ Some SsnTooFar
unfolding distance at_or_before comes_before at_or_before16 comes_before16 distance16
last_first = refl

-- a FORWARD-TSN that names a stream that is not open, and one that names too far ahead on one that is
abbrev skip_naming : ℕ → ℕ → ForwardTsn
skip_naming stream ssn = record { new_cumulative_tsn = 9; streams = record { identifier = stream; sequence = ssn } ∷ [] }

closed_named : skip_refusal (skip_naming 2 0) (open_stream 1 (at_first 1 100 None)) ≡ Some NamedStreamUnknown
unfolding distance at_or_before comes_before at_or_before16 comes_before16 distance16
closed_named = refl

closed_passed : past_closed_refusal (skip_naming 2 0) (open_stream 1 (at_first 1 100 None)) ≡ None
unfolding distance at_or_before comes_before at_or_before16 comes_before16 distance16
closed_passed = refl

far_named : skip_refusal (skip_naming 1 32768) (open_stream 1 (at_first 1 100 None)) ≡ Some NamedSsnTooFar
unfolding distance at_or_before comes_before at_or_before16 comes_before16 distance16
far_named = refl

-- a stale one is not refused
stale_named : skip_refusal (skip_naming 2 0) (at_first 10 100 None) ≡ None
unfolding distance at_or_before comes_before at_or_before16 comes_before16 distance16
stale_named = refl
