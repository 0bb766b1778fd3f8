-- Worked examples, by computation.
use Rattle.std.proofs.Common.{◌≡◌, ℕ, true, false, List, [], ◌∷◌, ◌++◌, Some, None, refl}
use Rattle.std.specs.Prelude.{replicate}
use Rattle.sctp_util.specs.Serial.{distance}
use Rattle.sctp_util.specs.Field as field
use Rattle.sctp_show.specs.declared.filter.TsnRange.{TsnRange}
use Rattle.sctp_show.specs.Filter.{tsn_of, stream_of, payload_type_of, is_asked, is_asked_of, is_in_range}

-- ## What a chunk says

-- DATA with the TSN 258, stream 3, sequence number 4 and the payload type 51
abbrev data_chunk : List ℕ
data_chunk = 0 ∷ 3 ∷ 0 ∷ 17 ∷ 0 ∷ 0 ∷ 1 ∷ 2 ∷ 0 ∷ 3 ∷ 0 ∷ 4 ∷ 0 ∷ 0 ∷ 0 ∷ 51 ∷ 97 ∷ []

data_tsn : tsn_of data_chunk ≡ Some 258
unfolding field.u32_at
data_tsn = refl

data_stream : stream_of data_chunk ≡ Some 3
unfolding field.u16_at
data_stream = refl

data_payload : payload_type_of data_chunk ≡ Some 51
unfolding field.u32_at
data_payload = refl

-- I-DATA with these flags
abbrev interleaved : ℕ → List ℕ
interleaved flags = 64 ∷ flags ∷ 0 ∷ 20 ∷ replicate 15 0 ++ 53 ∷ []

-- its first fragment has a payload type, and a later one has none
first_payload : payload_type_of (interleaved 2) ≡ Some 53
unfolding field.u32_at
first_payload = refl

later_payload : payload_type_of (interleaved 1) ≡ None
later_payload = refl

-- a SACK has no TSN
sack_tsn : tsn_of (3 ∷ 0 ∷ 0 ∷ 16 ∷ replicate 12 0) ≡ None
sack_tsn = refl

-- ## What is asked for

nothing_asked : is_asked [] 7 ≡ true
nothing_asked = refl

second_asked : is_asked (5 ∷ 7 ∷ []) 7 ≡ true
second_asked = refl

other_asked : is_asked (5 ∷ 7 ∷ []) 6 ≡ false
other_asked = refl

missing_asked : is_asked_of (5 ∷ []) None ≡ false
missing_asked = refl

-- from 4294967294 up to 1 are four TSNs
abbrev round_zero : TsnRange
round_zero = record { first = 4294967294; last = 1 }

zero_in : is_in_range 0 round_zero ≡ true
unfolding distance
zero_in = refl

last_in : is_in_range 1 round_zero ≡ true
unfolding distance
last_in = refl

behind_out : is_in_range 2 round_zero ≡ false
unfolding distance
behind_out = refl

before_out : is_in_range 4294967293 round_zero ≡ false
unfolding distance
before_out = refl
