-- Each stream has less by what left of it.
use Rattle.sctp_link.proofs.Names.{◌≡◌, ℕ, zero, suc, ◌+◌, ◌-◌, ◌<◌, ◌≤◌, Bool, true, false, List, [], ◌∷◌, length, map, refl, ap, ◌∙◌, arith, if◌then◌else◌}
use Rattle.sctp_link.proofs.Names.{◌==◌, ◌&&◌, not, slice_index_or, filter, change_where, numbers_where, always, total_over, change_where-map}
use Rattle.sctp_link.proofs.Names.{length-change_where, map-at, ChunkPayloadData, as_acknowledged, Released, released_of, LinkRecord, unacked_on}
use Rattle.sctp_link.proofs.Names.{stream_of_slot, bytes_at, sending_of, IsInFlight, same-turned, OpenStream, has_number, less_by, after_releases, Acks}
use Rattle.sctp_link.proofs.Names.{head_of, tail_of, total-none, total-append, total-where, total-kept_same, numbers-append}

-- a stream with another buffered amount
abbrev pub with_amount : ℕ → OpenStream → OpenStream
with_amount n l = record l { state = record l.state { buffered_amount = n } }

-- bytes go off the amount of the streams of a number
streams-less : (ls : List OpenStream) (s n k : ℕ) (d : OpenStream) → k < length ls → slice_index_or (change_where (has_number s) (less_by n) ls) k d
    ≡ with_amount ((slice_index_or ls k d).state.buffered_amount - (if s == (slice_index_or ls k d).state.stream_identifier then n else 0))
    (slice_index_or ls k d)
streams-less ls s n k d lt =
    ap (λ ys. slice_index_or ys k d) (change_where-map (has_number s) (less_by n) ls) ∙ map-at (λ x. if has_number s x then less_by n x else x) k ls d lt
    ∙ one (slice_index_or ls k d)
  where
    by : (x : OpenStream) (b : Bool) → (if b then less_by n x else x) ≡ with_amount (x.state.buffered_amount - (if b then n else 0)) x
    by x true = refl
    by x false = let none : x.state.buffered_amount ≡ x.state.buffered_amount - 0 = omega arith in ap (λ m. with_amount m x) none

    one : (x : OpenStream)
        → (if has_number s x then less_by n x else x) ≡ with_amount (x.state.buffered_amount - (if s == x.state.stream_identifier then n else 0)) x
    one x = by x (has_number s x) ∙ ap (λ b. with_amount (x.state.buffered_amount - (if b then n else 0)) x) (same-turned x.state.stream_identifier s)

-- ## What was told

-- of that, the bytes of a stream
abbrev pub released_on : ℕ → List Released → ℕ
released_on t [] = 0
released_on t (r ∷ rs) = (if r.stream == t then r.bytes else 0) + released_on t rs

pub length-released : (rs : List Released) (ls : List OpenStream) → length (after_releases rs ls) ≡ length ls
length-released [] ls = refl
length-released (r ∷ rs) ls = length-released rs (change_where (has_number r.stream) (less_by r.bytes) ls)
    ∙ length-change_where (has_number r.stream) (less_by r.bytes) ls

pub released-at : (rs : List Released) (ls : List OpenStream) (k : ℕ) (d : OpenStream) → k < length ls → slice_index_or (after_releases rs ls) k d
    ≡ with_amount ((slice_index_or ls k d).state.buffered_amount - released_on (slice_index_or ls k d).state.stream_identifier rs) (slice_index_or ls k d)
released-at [] ls k d lt = let none : (slice_index_or ls k d).state.buffered_amount ≡ (slice_index_or ls k d).state.buffered_amount - 0 = omega arith in
    ap (λ m. with_amount m (slice_index_or ls k d)) none
released-at (r ∷ rs) ls k d lt =
    let next = change_where (has_number r.stream) (less_by r.bytes) ls in
    let l : OpenStream = slice_index_or ls k d in
    released-at rs next k d (omega (arith, lt, length-change_where (has_number r.stream) (less_by r.bytes) ls))
    ∙ ap (less-too rs) (streams-less ls r.stream r.bytes k d lt)
    ∙ ap (λ m. with_amount m (slice_index_or ls k d)) (both (slice_index_or ls k d).state.buffered_amount
    (if r.stream == (slice_index_or ls k d).state.stream_identifier then r.bytes else 0) (released_on (slice_index_or ls k d).state.stream_identifier rs))
  where
    less-too : List Released → OpenStream → OpenStream
    less-too rs y = with_amount (y.state.buffered_amount - released_on y.state.stream_identifier rs) y

    both : (a x y : ℕ) → a - x - y ≡ a - (x + y)
    both a x y = omega arith

-- ## What is in flight on a stream

abbrev pub chunks_on : ℕ → List ChunkPayloadData → ℕ
chunks_on t [] = 0
chunks_on t (c ∷ cs) = (if c.stream_identifier == t then length c.user_data else 0) + chunks_on t cs

none-on : (b : Bool) → ◌≡◌ {A = ℕ} (if b then 0 else 0) 0
none-on true = refl
none-on false = refl

-- what is acknowledged leaves
pub answered-on : (whole : ℕ → Bool) (p : ChunkPayloadData → Bool) (t : ℕ) (cs : List ChunkPayloadData)
    → released_on t (map (released_of whole) (filter p cs)) + chunks_on t (change_where p as_acknowledged cs) ≡ chunks_on t cs
answered-on whole p t [] = refl
answered-on whole p t (c ∷ cs) = step (p c) (answered-on whole p t cs)
  where
    step : (b : Bool) → released_on t (map (released_of whole) (filter p cs)) + chunks_on t (change_where p as_acknowledged cs) ≡ chunks_on t cs
        → released_on t (map (released_of whole) (if b then c ∷ filter p cs else filter p cs))
        + chunks_on t ((if b then as_acknowledged c else c) ∷ change_where p as_acknowledged cs) ≡ chunks_on t (c ∷ cs)
    step true ih = let z = none-on (c.stream_identifier == t) in omega (arith, ih, z)
    step false ih = omega (arith, ih)

module _ {first : ℕ} {w : LinkRecord} (a : Acks first w) where
  flying-on : (acked : ℕ → Bool) (t : ℕ) (cs : List ChunkPayloadData) (from count : ℕ) → from + count ≤ length w.slots → IsInFlight w acked from count cs
      → chunks_on t cs ≡ total_over (λ p. if stream_of_slot w p == t then (if acked p then 0 else bytes_at w p) else 0) (numbers_where always from count)
  flying-on acked t [] from zero le e = refl
  flying-on acked t [] from (suc count) le e = cc
  flying-on acked t (c ∷ cs) from zero le e = cc
  flying-on acked t (c ∷ cs) from (suc count) le e =
      ap (λ n. n + chunks_on t cs) (a.shares from t (acked from) c (omega (arith, le)) (ap (λ l. head_of l (sending_of c)) e))
      ∙ ap (λ n. (if stream_of_slot w from == t then (if acked from then 0 else bytes_at w from) else 0) + n)
      (flying-on acked t cs (from + 1) count (omega (arith, le)) (ap tail_of e))

  -- what is in flight on a stream is what its slots hold that are not acknowledged, where each slot before the first in flight is
  pub on-unacked : (acked : ℕ → Bool) (t : ℕ) (cs : List ChunkPayloadData) (from : ℕ) → from ≤ length w.slots → ((p : ℕ) → p < from → acked p ≡ true)
      → IsInFlight w acked from (length w.slots - from) cs → chunks_on t cs ≡ unacked_on w acked t
  on-unacked acked t cs from le before e =
      let f : ℕ → ℕ = λ p. if stream_of_slot w p == t then (if acked p then 0 else bytes_at w p) else 0 in
      let queue = flying-on acked t cs from (length w.slots - from) (omega (arith, le)) e in
      let none = total-none f 0 from (λ k i j. ap (λ b. if stream_of_slot w k == t then (if b then 0 else bytes_at w k) else 0) (before k (omega arith))
      ∙ none-on (stream_of_slot w k == t)) in
      let two = total-append f (numbers_where always 0 from) (numbers_where always from (length w.slots - from)) in
      let all : from + (length w.slots - from) ≡ length w.slots = omega (arith, le) in
      let complete = ap (total_over f) (numbers-append from (length w.slots - from) ∙ ap (numbers_where always 0) all) in
      let held = total-where (bytes_at w) (λ p. not (acked p) && (stream_of_slot w p == t)) 0 (length w.slots) in
      let same = total-kept_same (λ p. if not (acked p) && (stream_of_slot w p == t) then bytes_at w p else 0) f always 0 (length w.slots)
      (λ k i j. turned (acked k) (stream_of_slot w k == t) (bytes_at w k)) in
      omega (arith, queue, none, two, complete, held, same)
    where
      turned : (b c : Bool) (k : ℕ) → (if not b && c then k else 0) ≡ (if c then (if b then 0 else k) else 0)
      turned true true k = refl
      turned true false k = refl
      turned false true k = refl
      turned false false k = refl
