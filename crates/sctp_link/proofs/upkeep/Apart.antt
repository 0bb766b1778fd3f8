-- No stream of a link is open twice, and what the change of one of its streams, slots or messages makes of the record.
use Rattle.sctp_link.proofs.Names.{◌≡◌, ℕ, zero, suc, ◌<◌, Bool, true, false, List, [], ◌∷◌, length, map, Some, refl, ap, sym, ◌∙◌, arith, ◌==◌, find}
use Rattle.sctp_link.proofs.Names.{if◌then◌else◌, slice_index_or, slice_set, list_any, subst, get_or-set_same, get_or-set_other, same-yes, same-is, not_both}
use Rattle.sctp_link.proofs.Names.{StreamRecord, by_place, same-turned, IsApart, OpenStream, has_number, stream_numbers, stream_record}
use Rattle.std.specs.Option.{option_map}
use Rattle.sctp_serial.proofs.lemmas.ListEdits.{neither}

-- ## Open streams

-- a stream is found by its number in the record where it is in the link
pub stream-found : (s : ℕ) (ls : List OpenStream) → find (λ r. r.stream == s) (map stream_record ls) ≡ option_map stream_record (find (has_number s) ls)
stream-found s [] = refl
stream-found s (l ∷ ls) = step (l.state.stream_identifier == s) (stream-found s ls)
  where
    step : (b : Bool) → find (λ r. r.stream == s) (map stream_record ls) ≡ option_map stream_record (find (has_number s) ls) → (if b then Some (stream_record l)
        else find (λ r. r.stream == s) (map stream_record ls)) ≡ option_map stream_record (if b then Some l else find (has_number s) ls)
    step true ih = refl
    step false ih = ih

pub number-found : (s : ℕ) (ls : List OpenStream) (l : OpenStream) → find (has_number s) ls ≡ Some l → l.state.stream_identifier ≡ s
number-found s [] l e = cc
number-found s (x ∷ ls) l e = step (x.state.stream_identifier == s) refl e (number-found s ls l)
  where
    step : (b : Bool) → (x.state.stream_identifier == s) ≡ b → (if b then Some x else find (has_number s) ls) ≡ Some l
        → (find (has_number s) ls ≡ Some l → l.state.stream_identifier ≡ s) → l.state.stream_identifier ≡ s
    step true t h ih = let z : x ≡ l = cc in ap (λ (y : OpenStream). y.state.stream_identifier) (sym z) ∙ same-is x.state.stream_identifier s t
    step false t h ih = ih h

pub none-at : (n : ℕ) (ls : List OpenStream) (k : ℕ) (d : OpenStream) → list_any (λ j. j == n) (stream_numbers ls) ≡ false → k < length ls
    → ((slice_index_or ls k d).state.stream_identifier == n) ≡ false
none-at n [] k d e lt = absurd (omega arith)
none-at n (l ∷ ls) zero d e lt = (neither (l.state.stream_identifier == n) (list_any (λ j. j == n) (stream_numbers ls)) e).0
none-at n (l ∷ ls) (suc k) d e lt = none-at n ls k d (neither (l.state.stream_identifier == n) (list_any (λ j. j == n) (stream_numbers ls)) e).1 (omega arith)

-- two streams have two numbers
pub differ : (ls : List OpenStream) (j k : ℕ) (d : OpenStream) → IsApart (stream_numbers ls) → j < length ls → k < length ls → (j ≡ k → ⊥)
    → (slice_index_or ls j d).state.stream_identifier ≡ (slice_index_or ls k d).state.stream_identifier → ⊥
differ [] j k d a lj lk ne e = omega arith
differ (l ∷ ls) zero zero d a lj lk ne e = ne refl
differ (l ∷ ls) zero (suc k) d a lj lk ne e = not_both (sym (none-at l.state.stream_identifier ls k d a.0 (omega arith))
    ∙ ap (λ n. n == l.state.stream_identifier) (sym e) ∙ same-yes l.state.stream_identifier)
differ (l ∷ ls) (suc j) zero d a lj lk ne e = not_both (sym (none-at l.state.stream_identifier ls j d a.0 (omega arith))
    ∙ ap (λ n. n == l.state.stream_identifier) e ∙ same-yes l.state.stream_identifier)
differ (l ∷ ls) (suc j) (suc k) d a lj lk ne e = differ ls j k d a.1 (omega arith) (omega arith) (λ z. ne (ap suc z)) e

-- ## One element is set

untouched : (s : ℕ) (f : StreamRecord → StreamRecord) (ls : List OpenStream) → list_any (λ k. k == s) (stream_numbers ls) ≡ false
    → map (λ r. if r.stream == s then f r else r) (map stream_record ls) ≡ map stream_record ls
untouched s f [] e = refl
untouched s f (l ∷ ls) e =
    let x = neither (l.state.stream_identifier == s) (list_any (λ k. k == s) (stream_numbers ls)) e in
    cc (x.0, untouched s f ls x.1)

-- one stream is set: so its stream changes in the record
pub streams-set : (ls : List OpenStream) (k : ℕ) (y d : OpenStream) (f : StreamRecord → StreamRecord) → IsApart (stream_numbers ls) → k < length ls
    → stream_record y ≡ f (stream_record (slice_index_or ls k d))
    → map stream_record (slice_set ls k y) ≡ map (λ r. if r.stream == (slice_index_or ls k d).state.stream_identifier then f r else r) (map stream_record ls)
streams-set [] k y d f a lt e = absurd (omega arith)
streams-set (l ∷ ls) zero y d f a lt e =
    let s = l.state.stream_identifier in
    cc (e, untouched s f ls a.0, same-yes s)
streams-set (l ∷ ls) (suc k) y d f a lt e =
    let s = (slice_index_or ls k d).state.stream_identifier in
    let off : (l.state.stream_identifier == s) ≡ false = same-turned l.state.stream_identifier s ∙ none-at l.state.stream_identifier ls k d a.0 (omega arith) in
    cc (streams-set ls k y d f a.1 (omega arith) e, off)

-- what holds of the new stream and of the others holds of each
pub each-set : (P : OpenStream → Type 0) (ls : List OpenStream) (k j : ℕ) (y d : OpenStream) → k < length ls → P y → ((j ≡ k → ⊥) → P (slice_index_or ls j d))
    → P (slice_index_or (slice_set ls k y) j d)
each-set P ls k j y d lt new old =
    by_place {C = P (slice_index_or (slice_set ls k y) j d)} j k
    (λ ne. subst P (sym (get_or-set_other ls k j y d ne)) (old ne))
    (λ e. subst (λ i. P (slice_index_or (slice_set ls k y) i d)) (sym e) (subst P (sym (get_or-set_same ls k y d lt)) new))
