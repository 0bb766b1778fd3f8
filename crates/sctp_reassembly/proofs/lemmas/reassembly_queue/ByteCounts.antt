-- The byte count follows what is held.
use Rattle.std.proofs.Common.{◌≡◌, ℕ, ◌+◌, ◌-◌, ◌^◌, ◌<◌, ◌&&◌, ◌||◌, Bool, true, false, not, if◌then◌else◌, List, [], ◌∷◌, ◌++◌, Result, Ok, Err}
use Rattle.std.proofs.Common.{OnOk, OnErr, IfOk, length, take, drop, refl, sym, ap, ap₂, ◌∙◌, arith}
use Rattle.std.specs.List.{list_any, sum_by, filter}
use Rattle.std.proofs.lemmas.Bool.{true≢false}
use Rattle.std.proofs.lemmas.List.{take-append-drop, drop-drop}
use Rattle.std.proofs.lemmas.List.Sums.{sum_by-cons, sum_by-append}
use Rattle.sctp_util.specs.Serial.{at_or_before, at_or_before16, comes_before16}
use Rattle.sctp_util.specs.Lists.{insert_before, change_first, after_leading}
use Rattle.sctp_data.specs.declared.chunk.chunk_payload_data.ChunkPayloadData.{ChunkPayloadData}
use Rattle.sctp_data.specs.ChunkSet.{ChunkSet}
use Rattle.sctp_reassembly.specs.reassembly_queue.Fragments.{has_ssn, with_chunk, new_set, sets_with, chunks_of_ssn, set_before, is_complete}
use Rattle.sctp_serial.specs.DataChunks.{bytes_of, has_tsn, chunk_before}
use Rattle.sctp_reassembly.specs.reassembly_queue.ReassemblyQueue.{Reassembly, ReassemblyState, set_bytes, held_bytes, IsCounted, count_up, after_ordered_push}
use Rattle.sctp_reassembly.specs.reassembly_queue.ReassemblyQueue.{set_of_run, BecomesComplete, PushesUnordered}
use Rattle.sctp_reassembly.specs.reassembly_queue.ReassemblyQueue.{leading_upto, after_unordered_skip, after_ordered_skip}
use Rattle.sctp_reassembly.specs.reassembly_queue.ReassemblyQueue.{held_after_ordered_skip, is_passed, complete_sets}
use Rattle.sctp_reassembly.specs.reassembly_queue.Loose.{IsRunTaken}
use Rattle.sctp_reassembly.specs.reassembly_queue.Skips.{after_bounded_skip, held_after_bounded_skip, is_abandoned, misses, cannot_complete, ssn_past_sets}
use Rattle.sctp_reassembly.specs.reassembly_queue.Skips.{held_after_incomplete_skip, after_incomplete_skip}
use Rattle.sctp_reassembly.proofs.lemmas.reassembly_queue.ChunkSets.{chunks_none, state_of}
use Rattle.sctp_serial.proofs.lemmas.ListEdits.{neither}

-- a sum over a list with one more element
sum-inserted : {A : Type 0} (f : A → ℕ) (before : A → A → Bool) (x : A) (xs : List A) → sum_by f (insert_before before x xs) ≡ sum_by f xs + f x
sum-inserted f before x [] = omega (arith, sum_by-cons f x [])
sum-inserted {A = A} f before x (e ∷ es) = at_head (before x e) (sum-inserted f before x es)
  where
    at_head : (b : Bool) → sum_by f (insert_before before x es) ≡ sum_by f es + f x
        → sum_by f (if b then x ∷ e ∷ es else e ∷ insert_before before x es) ≡ sum_by f (e ∷ es) + f x
    at_head true rec = omega (arith, sum_by-cons f x (e ∷ es))
    at_head false rec = omega (arith, sum_by-cons f e (insert_before before x es), sum_by-cons f e es, rec)

-- what passes and what doesn't are all
sum-those : {A : Type 0} (f : A → ℕ) (p : A → Bool) (xs : List A) → sum_by f (filter p xs) + sum_by f (filter (λ x. not (p x)) xs) ≡ sum_by f xs
sum-those f p [] = refl
sum-those {A = A} f p (x ∷ xs) = at_head (p x) (sum-those f p xs)
  where
    at_head : (b : Bool) → sum_by f (filter p xs) + sum_by f (filter (λ y. not (p y)) xs) ≡ sum_by f xs → sum_by f (if b then x ∷ filter p xs else filter p xs)
        + sum_by f (if not b then x ∷ filter (λ y. not (p y)) xs else filter (λ y. not (p y)) xs) ≡ sum_by f (x ∷ xs)
    at_head true rec = omega (arith, sum_by-cons f x (filter p xs), sum_by-cons f x xs, rec)
    at_head false rec = omega (arith, sum_by-cons f x (filter (λ y. not (p y)) xs), sum_by-cons f x xs, rec)

-- what a skip leaves, and what it takes
pub skipped : (p : ChunkSet → Bool) (sets : List ChunkSet) → set_bytes (filter p sets) + set_bytes (filter (λ s. not (p s)) sets) ≡ set_bytes sets
skipped p sets = sum-those (λ s. bytes_of s.chunks) p sets

pub dropped : (t : ℕ) (xs : List ChunkPayloadData) → bytes_of (leading_upto t xs) + bytes_of (after_leading (λ x. at_or_before x.tsn t) xs) ≡ bytes_of xs
dropped t [] = refl
dropped t (x ∷ xs) = at_head (at_or_before x.tsn t) (dropped t xs)
  where
    at_head : (b : Bool) → bytes_of (leading_upto t xs) + bytes_of (after_leading (λ y. at_or_before y.tsn t) xs) ≡ bytes_of xs
        → bytes_of (if b then x ∷ leading_upto t xs else []) + bytes_of (if b then after_leading (λ y. at_or_before y.tsn t) xs else x ∷ xs) ≡ bytes_of (x ∷ xs)
    at_head true rec = omega (
      arith,
      sum_by-cons (λ (c : ChunkPayloadData). length c.user_data) x (leading_upto t xs),
      sum_by-cons (λ (c : ChunkPayloadData). length c.user_data) x xs,
      rec,
    )
    at_head false rec = omega arith

-- how much longer the sets are with a chunk
bytes_changed : (x : ChunkPayloadData) (ssn : ℕ) (sets : List ChunkSet) → list_any (has_ssn ssn) sets ≡ true → set_bytes
    (change_first (has_ssn ssn) (with_chunk x) sets) ≡ set_bytes sets + (if list_any (has_tsn x.tsn) (chunks_of_ssn ssn sets) then 0 else length x.user_data)
bytes_changed x ssn [] h = absurd (true≢false (sym h))
bytes_changed x ssn (s ∷ ss) h = at_head (has_ssn ssn s) refl (bytes_changed x ssn ss)
  where
    put_in : (b : Bool) → bytes_of (if b then s.chunks else insert_before chunk_before x s.chunks) ≡ bytes_of s.chunks + (if b then 0 else length x.user_data)
    put_in true = omega arith
    put_in false = sum-inserted (λ (c : ChunkPayloadData). length c.user_data) chunk_before x s.chunks

    at_head : (b : Bool) → has_ssn ssn s ≡ b → (list_any (has_ssn ssn) ss ≡ true → set_bytes (change_first (has_ssn ssn) (with_chunk x) ss)
        ≡ set_bytes ss + (if list_any (has_tsn x.tsn) (chunks_of_ssn ssn ss) then 0 else length x.user_data))
        → set_bytes (if b then with_chunk x s ∷ ss else s ∷ change_first (has_ssn ssn) (with_chunk x) ss)
        ≡ set_bytes (s ∷ ss) + (if list_any (has_tsn x.tsn) (if b then s.chunks else chunks_of_ssn ssn ss) then 0 else length x.user_data)
    at_head true e rec = omega (
      arith,
      sum_by-cons (λ (t : ChunkSet). bytes_of t.chunks) (with_chunk x s) ss,
      sum_by-cons (λ (t : ChunkSet). bytes_of t.chunks) s ss,
      put_in (list_any (has_tsn x.tsn) s.chunks),
    )
    at_head false e rec =
        let later : list_any (has_ssn ssn) ss ≡ true = ap (λ b. b || list_any (has_ssn ssn) ss) (sym e) ∙ h in
        omega (
          arith,
          sum_by-cons (λ (t : ChunkSet). bytes_of t.chunks) s (change_first (has_ssn ssn) (with_chunk x) ss),
          sum_by-cons (λ (t : ChunkSet). bytes_of t.chunks) s ss,
          rec later,
        )

pub bytes_with : (x : ChunkPayloadData) (sets : List ChunkSet)
    → set_bytes (sets_with x sets) ≡ set_bytes sets + (if list_any (has_tsn x.tsn) (chunks_of_ssn x.stream_sequence_number sets) then 0 else length x.user_data)
bytes_with x sets = at_any (list_any (has_ssn x.stream_sequence_number) sets) refl
  where
    at_any : (b : Bool) → list_any (has_ssn x.stream_sequence_number) sets ≡ b
        → set_bytes (if b then change_first (has_ssn x.stream_sequence_number) (with_chunk x) sets else insert_before set_before (new_set x) sets)
        ≡ set_bytes sets + (if list_any (has_tsn x.tsn) (chunks_of_ssn x.stream_sequence_number sets) then 0 else length x.user_data)
    at_any true e = bytes_changed x x.stream_sequence_number sets e
    at_any false e =
        let alone = sum_by-cons (λ (c : ChunkPayloadData). length c.user_data) x [] in
        let more = sum-inserted (λ (s : ChunkSet). bytes_of s.chunks) set_before (new_set x) sets in
        rw (chunks_none x.stream_sequence_number sets e) (omega (arith, alone, more))

-- an ordered push counts what it keeps
pub ordered_counted : (x : ChunkPayloadData) (q : ReassemblyState) → held_bytes q.held + length x.user_data < 2 ^ 64 → IsCounted q
    → IsCounted (after_ordered_push x q)
ordered_counted x q fits h = at_test (comes_before16 x.stream_sequence_number q.held.next_ssn)
    (list_any (has_tsn x.tsn) (chunks_of_ssn x.stream_sequence_number q.held.ordered)) (bytes_with x q.held.ordered)
  where
    at_test : (late known : Bool) → set_bytes (sets_with x q.held.ordered) ≡ set_bytes q.held.ordered + (if known then 0 else length x.user_data)
        → (if not late && not known then count_up q.bytes (length x.user_data) else q.bytes)
        ≡ held_bytes (if late then q.held else record q.held { ordered = sets_with x q.held.ordered })
    at_test true known more = h
    at_test false true more = omega (arith, h, more)
    at_test false false more = omega (arith, h, more, fits)

-- a run moves from the unassembled fragments to the complete messages
pub run_bytes : (cs : List ChunkPayloadData) → bytes_of (set_of_run cs).chunks ≡ bytes_of cs
run_bytes [] = refl
run_bytes (c ∷ cs) = refl

-- a run between a front and a rest
run_between : (xs : List ChunkPayloadData) (first count : ℕ)
    → bytes_of xs ≡ bytes_of (take first xs ++ drop (first + count) xs) + bytes_of (take count (drop first xs))
run_between xs first count =
    let run = take count (drop first xs) in
    let rest = drop (first + count) xs in
    let split : bytes_of xs ≡ bytes_of (take first xs) + bytes_of (drop first xs) = ap bytes_of (sym (take-append-drop first xs))
    ∙ sum_by-append (λ (c : ChunkPayloadData). length c.user_data) (take first xs) (drop first xs) in
    let split_run : bytes_of (drop first xs) ≡ bytes_of run + bytes_of rest = ap bytes_of (sym (take-append-drop count (drop first xs)))
    ∙ sum_by-append (λ (c : ChunkPayloadData). length c.user_data) run (drop count (drop first xs))
    ∙ ap (λ ys. bytes_of run + bytes_of ys) (drop-drop count first xs) in
    let left = sum_by-append (λ (c : ChunkPayloadData). length c.user_data) (take first xs) rest in
    omega (arith, split, split_run, left)

-- a run that is taken out has the bytes that are gone
pub taken_bytes : (xs left taken : List ChunkPayloadData) → IsRunTaken xs left taken → bytes_of xs ≡ bytes_of left + bytes_of taken
taken_bytes xs left taken h = omega (arith, run_between xs h.first h.count, ap bytes_of h.rest, ap bytes_of h.fragments)

pub whole_bytes : (xs : List ChunkPayloadData) (old new : Reassembly) (whole : Bool) → BecomesComplete xs old new whole
    → held_bytes new ≡ set_bytes old.ordered + set_bytes old.unordered + bytes_of xs
whole_bytes xs old new false h = ap held_bytes h.1
whole_bytes xs old new true h =
    let run = take h.count (drop h.first xs) in
    let moved = sum_by-append (λ (s : ChunkSet). bytes_of s.chunks) old.unordered (set_of_run run ∷ []) in
    let one = sum_by-cons (λ (s : ChunkSet). bytes_of s.chunks) (set_of_run run) [] in
    ap held_bytes h.moved ∙ omega (arith, run_between xs h.first h.count, moved, one, run_bytes run)

-- an unordered push counts its fragment
pub unordered_counted : (x : ChunkPayloadData) (old new : ReassemblyState) (whole : Bool) → PushesUnordered x old new whole
    → held_bytes old.held + length x.user_data < 2 ^ 64 → IsCounted old → IsCounted new
unordered_counted x old new whole h fits counted =
    let bytes = whole_bytes (insert_before chunk_before x old.held.unassembled) old.held new.held whole h.0 in
    let more = sum-inserted (λ (c : ChunkPayloadData). length c.user_data) chunk_before x old.held.unassembled in
    ap (λ (q : ReassemblyState). q.bytes) h.1 ∙ omega (arith, bytes, more, fits, counted)

-- no skip removes what it isn't asked to
pub those_stay : (p q : ChunkSet → Bool) → ((s : ChunkSet) → p s ≡ true → q s ≡ true) → (xs : List ChunkSet) → filter p (filter q xs) ≡ filter p xs
those_stay p q h [] = refl
those_stay p q h (x ∷ xs) = at_head (p x) (q x) refl refl (those_stay p q h xs)
  where
    at_head : (a b : Bool) → p x ≡ a → q x ≡ b → filter p (filter q xs) ≡ filter p xs
        → filter p (if b then x ∷ filter q xs else filter q xs) ≡ (if a then x ∷ filter p xs else filter p xs)
    at_head a true e f rec = ap (λ c. if c then x ∷ filter p (filter q xs) else filter p (filter q xs)) e ∙ ap (λ ys. if a then x ∷ ys else ys) rec
    at_head true false e f rec = absurd (true≢false (sym (h x e) ∙ f))
    at_head false false e f rec = rec

pub skip_counted : (last : ℕ) (q : ReassemblyState) → IsCounted q → IsCounted (after_ordered_skip last q)
skip_counted last q h = omega (arith, h, skipped (is_passed last) q.held.ordered)

pub bounded_counted : (last t : ℕ) (q : ReassemblyState) → IsCounted q → IsCounted (after_bounded_skip last t q)
bounded_counted last t q h = omega (arith, h, skipped (is_abandoned last t) q.held.ordered)

pub drop_counted : (t : ℕ) (q : ReassemblyState) → IsCounted q → IsCounted (after_unordered_skip t q)
drop_counted t q h = omega (arith, h, dropped t q.held.unassembled)

pub incomplete_counted : (t : ℕ) (q : ReassemblyState) → IsCounted q → IsCounted (after_incomplete_skip t q)
incomplete_counted t q h = omega (arith, h, skipped (cannot_complete t) q.held.ordered)

pub complete_not_passed : (a b : Bool) → b ≡ true → not (a && not b) ≡ true
complete_not_passed true true e = refl
complete_not_passed true false e = absurd (true≢false (sym e))
complete_not_passed false b e = refl

complete_not_abandoned : (a b c : Bool) → b ≡ true → not (a && (not b && c)) ≡ true
complete_not_abandoned true true c e = refl
complete_not_abandoned true false c e = absurd (true≢false (sym e))
complete_not_abandoned false b c e = refl

complete_not_cut : (b c : Bool) → b ≡ true → not (not b && c) ≡ true
complete_not_cut true c e = refl
complete_not_cut false c e = absurd (true≢false (sym e))

-- the complete sets stay
pub skip_complete : (last : ℕ) (q : Reassembly) → complete_sets (held_after_ordered_skip last q) ≡ complete_sets q
skip_complete last q = those_stay (λ s. is_complete s.chunks) (λ s. not (is_passed last s))
    (λ s e. complete_not_passed (at_or_before16 s.ssn last) (is_complete s.chunks) e) q.ordered

pub bounded_complete : (last t : ℕ) (q : Reassembly) → complete_sets (held_after_bounded_skip last t q) ≡ complete_sets q
bounded_complete last t q = those_stay (λ s. is_complete s.chunks) (λ s. not (is_abandoned last t s))
    (λ s e. complete_not_abandoned (at_or_before16 s.ssn last) (is_complete s.chunks) (misses t s.chunks) e) q.ordered

pub incomplete_complete : (t : ℕ) (q : Reassembly) → complete_sets (held_after_incomplete_skip t q) ≡ complete_sets q
incomplete_complete t q =
    those_stay (λ s. is_complete s.chunks) (λ s. not (cannot_complete t s)) (λ s e. complete_not_cut (is_complete s.chunks) (misses t s.chunks) e) q.ordered

-- where there is none, none goes and all stay
pub none_there : (p : ChunkSet → Bool) (xs : List ChunkSet) → list_any p xs ≡ false → filter p xs ≡ []
none_there p [] h = refl
none_there p (x ∷ xs) h = let (a, b) = neither (p x) (list_any p xs) h in rw a (none_there p xs b)

all_stay : (p : ChunkSet → Bool) (xs : List ChunkSet) → list_any p xs ≡ false → filter (λ s. not (p s)) xs ≡ xs
all_stay p [] h = refl
all_stay p (x ∷ xs) h = let (a, b) = neither (p x) (list_any p xs) h in rw a (ap (λ ys. x ∷ ys) (all_stay p xs b))

pub incomplete_agrees : (t : ℕ) (q : ReassemblyState) → list_any (cannot_complete t) q.held.ordered ≡ false → after_incomplete_skip t q ≡ q
incomplete_agrees t q h =
    let kept : q.bytes - 0 ≡ q.bytes = omega arith in
    ap₂ (λ gone stay.
    state_of q.si (ssn_past_sets q.held.next_ssn gone) stay q.held.unordered q.held.unassembled (q.bytes - set_bytes gone) q.max_message_size q.places)
    (none_there (cannot_complete t) q.held.ordered h) (all_stay (cannot_complete t) q.held.ordered h)
    ∙ ap (λ bytes. record q { bytes = bytes }) kept

-- what follows from either answer
pub either : {A E X Y P : Type 0} (r : Result A E) → OnOk r X → OnErr r Y → (X → P) → (Y → P) → P
either (Ok a) x y f g = f x
either (Err e) x y f g = g y

pub either_of : {A E Y P : Type 0} {F : A → Type 0} (r : Result A E) → IfOk r F → OnErr r Y → ((a : A) → F a → P) → (Y → P) → P
either_of (Ok a) x y f g = f a x
either_of (Err e) x y f g = g y
