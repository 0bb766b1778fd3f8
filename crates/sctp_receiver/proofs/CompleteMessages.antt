-- Messages that are kept as complete, and messages that are read.
use Rattle.sctp_receiver.proofs.Names.{◌≡◌, ℕ, zero, suc, ◌+◌, ◌-◌, ◌<◌, ◌≤◌, Bool, true, false, List, [], ◌∷◌, length, take, drop, Option, Some, None, refl}
use Rattle.sctp_receiver.proofs.Names.{ap, sym, ◌∙◌, arith, get_or, if◌then◌else◌, list_all, filter, eq-eqb, get_or-drop, length-drop, list_all-append}
use Rattle.sctp_receiver.proofs.Names.{insert_before, at_or_before, comes_before16, at_or_before16, and, both, ChunkPayloadData, ChunkSet, chunk_before}
use Rattle.sctp_receiver.proofs.Names.{following_tsn, is_complete, sets_with, Reassembly, ReassemblyState, set_of_run, TakesRun, BecomesComplete, is_readable}
use Rattle.sctp_receiver.proofs.Names.{front_readable, after_read, message_among, message_read, rest_among, rest_read, is_old_message, held_after_reset}
use Rattle.sctp_receiver.proofs.Names.{placeholder, Pushes, PushesAs}
use Rattle.sctp_serial.specs.Runs.{IsRun}
use Rattle.sctp_reassembly.specs.reassembly_queue.Fragments.{completes}

-- ## Runs are complete

completes-run : (x : ChunkPayloadData) (ys : List ChunkPayloadData) (n : ℕ) (d : ChunkPayloadData) → n ≤ length ys → ((k : ℕ) → k < n
    → (get_or (x ∷ ys) (suc k) d).tsn ≡ following_tsn (get_or (x ∷ ys) k d).tsn) → (get_or (x ∷ ys) n d).ending_fragment ≡ true → completes x (take n ys) ≡ true
completes-run x [] zero d le rise end = end
completes-run x [] (suc n) d le rise end = absurd (omega (arith, le))
completes-run x (y ∷ ys) zero d le rise end = end
completes-run x (y ∷ ys) (suc n) d le rise end = and _ _ (eq-eqb y.tsn (following_tsn x.tsn) (rise 0 (omega arith)))
    (completes-run y ys n d (omega (arith, le)) (λ k lt. rise (suc k) (omega (arith, lt))) end)

complete-front : (xs : List ChunkPayloadData) (count : ℕ) (d : ChunkPayloadData) → 0 < count → count ≤ length xs → (get_or xs 0 d).beginning_fragment ≡ true
    → ((k : ℕ) → k + 1 < count → (get_or xs (suc k) d).tsn ≡ following_tsn (get_or xs k d).tsn) → (get_or xs (count - 1) d).ending_fragment ≡ true
    → is_complete (take count xs) ≡ true
complete-front xs zero d pos le begins rise end = absurd (omega (arith, pos))
complete-front [] (suc n) d pos le begins rise end = absurd (omega (arith, le))
complete-front (x ∷ xs) (suc n) d pos le begins rise end =
    let last : suc n - 1 ≡ n = omega arith in
    and _ _ begins
    (completes-run x xs n d (omega (arith, le)) (λ k lt. rise k (omega (arith, lt))) (ap (λ i. (get_or (x ∷ xs) i d).ending_fragment) (sym last) ∙ end))

pub run-complete : (xs : List ChunkPayloadData) (first count : ℕ) → IsRun xs first count → is_complete (take count (drop first xs)) ≡ true
run-complete xs first count r =
    let d = placeholder 0 in
    let at : (i j : ℕ) → j ≡ first + i → get_or (drop first xs) i d ≡ get_or xs j d = λ i j e. get_or-drop first xs i d ∙ ap (λ k. get_or xs k d) (sym e) in
    complete-front (drop first xs) count d r.some (omega (arith, length-drop first xs, r.in_range))
    (ap (λ (c : ChunkPayloadData). c.beginning_fragment) (at 0 first (omega arith)) ∙ r.begins d)
    (λ k lt. ap (λ (c : ChunkPayloadData). c.tsn) (at (suc k) (first + k + 1) (omega arith)) ∙ r.rising (first + k) d (omega arith) (omega (arith, lt))
    ∙ ap (λ (c : ChunkPayloadData). following_tsn c.tsn) (sym (at k (first + k) (omega arith))))
    (ap (λ (c : ChunkPayloadData). c.ending_fragment) (at (count - 1) (first + count - 1) (omega (arith, r.some))) ∙ r.ends d)

run-set : (xs : List ChunkPayloadData) → (set_of_run xs).chunks ≡ xs
run-set [] = refl
run-set (x ∷ xs) = refl

-- ## Messages that are kept as complete: unordered ones, and ordered ones from before a reset

-- each that is kept as complete is
abbrev pub all_complete : List ChunkSet → Bool
all_complete sets = list_all (λ set. is_complete set.chunks) sets

run-keeps-complete : (xs : List ChunkPayloadData) (old new : Reassembly) → TakesRun xs old new → all_complete old.unordered ≡ true
    → all_complete new.unordered ≡ true
run-keeps-complete xs old new t h =
    let run = take t.count (drop t.first xs) in
    let one : all_complete (set_of_run run ∷ []) ≡ true = and _ _ (ap is_complete (run-set run) ∙ run-complete xs t.first t.count t.run.run) refl in
    ap (λ (q : Reassembly). all_complete q.unordered) t.moved ∙ list_all-append (λ set. is_complete set.chunks) old.unordered (set_of_run run ∷ [])
    ∙ and _ _ h one

pub pushed-complete : (x : ChunkPayloadData) (complete : Bool) (old new : ReassemblyState) → Pushes x complete old new → all_complete old.held.unordered ≡ true
    → all_complete new.held.unordered ≡ true
pushed-complete x complete old new p h = by x.unordered p
  where
    in-order : (b : Bool) → (if b then old.held else record old.held { ordered = sets_with x old.held.ordered }).unordered ≡ old.held.unordered
    in-order true = refl
    in-order false = refl

    becomes : (b : Bool) → BecomesComplete (insert_before chunk_before x old.held.unassembled) old.held new.held b → all_complete new.held.unordered ≡ true
    becomes true t = run-keeps-complete (insert_before chunk_before x old.held.unassembled) old.held new.held t h
    becomes false t = ap (λ (q : Reassembly). all_complete q.unordered) t.1 ∙ h

    by : (b : Bool) → PushesAs b x complete old new → all_complete new.held.unordered ≡ true
    by false e = ap (λ (q : ReassemblyState). all_complete q.held.unordered) e.0
        ∙ ap all_complete (in-order (comes_before16 x.stream_sequence_number old.held.next_ssn)) ∙ h
    by true e = becomes complete e.0

-- ## A message is read

-- it is complete
abbrev pub message_complete : Option ChunkSet → Bool
message_complete None = true
message_complete (Some set) = is_complete set.chunks

front-complete : (next : ℕ) (sets : List ChunkSet) → message_complete (front_readable next sets) ≡ true
front-complete next [] = refl
front-complete next (s ∷ sets) = by (is_readable next s) refl
  where
    by : (b : Bool) → is_readable next s ≡ b → message_complete (if b then Some s else None) ≡ true
    by true e = (both (is_complete s.chunks) (at_or_before16 s.ssn next) e).0
    by false e = refl

pub read-complete : (q : Reassembly) → all_complete q.unordered ≡ true → message_complete (message_read q) ≡ true
read-complete q h = by q.unordered h
  where
    by : (us : List ChunkSet) → all_complete us ≡ true → message_complete (message_among us q) ≡ true
    by [] h = front-complete q.next_ssn q.ordered
    by (u ∷ us) h = (both (is_complete u.chunks) (all_complete us) h).0

pub rest-complete : (q : Reassembly) → all_complete q.unordered ≡ true → all_complete (rest_read q).unordered ≡ true
rest-complete q h = by q.unordered refl
  where
    after : (o : Option ChunkSet) → (after_read o q).unordered ≡ q.unordered
    after None = refl
    after (Some set) = refl

    by : (us : List ChunkSet) → q.unordered ≡ us → all_complete (rest_among us q).unordered ≡ true
    by [] e = ap all_complete (after (front_readable q.next_ssn q.ordered)) ∙ h
    by (u ∷ us) e = (both (is_complete u.chunks) (all_complete us) (ap all_complete (sym e) ∙ h)).1

-- ## A stream is reset

-- ordered messages that move among the complete ones are complete
moved-complete : (last : ℕ) (sets : List ChunkSet) → all_complete (filter (is_old_message last) sets) ≡ true
moved-complete last [] = refl
moved-complete last (s ∷ sets) = by (is_old_message last s) refl (moved-complete last sets)
  where
    by : (b : Bool) → is_old_message last s ≡ b → all_complete (filter (is_old_message last) sets) ≡ true
        → all_complete (if b then s ∷ filter (is_old_message last) sets else filter (is_old_message last) sets) ≡ true
    by true e ih = and _ _ (both (is_complete s.chunks) (list_all (λ c. at_or_before c.tsn last) s.chunks) e).0 ih
    by false e ih = ih

pub reset-complete : (last : ℕ) (q : Reassembly) → all_complete q.unordered ≡ true → all_complete (held_after_reset last q).unordered ≡ true
reset-complete last q h = list_all-append (λ set. is_complete set.chunks) q.unordered (filter (is_old_message last) q.ordered)
    ∙ and _ _ h (moved-complete last q.ordered)
