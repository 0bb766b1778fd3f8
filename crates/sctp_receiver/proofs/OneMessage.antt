-- The fragments that are held as one message are of one message.
use Rattle.sctp_receiver.proofs.Names.{◌≡◌, ℕ, zero, suc, ◌+◌, ◌-◌, ◌<◌, ◌≤◌, Bool, true, false, List, [], ◌∷◌, ◌++◌, map, length, take, drop, Option, Some}
use Rattle.sctp_receiver.proofs.Names.{None, refl, ap, sym, ◌∙◌, arith, get_or, if◌then◌else◌, not, ◌&&◌, ◌==◌, list_all, list_any, filter, eq-eqb, get_or-drop}
use Rattle.sctp_receiver.proofs.Names.{get_or_default, length-drop, length-take, list_all-append, insert_before, change_first, after_leading, at_or_before}
use Rattle.sctp_receiver.proofs.Names.{comes_before16, same-is, same-yes, and, both, fails, ChunkPayloadData, ChunkSet, chunk_before, has_tsn, is_on, has_ssn}
use Rattle.sctp_receiver.proofs.Names.{with_chunk, new_set, sets_with, set_before, Reassembly, ReassemblyState, set_of_run, TakesRun, BecomesComplete}
use Rattle.sctp_receiver.proofs.Names.{is_readable, front_readable, without_first, after_read, message_among, message_read, rest_among, rest_read, is_passed}
use Rattle.sctp_receiver.proofs.Names.{is_old_message, held_after_reset, cannot_complete, placeholder, Pushes, PushesAs, is_one_message}
use Rattle.std.proofs.lemmas.List.{get_or-take}
use Rattle.sctp_util.proofs.Cases.{negated}
use Rattle.sctp_serial.specs.Runs.{IsRun, IsEarliestRun}
use Rattle.sctp_reassembly.specs.reassembly_queue.ReassemblyQueue.{held_after_ordered_skip, held_after_unordered_skip}
use Rattle.sctp_reassembly.specs.reassembly_queue.Resets.{rest_past, is_some_left, of_new_use}
use Rattle.sctp_reassembly.specs.reassembly_queue.Skips.{held_after_incomplete_skip}
use Rattle.sctp_receiver.specs.ReceiverRuns.{is_like, none_ends_before}

-- ## Tests of all elements

module _ {A : Type 0} (t : A → Bool) where
  inserted : (before : A → A → Bool) (x : A) (xs : List A) → t x ≡ true → list_all t xs ≡ true → list_all t (insert_before before x xs) ≡ true
  inserted before x [] here all = and _ _ here refl
  inserted before x (y ∷ ys) here all = by (before x y) (inserted before x ys here (both (t y) (list_all t ys) all).1)
    where
      by : (b : Bool) → list_all t (insert_before before x ys) ≡ true → list_all t (if b then x ∷ y ∷ ys else y ∷ insert_before before x ys) ≡ true
      by true ih = and _ _ here all
      by false ih = and _ _ (both (t y) (list_all t ys) all).0 ih

  those : (p : A → Bool) (xs : List A) → list_all t xs ≡ true → list_all t (filter p xs) ≡ true
  those p [] all = refl
  those p (x ∷ xs) all = by (p x) (those p xs (both (t x) (list_all t xs) all).1)
    where
      by : (b : Bool) → list_all t (filter p xs) ≡ true → list_all t (if b then x ∷ filter p xs else filter p xs) ≡ true
      by true ih = and _ _ (both (t x) (list_all t xs) all).0 ih
      by false ih = ih

  later : (p : A → Bool) (xs : List A) → list_all t xs ≡ true → list_all t (after_leading p xs) ≡ true
  later p [] all = refl
  later p (x ∷ xs) all = by (p x) (later p xs (both (t x) (list_all t xs) all).1)
    where
      by : (b : Bool) → list_all t (after_leading p xs) ≡ true → list_all t (if b then after_leading p xs else x ∷ xs) ≡ true
      by true ih = ih
      by false ih = all

  front : (n : ℕ) (xs : List A) → list_all t xs ≡ true → list_all t (take n xs) ≡ true
  front zero [] all = refl
  front zero (x ∷ xs) all = refl
  front (suc n) [] all = refl
  front (suc n) (x ∷ xs) all = and _ _ (both (t x) (list_all t xs) all).0 (front n xs (both (t x) (list_all t xs) all).1)

  back : (n : ℕ) (xs : List A) → list_all t xs ≡ true → list_all t (drop n xs) ≡ true
  back zero [] all = refl
  back zero (x ∷ xs) all = all
  back (suc n) [] all = refl
  back (suc n) (x ∷ xs) all = back n xs (both (t x) (list_all t xs) all).1

  first-changed : (p : A → Bool) (f : A → A) → ((x : A) → p x ≡ true → t x ≡ true → t (f x) ≡ true) → (xs : List A) → list_all t xs ≡ true
      → list_all t (change_first p f xs) ≡ true
  first-changed p f keeps [] all = refl
  first-changed p f keeps (x ∷ xs) all = by (p x) refl (first-changed p f keeps xs (both (t x) (list_all t xs) all).1)
    where
      by : (b : Bool) → p x ≡ b → list_all t (change_first p f xs) ≡ true → list_all t (if b then f x ∷ xs else x ∷ change_first p f xs) ≡ true
      by true e ih = and _ _ (keeps x e (both (t x) (list_all t xs) all).0) (both (t x) (list_all t xs) all).1
      by false e ih = and _ _ (both (t x) (list_all t xs) all).0 ih

  all-by : (s : A → Bool) → ((x : A) → t x ≡ true → s x ≡ true) → (xs : List A) → list_all t xs ≡ true → list_all s xs ≡ true
  all-by s f [] all = refl
  all-by s f (x ∷ xs) all = and _ _ (f x (both (t x) (list_all t xs) all).0) (all-by s f xs (both (t x) (list_all t xs) all).1)

-- ## Fragments of a stream

-- of an ordered message with this number, and of an unordered one
abbrev is_ordered_part : ℕ → ℕ → ChunkPayloadData → Bool
is_ordered_part si ssn c = is_on si c && (not c.unordered && (c.stream_sequence_number == ssn))

abbrev is_unordered_part : ℕ → ChunkPayloadData → Bool
is_unordered_part si c = is_on si c && c.unordered

ordered-like : (si ssn : ℕ) (x y : ChunkPayloadData) → is_ordered_part si ssn x ≡ true → is_ordered_part si ssn y ≡ true → is_like x y ≡ true
ordered-like si ssn x y hx hy =
    let p = both (is_on si x) (not x.unordered && (x.stream_sequence_number == ssn)) hx in
    let q = both (not x.unordered) (x.stream_sequence_number == ssn) p.1 in
    let a = both (is_on si y) (not y.unordered && (y.stream_sequence_number == ssn)) hy in
    let b = both (not y.unordered) (y.stream_sequence_number == ssn) a.1 in
    let stream : y.stream_identifier ≡ x.stream_identifier = same-is y.stream_identifier si a.0 ∙ sym (same-is x.stream_identifier si p.0) in
    let number : y.stream_sequence_number ≡ x.stream_sequence_number = same-is y.stream_sequence_number ssn b.1
    ∙ sym (same-is x.stream_sequence_number ssn q.1) in
    and _ _ (eq-eqb y.stream_identifier x.stream_identifier stream)
    (ap (λ u. if u then y.unordered else not y.unordered && (y.stream_sequence_number == x.stream_sequence_number)) (negated x.unordered q.0)
    ∙ and _ _ b.0 (eq-eqb y.stream_sequence_number x.stream_sequence_number number))

unordered-like : (si : ℕ) (x y : ChunkPayloadData) → is_unordered_part si x ≡ true → is_unordered_part si y ≡ true → is_like x y ≡ true
unordered-like si x y hx hy =
    let p = both (is_on si x) x.unordered hx in
    let a = both (is_on si y) y.unordered hy in
    let stream : y.stream_identifier ≡ x.stream_identifier = same-is y.stream_identifier si a.0 ∙ sym (same-is x.stream_identifier si p.0) in
    and _ _ (eq-eqb y.stream_identifier x.stream_identifier stream)
    (ap (λ u. if u then y.unordered else not y.unordered && (y.stream_sequence_number == x.stream_sequence_number)) p.1 ∙ a.1)

ordered-message : (si ssn : ℕ) (cs : List ChunkPayloadData) → list_all (is_ordered_part si ssn) cs ≡ true → is_one_message cs ≡ true
ordered-message si ssn [] all = refl
ordered-message si ssn (x ∷ ys) all =
    let h = both (is_ordered_part si ssn x) (list_all (is_ordered_part si ssn) ys) all in
    let kind = (both (not x.unordered) (x.stream_sequence_number == ssn) (both (is_on si x) (not x.unordered && (x.stream_sequence_number == ssn)) h.0).1).0 in
    and _ _ (all-by (is_ordered_part si ssn) (is_like x) (λ y hy. ordered-like si ssn x y h.0 hy) ys h.1)
    (ap (λ u. if u then list_all (λ y. not y.beginning_fragment) ys && none_ends_before x ys else true) (negated x.unordered kind))

none-begin : (ys : List ChunkPayloadData) (d : ChunkPayloadData) → ((k : ℕ) → k < length ys → (get_or ys k d).beginning_fragment ≡ false)
    → list_all (λ y. not y.beginning_fragment) ys ≡ true
none-begin [] d h = refl
none-begin (y ∷ ys) d h = and _ _ (ap not (h 0 (omega arith))) (none-begin ys d (λ k lt. h (suc k) (omega (arith, lt))))

none-end : (x : ChunkPayloadData) (ys : List ChunkPayloadData) (d : ChunkPayloadData)
    → ((k : ℕ) → k + 1 < length (x ∷ ys) → (get_or (x ∷ ys) k d).ending_fragment ≡ false) → none_ends_before x ys ≡ true
none-end x [] d h = refl
none-end x (y ∷ ys) d h = and _ _ (ap not (h 0 (omega arith))) (none-end y ys d (λ k lt. h (suc k) (omega (arith, lt))))

unordered-message : (si : ℕ) (run : List ChunkPayloadData) (d : ChunkPayloadData) → list_all (is_unordered_part si) run ≡ true
    → ((k : ℕ) → 0 < k → k < length run → (get_or run k d).beginning_fragment ≡ false)
    → ((k : ℕ) → k + 1 < length run → (get_or run k d).ending_fragment ≡ false) → is_one_message run ≡ true
unordered-message si [] d all begins ends = refl
unordered-message si (x ∷ ys) d all begins ends =
    let h = both (is_unordered_part si x) (list_all (is_unordered_part si) ys) all in
    let kind = (both (is_on si x) x.unordered h.0).1 in
    and _ _ (all-by (is_unordered_part si) (is_like x) (λ y hy. unordered-like si x y h.0 hy) ys h.1)
    (ap (λ u. if u then list_all (λ y. not y.beginning_fragment) ys && none_ends_before x ys else true) kind
    ∙ and _ _ (none-begin ys d (λ k lt. begins (suc k) (omega arith) (omega (arith, lt)))) (none-end x ys d ends))

-- ## The run that ends earliest

module _ (xs : List ChunkPayloadData) (first count : ℕ) (r : IsEarliestRun xs first count) where
  abbrev d : ChunkPayloadData
  d = placeholder 0

  abbrev run : List ChunkPayloadData
  run = take count (drop first xs)

  long : length run ≡ count
  long = let a = length-take count (drop first xs) in let b = length-drop first xs in let c = r.run.in_range in omega arith

  at : (k : ℕ) → k < count → get_or run k d ≡ get_or xs (first + k) d
  at k lt = get_or-take count (drop first xs) k d lt ∙ get_or-drop first xs k d

  inside-begins : (k : ℕ) → 0 < k → k < length run → (get_or run k d).beginning_fragment ≡ false
  inside-begins k pos lt =
      let less : k < count = omega (arith, lt, long) in
      ap (λ (c : ChunkPayloadData). c.beginning_fragment) (at k less) ∙ r.run.no_other (first + k) d (omega (arith, pos)) (omega (arith, less))

  inside-ends : (k : ℕ) → k + 1 < length run → (get_or run k d).ending_fragment ≡ false
  inside-ends k lt =
      let less : k + 1 < count = omega (arith, lt, long) in
      ap (λ (c : ChunkPayloadData). c.ending_fragment) (at k (omega (arith, less)))
      ∙ fails (get_or xs (first + k) d).ending_fragment (λ e.
      let here : first + (k + 1) - 1 ≡ first + k = omega arith in
      let inside : first + k < length xs = omega (arith, r.run.in_range, less) in
      let shorter : IsRun xs first (k + 1) = record {
        some = omega arith;
        in_range = omega (arith, r.run.in_range, less);
        begins = r.run.begins;
        no_other = λ j z a b. r.run.no_other j z a (omega (arith, b, less));
        rising = λ j z a b. r.run.rising j z a (omega (arith, b, less));
        ends = λ z. ap (λ i. (get_or xs i z).ending_fragment) here ∙ ap (λ (c : ChunkPayloadData). c.ending_fragment) (get_or_default xs (first + k) z d inside)
            ∙ e;
      } in
      let most : first + count ≤ first + (k + 1) = r.earliest first (k + 1) shorter in
      omega (arith, most, less))

  run-message : (si : ℕ) → list_all (is_unordered_part si) xs ≡ true → is_one_message run ≡ true
  run-message si all =
      unordered-message si run d (front (is_unordered_part si) count (drop first xs) (back (is_unordered_part si) first xs all)) inside-begins inside-ends

-- ## What a stream holds

abbrev is_ordered_set : ℕ → ChunkSet → Bool
is_ordered_set si set = list_all (is_ordered_part si set.ssn) set.chunks

abbrev is_message : ChunkSet → Bool
is_message set = is_one_message set.chunks

abbrev pub is_unmixed : ℕ → Reassembly → Bool
is_unmixed si q = list_all (is_ordered_set si) q.ordered && (list_all is_message q.unordered && list_all (is_unordered_part si) q.unassembled)

record IsUnmixed (si : ℕ) (q : Reassembly) : Type 0 where
  ordered : list_all (is_ordered_set si) q.ordered ≡ true
  unordered : list_all is_message q.unordered ≡ true
  unassembled : list_all (is_unordered_part si) q.unassembled ≡ true

parts : (si : ℕ) (q : Reassembly) → is_unmixed si q ≡ true → IsUnmixed si q
parts si q h =
    let a = both (list_all (is_ordered_set si) q.ordered) (list_all is_message q.unordered && list_all (is_unordered_part si) q.unassembled) h in
    let b = both (list_all is_message q.unordered) (list_all (is_unordered_part si) q.unassembled) a.1 in
    record { ordered = a.0; unordered = b.0; unassembled = b.1 }

-- ## A fragment comes

set-put : (si : ℕ) (x : ChunkPayloadData) → is_ordered_part si x.stream_sequence_number x ≡ true → (set : ChunkSet)
    → has_ssn x.stream_sequence_number set ≡ true → is_ordered_set si set ≡ true → is_ordered_set si (with_chunk x set) ≡ true
set-put si x part set has all = by (list_any (has_tsn x.tsn) set.chunks)
  where
    by : (b : Bool) → list_all (is_ordered_part si set.ssn) (if b then set.chunks else insert_before chunk_before x set.chunks) ≡ true
    by true = all
    by false = inserted (is_ordered_part si set.ssn) chunk_before x set.chunks (ap (λ n. is_ordered_part si n x) (same-is set.ssn x.stream_sequence_number has)
        ∙ part) all

put-ordered : (si : ℕ) (x : ChunkPayloadData) → is_ordered_part si x.stream_sequence_number x ≡ true → (sets : List ChunkSet)
    → list_all (is_ordered_set si) sets ≡ true → list_all (is_ordered_set si) (sets_with x sets) ≡ true
put-ordered si x part sets all = by (list_any (has_ssn x.stream_sequence_number) sets)
  where
    by : (b : Bool) → list_all (is_ordered_set si)
        (if b then change_first (has_ssn x.stream_sequence_number) (with_chunk x) sets else insert_before set_before (new_set x) sets) ≡ true
    by true = first-changed (is_ordered_set si) (has_ssn x.stream_sequence_number) (with_chunk x) (set-put si x part) sets all
    by false = inserted (is_ordered_set si) set_before (new_set x) sets (and _ _ part refl) all

run-set : (xs : List ChunkPayloadData) → (set_of_run xs).chunks ≡ xs
run-set [] = refl
run-set (x ∷ xs) = refl

run-taken : (si : ℕ) (xs : List ChunkPayloadData) (old new : Reassembly) → TakesRun xs old new → IsUnmixed si old → list_all (is_unordered_part si) xs ≡ true
    → is_unmixed si new ≡ true
run-taken si xs old new t u all =
    let run = take t.count (drop t.first xs) in
    let one : list_all is_message (set_of_run run ∷ []) ≡ true = and _ _ (ap is_one_message (run-set run) ∙ run-message xs t.first t.count t.run si all) refl in
    let made : list_all is_message (old.unordered ++ set_of_run run ∷ []) ≡ true = list_all-append is_message old.unordered (set_of_run run ∷ [])
    ∙ and _ _ u.unordered one in
    let left : list_all (is_unordered_part si) (take t.first xs ++ drop (t.first + t.count) xs) ≡ true =
    list_all-append (is_unordered_part si) (take t.first xs) (drop (t.first + t.count) xs)
    ∙ and _ _ (front (is_unordered_part si) t.first xs all) (back (is_unordered_part si) (t.first + t.count) xs all) in
    ap (is_unmixed si) t.moved ∙ and _ _ u.ordered (and _ _ made left)

pub pushed-unmixed : (x : ChunkPayloadData) (complete : Bool) (old new : ReassemblyState) → is_on old.si x ≡ true → Pushes x complete old new
    → is_unmixed old.si old.held ≡ true → is_unmixed old.si new.held ≡ true
pushed-unmixed x complete old new on p h = by x.unordered refl p
  where
    u : IsUnmixed old.si old.held
    u = parts old.si old.held h

    in-order : x.unordered ≡ false → (b : Bool) → is_unmixed old.si (if b then old.held else record old.held { ordered = sets_with x old.held.ordered }) ≡ true
    in-order e true = h
    in-order e false = and _ _ (put-ordered old.si x (and _ _ on (and _ _ (ap not e) (same-yes x.stream_sequence_number))) old.held.ordered u.ordered)
        (and _ _ u.unordered u.unassembled)

    all : x.unordered ≡ true → list_all (is_unordered_part old.si) (insert_before chunk_before x old.held.unassembled) ≡ true
    all e = inserted (is_unordered_part old.si) chunk_before x old.held.unassembled (and _ _ on e) u.unassembled

    becomes : x.unordered ≡ true → (b : Bool) → BecomesComplete (insert_before chunk_before x old.held.unassembled) old.held new.held b
        → is_unmixed old.si new.held ≡ true
    becomes e true t = run-taken old.si (insert_before chunk_before x old.held.unassembled) old.held new.held t u (all e)
    becomes e false t = ap (is_unmixed old.si) t.1 ∙ and _ _ u.ordered (and _ _ u.unordered (all e))

    by : (b : Bool) → x.unordered ≡ b → PushesAs b x complete old new → is_unmixed old.si new.held ≡ true
    by false e q = ap (λ (s : ReassemblyState). is_unmixed old.si s.held) q.0 ∙ in-order e (comes_before16 x.stream_sequence_number old.held.next_ssn)
    by true e q = becomes e complete q.0

-- ## A message is read

abbrev pub message_one : Option ChunkSet → Bool
message_one None = true
message_one (Some set) = is_one_message set.chunks

front-one : (si next : ℕ) (sets : List ChunkSet) → list_all (is_ordered_set si) sets ≡ true → message_one (front_readable next sets) ≡ true
front-one si next [] all = refl
front-one si next (s ∷ sets) all = by (is_readable next s)
  where
    by : (b : Bool) → message_one (if b then Some s else None) ≡ true
    by true = ordered-message si s.ssn s.chunks (both (is_ordered_set si s) (list_all (is_ordered_set si) sets) all).0
    by false = refl

pub read-one : (si : ℕ) (q : Reassembly) → is_unmixed si q ≡ true → message_one (message_read q) ≡ true
read-one si q h = by q.unordered (parts si q h).unordered
  where
    by : (us : List ChunkSet) → list_all is_message us ≡ true → message_one (message_among us q) ≡ true
    by [] all = front-one si q.next_ssn q.ordered (parts si q h).ordered
    by (u ∷ us) all = (both (is_message u) (list_all is_message us) all).0

without-first : (t : ChunkSet → Bool) (sets : List ChunkSet) → list_all t sets ≡ true → list_all t (without_first sets) ≡ true
without-first t [] all = refl
without-first t (s ∷ sets) all = (both (t s) (list_all t sets) all).1

pub rest-unmixed : (si : ℕ) (q : Reassembly) → is_unmixed si q ≡ true → is_unmixed si (rest_read q) ≡ true
rest-unmixed si q h = by q.unordered refl
  where
    u : IsUnmixed si q
    u = parts si q h

    after : (o : Option ChunkSet) → is_unmixed si (after_read o q) ≡ true
    after None = h
    after (Some set) = and _ _ (without-first (is_ordered_set si) q.ordered u.ordered) (and _ _ u.unordered u.unassembled)

    by : (us : List ChunkSet) → q.unordered ≡ us → is_unmixed si (rest_among us q) ≡ true
    by [] e = after (front_readable q.next_ssn q.ordered)
    by (v ∷ us) e = and _ _ u.ordered (and _ _ (both (is_message v) (list_all is_message us) (ap (list_all is_message) (sym e) ∙ u.unordered)).1 u.unassembled)

-- ## A FORWARD-TSN comes

pub named-unmixed : (si ssn : ℕ) (q : Reassembly) → is_unmixed si q ≡ true → is_unmixed si (held_after_ordered_skip ssn q) ≡ true
named-unmixed si ssn q h =
    let u = parts si q h in
    and _ _ (those (is_ordered_set si) (λ set. not (is_passed ssn set)) q.ordered u.ordered) (and _ _ u.unordered u.unassembled)

pub unassembled-unmixed : (si tsn : ℕ) (q : Reassembly) → is_unmixed si q ≡ true → is_unmixed si (held_after_unordered_skip tsn q) ≡ true
unassembled-unmixed si tsn q h =
    let u = parts si q h in
    and _ _ u.ordered (and _ _ u.unordered (later (is_unordered_part si) (λ x. at_or_before x.tsn tsn) q.unassembled u.unassembled))

pub incomplete-unmixed : (si tsn : ℕ) (q : Reassembly) → is_unmixed si q ≡ true → is_unmixed si (held_after_incomplete_skip tsn q) ≡ true
incomplete-unmixed si tsn q h =
    let u = parts si q h in
    and _ _ (those (is_ordered_set si) (λ set. not (cannot_complete tsn set)) q.ordered u.ordered) (and _ _ u.unordered u.unassembled)

-- ## A stream is reset

rests-ordered : (si last : ℕ) (sets : List ChunkSet) → list_all (is_ordered_set si) sets ≡ true
    → list_all (is_ordered_set si) (map (rest_past last) sets) ≡ true
rests-ordered si last [] all = refl
rests-ordered si last (s ∷ sets) all =
    let h = both (is_ordered_set si s) (list_all (is_ordered_set si) sets) all in
    and _ _ (those (is_ordered_part si s.ssn) (λ c. not (at_or_before c.tsn last)) s.chunks h.0) (rests-ordered si last sets h.1)

pub reset-unmixed : (si last : ℕ) (q : Reassembly) → is_unmixed si q ≡ true → is_unmixed si (held_after_reset last q) ≡ true
reset-unmixed si last q h =
    let u = parts si q h in
    let left : list_all (is_ordered_set si) (of_new_use last q.ordered) ≡ true = those (is_ordered_set si) (λ s. is_some_left s.chunks)
    (map (rest_past last) q.ordered) (rests-ordered si last q.ordered u.ordered) in
    let messages : list_all is_message q.ordered ≡ true =
    all-by (is_ordered_set si) is_message (λ s t. ordered-message si s.ssn s.chunks t) q.ordered u.ordered in
    let moved : list_all is_message (q.unordered ++ filter (is_old_message last) q.ordered) ≡ true =
    list_all-append is_message q.unordered (filter (is_old_message last) q.ordered)
    ∙ and _ _ u.unordered (those is_message (is_old_message last) q.ordered messages) in
    and _ _ left (and _ _ moved u.unassembled)
