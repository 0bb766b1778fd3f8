-- Sets of ordered messages by their indexes, as a fragment comes and as the front message is read. Where no FORWARD-TSN comes none stands before
-- the next number, so that no fragment is dropped.
use Rattle.sctp_delivery.proofs.Names.{◌≡◌, ℕ, ◌+◌, ◌%◌, ◌^◌, ◌<◌, ◌≤◌, Bool, true, false, List, [], ◌∷◌, Option, Some, None, inl, inr, refl, ap, sym, subst}
use Rattle.sctp_delivery.proofs.Names.{◌∙◌, arith, suc, length, take, drop, ⊤, ◌==◌, ◌||◌, if◌then◌else◌, nat_lt, filter, list_any, sum_by, cases_lt, nat_tests}
use Rattle.sctp_delivery.proofs.Names.{sum_by-cons, common_steps, change_first, insert_before, comes_before16, same-is, same-yes, sum_by-inserted, not_both}
use Rattle.sctp_delivery.proofs.Names.{at_or_before16-index, comes_before16-index, next16, ChunkPayloadData, ChunkSet, has_ssn, new_set, set_before, sets_with}
use Rattle.sctp_delivery.proofs.Names.{Reassembly, after_read, front_readable, held_after_ordered_push, is_readable, rest_among, rest_read, BecomesComplete}
use Rattle.sctp_delivery.proofs.Names.{ReassemblyState, set_of_run, is_ssn_too_far, lowest_among, set_weight, chunk_before, has_tsn, Pushes, PushesAs, HasNoRun}
use Rattle.std.specs.Prelude.{remove}
use Rattle.sctp_util.specs.Serial.{distance16}
use Rattle.sctp_reassembly.specs.reassembly_queue.Fragments.{with_chunk}
use Rattle.sctp_delivery.proofs.Cases.{at-if, at-test}
use Rattle.sctp_delivery.proofs.Every.{Every, every-inserted, every-joined, every-left, every-taken}
use Rattle.sctp_reassembly.proofs.lemmas.reassembly_queue.TakenRuns.{flag_after_take}
use Rattle.sctp_delivery.proofs.Rising.{Ascend, IsPlaced, ascend-cut, ascend-inserted, ascend-serial}

-- ## Numbers by their index

-- the number of a set is that of an index from the lowest one on and below the top
abbrev pub IsAt : ℕ → ℕ → ℕ → ChunkSet → Type 0
IsAt low top k s = (low ≤ k) × (k < top) × (s.ssn ≡ k % 2 ^ 16)

none-after : (b c : Bool) → (b || c) ≡ false → c ≡ false
none-after true c e = absurd (not_both (sym e))
none-after false c e = e

pub strictly : (j k : ℕ) → j ≤ k → (k ≡ j → ⊥) → j < k
strictly j k le differ = elim (cases_lt j k) [ inl lt ↦ lt | inr ge ↦ absurd (differ (omega (arith, le, ge))) ]

module _ (Fits : ℕ → List ChunkPayloadData → Type 0) where
  -- from set to set the index rises, and the chunks of each are of its message
  abbrev pub AreSets : ℕ → ℕ → List ChunkSet → Type 0
  AreSets low top [] = ⊤
  AreSets low top (s ∷ ss) = (k : ℕ) × (IsAt low top k s × Fits k s.chunks) × AreSets (k + 1) top ss

  sets-from : (a b top : ℕ) (ss : List ChunkSet) → b ≤ a → AreSets a top ss → AreSets b top ss
  sets-from a b top [] le r = tt
  sets-from a b top (s ∷ ss) le r = let x = r.1.0.0 in (r.0, ((omega (arith, x, le), r.1.0.1, r.1.0.2), r.1.1), r.2)

  pub sets-to : (low a b : ℕ) (ss : List ChunkSet) → a ≤ b → AreSets low a ss → AreSets low b ss
  sets-to low a b [] le r = tt
  sets-to low a b (s ∷ ss) le r = let x = r.1.0.1 in (r.0, ((r.1.0.0, omega (arith, x, le), r.1.0.2), r.1.1), sets-to (r.0 + 1) a b ss le r.2)

  pub sets-those : (p : ChunkSet → Bool) (low top : ℕ) (ss : List ChunkSet) → AreSets low top ss → AreSets low top (filter p ss)
  sets-those p low top [] r = tt
  sets-those p low top (s ∷ ss) r = grind (arith, nat_tests, common_steps, sets-from, sets-those p (r.0 + 1) top ss r.2)

  module _ (x : ChunkPayloadData) (i : ℕ) (single : Fits i (x ∷ []))
      (put : (cs : List ChunkPayloadData) → list_any (has_tsn x.tsn) cs ≡ false → Fits i cs → Fits i (insert_before chunk_before x cs))
      (is : x.stream_sequence_number ≡ i % 2 ^ 16) where
    with-of : (s : ChunkSet) → Fits i s.chunks → Fits i (with_chunk x s).chunks
    with-of s h = at-if (Fits i) (list_any (has_tsn x.tsn) s.chunks) (λ e. h) (λ e. put s.chunks e h)

    sets-changed : (base low top : ℕ) (ss : List ChunkSet) → base ≤ low → base ≤ i → i < top → top ≤ base + 2 ^ 15 → AreSets low top ss
        → AreSets low top (change_first (has_ssn x.stream_sequence_number) (with_chunk x) ss)
    sets-changed base low top [] at le lt far r = tt
    sets-changed base low top (s ∷ ss) at le lt far r =
        grind (arith, nat_tests, common_steps, same-is, with-of, sets-changed base (r.0 + 1) top ss (omega (arith, at)) le lt far r.2)

    sets-inserted : (low top : ℕ) (ss : List ChunkSet) → top ≤ low + 2 ^ 15 → low ≤ i → i < top
        → list_any (has_ssn x.stream_sequence_number) ss ≡ false → AreSets low top ss → AreSets low top (insert_before set_before (new_set x) ss)
    sets-inserted low top [] near le lt none r = (i, ((le, lt, is), single), tt)
    sets-inserted low top (s ∷ ss) near le lt none r = at-if (AreSets low top) (set_before (new_set x) s)
        (λ e.
        let less : i < j = grind (arith, nat_tests, sym order ∙ e) in
        (i, ((le, lt, is), single), (j, ((omega (arith, less), r.1.0.1, r.1.0.2), r.1.1), r.2)))
        (λ e.
        let ge : j ≤ i = grind (arith, nat_tests, sym order ∙ e) in (
          j,
          r.1,
          sets-inserted (r.0 + 1) top ss (omega (arith, near)) (omega (arith, strictly j i ge other)) lt
              (none-after (s.ssn == x.stream_sequence_number) (list_any (has_ssn x.stream_sequence_number) ss) none) r.2,
        ))
      where
        j : ℕ
        j = r.0

        order : set_before (new_set x) s ≡ nat_lt i j
        order = cc (is, r.1.0.2, comes_before16-index i j (omega (arith, le, lt, near)) (omega (arith, le, lt, near)))

        other : i ≡ j → ⊥
        other e = grind (arith, nat_tests, common_steps)

    pub put-sets : (low top : ℕ) (ss : List ChunkSet) → low ≤ i → i < top → top ≤ low + 2 ^ 15 → AreSets low top ss → AreSets low top (sets_with x ss)
    put-sets low top ss le lt far r = grind (arith, nat_tests, common_steps, sets-changed, sets-inserted)

-- where nothing is said of the chunks
abbrev pub Rise : ℕ → ℕ → List ChunkSet → Type 0
Rise = AreSets (λ i cs. ⊤)

-- so many messages were read, and each set is of one that is still to be read, less than half the circle on
pub record IsInTurn (q : Reassembly) : Type 0 where
  pub index : ℕ
  pub next : q.next_ssn ≡ index % 2 ^ 16
  pub rise : Rise index (index + 2 ^ 15) q.ordered

-- ## A fragment comes

-- where it is not too far on, it is of such an index
pub record IsNear (i ssn : ℕ) : Type 0 where
  pub place : ℕ
  pub low : i ≤ place
  pub top : place < i + 2 ^ 15
  pub is : ssn ≡ place % 2 ^ 16

lowest-is : (i : ℕ) (ss : List ChunkSet) → Rise i (i + 2 ^ 15) ss → lowest_among (i % 2 ^ 16) ss ≡ i % 2 ^ 16
lowest-is h0 h1 h2 = grind (arith, nat_tests, common_steps, at_or_before16-index)

index-of : (i ssn : ℕ) → ssn < 2 ^ 16 → distance16 (i % 2 ^ 16) ssn < 2 ^ 15 → IsNear i ssn
unfolding distance16
index-of i ssn small near = record { place = i + distance16 (i % 2 ^ 16) ssn; low = omega arith; top = omega (arith, near); is = omega (arith, small) }

pub near-of : (ssn : ℕ) (q : Reassembly) → ssn < 2 ^ 16 → (t : IsInTurn q) → is_ssn_too_far ssn q ≡ false → IsNear t.index ssn
near-of ssn q small t e = grind (arith, nat_tests, common_steps, lowest-is, index-of)

-- it does not come before the next number
pub not-before : (i ssn next : ℕ) → next ≡ i % 2 ^ 16 → IsNear i ssn → comes_before16 ssn next ≡ false
not-before i ssn next e n = grind (arith, nat_tests, common_steps, comes_before16-index)

-- it is put in
pub put-in : (x : ChunkPayloadData) (q : Reassembly) (t : IsInTurn q) → IsNear t.index x.stream_sequence_number
    → held_after_ordered_push x q ≡ record q { ordered = sets_with x q.ordered }
put-in x q t n = ap (λ b. if b then q else record q { ordered = sets_with x q.ordered }) (not-before t.index x.stream_sequence_number q.next_ssn t.next n)

pub put-in-turn : (x : ChunkPayloadData) (q : Reassembly) (t : IsInTurn q) → IsNear t.index x.stream_sequence_number → IsInTurn (held_after_ordered_push x q)
put-in-turn x q t n = grind (arith, nat_tests, common_steps, put-in, put-sets)

-- ## What it weighs

module _ (w : ChunkPayloadData → ℕ) (x : ChunkPayloadData) where
  chunk-more : (s : ChunkSet) → list_any (has_tsn x.tsn) s.chunks ≡ false → set_weight w (with_chunk x s) ≡ set_weight w s + w x
  chunk-more s e = grind (arith, nat_tests, common_steps, sum_by-inserted w chunk_before x s.chunks)

  first-more : (p : ChunkSet → Bool) (ss : List ChunkSet) → list_any p ss ≡ true → Every (λ (s : ChunkSet). list_any (has_tsn x.tsn) s.chunks ≡ false) ss
      → sum_by (set_weight w) (change_first p (with_chunk x) ss) ≡ sum_by (set_weight w) ss + w x
  first-more p [] e h = absurd (not_both e)
  first-more p (s ∷ ss) e h = by (p s) e (λ f. first-more p ss f h.1)
    where
      by : (b : Bool) → (b || list_any p ss) ≡ true → (list_any p ss ≡ true
          → sum_by (set_weight w) (change_first p (with_chunk x) ss) ≡ sum_by (set_weight w) ss + w x)
          → sum_by (set_weight w) (if b then with_chunk x s ∷ ss else s ∷ change_first p (with_chunk x) ss) ≡ sum_by (set_weight w) (s ∷ ss) + w x
      by h0 h1 h2 = grind (arith, nat_tests, common_steps, sum_by-cons, chunk-more)

  pub sets-more : (ss : List ChunkSet) → Every (λ (s : ChunkSet). list_any (has_tsn x.tsn) s.chunks ≡ false) ss
      → sum_by (set_weight w) (sets_with x ss) ≡ sum_by (set_weight w) ss + w x
  sets-more ss h = grind (arith, nat_tests, common_steps, first-more, sum_by-inserted, sum_by-cons)

-- ## A message is read

module _ (q : Reassembly) where
  -- without the front set, whose number is the next one or not
  abbrev pub without_front : Bool → List ChunkSet → Reassembly
  without_front b ss = record q { ordered = ss; next_ssn = (if b then (q.next_ssn + 1) % 2 ^ 16 else q.next_ssn) }

  -- Q of what is read and what is left: nothing is read, or the front set
  pub front-read : (Q : Option ChunkSet → Reassembly → Type 0) → Q None q
      → ((s : ChunkSet) (ss : List ChunkSet) → q.ordered ≡ s ∷ ss → is_readable q.next_ssn s ≡ true → (b : Bool) → (s.ssn == q.next_ssn) ≡ b
      → Q (Some s) (without_front b ss))
      → Q (front_readable q.next_ssn q.ordered) (after_read (front_readable q.next_ssn q.ordered) q)
  front-read Q none read = grind (arith, nat_tests, common_steps)

front-turn : (q : Reassembly) → IsInTurn q → IsInTurn (after_read (front_readable q.next_ssn q.ordered) q)
front-turn q t = grind (arith, front-read, at_or_before16-index, next16, sets-to, not_both, same-yes)

pub read-in-turn : (q : Reassembly) → IsInTurn q → IsInTurn (rest_read q)
read-in-turn q t = grind (arith, nat_tests, common_steps, front-turn)

-- # What a receiver holds stands in order: ordered fragments by TSNs in each set, and unordered ones, of which no
-- message is whole.

abbrev pub IsOrdered : ChunkPayloadData → Type 0
IsOrdered c = c.unordered ≡ false

abbrev pub IsUnordered : ChunkPayloadData → Type 0
IsUnordered c = c.unordered ≡ true

-- none but the first begins a message
abbrev pub OnlyFirst : List ChunkPayloadData → Type 0
OnlyFirst [] = ⊤
OnlyFirst (c ∷ cs) = Every (λ (d : ChunkPayloadData). d.beginning_fragment ≡ false) cs

abbrev pub IsTidySet : ℕ → ℕ → ChunkSet → Type 0
IsTidySet p n s = Ascend p n 0 s.chunks × Every IsOrdered s.chunks

abbrev pub IsWhole : ChunkSet → Type 0
IsWhole s = Every IsUnordered s.chunks

-- a chunk with the TSN of a place
abbrev pub IsFit : ℕ → ℕ → ChunkPayloadData → Type 0
IsFit p n c = (k : ℕ) × IsPlaced p n 0 k c

-- the unordered ones
pub record IsUnorderedTidy (p n : ℕ) (q : Reassembly) : Type 0 where
  pub whole : Every IsWhole q.unordered
  pub unassembled : Ascend p n 0 q.unassembled
  pub kinds : Every IsUnordered q.unassembled
  pub none : HasNoRun q.unassembled

pub record IsTidy (p n : ℕ) (q : Reassembly) : Type 0 where
  pub sets : Every (IsTidySet p n) q.ordered
  pub rest : IsUnorderedTidy p n q

-- ## A fragment comes

pub every-first : {A : Type 0} (P : A → Type 0) (p : A → Bool) (f : A → A) (xs : List A) → Every (λ x. P x × (p x ≡ true → P (f x))) xs
    → Every P (change_first p f xs)
every-first P p f [] e = tt
every-first P p f (x ∷ xs) e = at-if (Every P) (p x) (λ h. (e.0.1 h, heads xs e.1)) (λ h. (e.0.0, every-first P p f xs e.1))
  where
    heads : (ys : List _) → Every (λ y. P y × (p y ≡ true → P (f y))) ys → Every P ys
    heads [] h = tt
    heads (y ∷ ys) h = (h.0.0, heads ys h.1)

-- of the sets of ordered messages: an unordered fragment leaves them, and an ordered one is put in or dropped
pub pushed-sets : (Q : List ChunkSet → Type 0) (x : ChunkPayloadData) (answered : Bool) (old new : ReassemblyState) → Pushes x answered old new
    → (x.unordered ≡ false → Q (sets_with x old.held.ordered)) → Q old.held.ordered → Q new.held.ordered
pushed-sets Q x answered old new p put e = grind (arith, nat_tests, common_steps)

pub read-sets : (P : ChunkSet → Type 0) (q : Reassembly) → Every P q.ordered → Every P (rest_read q).ordered
read-sets P q e = grind (arith, nat_tests, common_steps)

module _ (p n : ℕ) (few : n < 2 ^ 31) where
  module _ (x : ChunkPayloadData) (k : ℕ) (at : IsPlaced p n 0 k x) where
    put : (s : ChunkSet) → IsOrdered x → list_any (has_tsn x.tsn) s.chunks ≡ false → IsTidySet p n s → IsTidySet p n (with_chunk x s)
    put s kind fresh t = grind (arith, nat_tests, common_steps, ascend-inserted, every-inserted)

    puts : IsOrdered x → (ss : List ChunkSet) → Every (λ (s : ChunkSet). list_any (has_tsn x.tsn) s.chunks ≡ false) ss
        → Every (IsTidySet p n) ss → Every (λ s. IsTidySet p n s × (has_ssn x.stream_sequence_number s ≡ true → IsTidySet p n (with_chunk x s))) ss
    puts kind [] fresh t = tt
    puts kind (s ∷ ss) fresh t = ((t.0, λ h. put s kind fresh.0 t.0), puts kind ss fresh.1 t.1)

    pub sets-tidy : IsOrdered x → (ss : List ChunkSet) → Every (λ (s : ChunkSet). list_any (has_tsn x.tsn) s.chunks ≡ false) ss
        → Every (IsTidySet p n) ss → Every (IsTidySet p n) (sets_with x ss)
    sets-tidy kind ss fresh t = grind (arith, nat_tests, common_steps, every-first, puts, every-inserted)

    -- where it is put in
    inserted-place : (xs : List ChunkPayloadData) → (i : ℕ) × (i < length (insert_before chunk_before x xs))
        × (remove (insert_before chunk_before x xs) i ≡ xs)
    inserted-place [] = (0, omega arith, refl)
    inserted-place (y ∷ ys) = by (chunk_before x y) (inserted-place ys)
      where
        by : (b : Bool) → (i : ℕ) × (i < length (insert_before chunk_before x ys)) × (remove (insert_before chunk_before x ys) i ≡ ys)
            → (i : ℕ) × (i < length (if b then x ∷ y ∷ ys else y ∷ insert_before chunk_before x ys))
            × (remove (if b then x ∷ y ∷ ys else y ∷ insert_before chunk_before x ys) i ≡ y ∷ ys)
        by true ih = (0, omega arith, refl)
        by false ih = let lt = ih.1 in (suc ih.0, omega (arith, lt), ap (λ zs. y ∷ zs) ih.2)

    run-set : (xs : List ChunkPayloadData) → Every IsUnordered xs → IsWhole (set_of_run xs)
    run-set [] e = tt
    run-set (y ∷ ys) e = e

    unassembled-rest : (old new : Reassembly) (answered : Bool) → x.unordered ≡ true → list_any (has_tsn x.tsn) old.unassembled ≡ false
        → BecomesComplete (insert_before chunk_before x old.unassembled) old new answered → IsUnorderedTidy p n old → IsUnorderedTidy p n new
    unassembled-rest old new false u fresh b t = subst (IsUnorderedTidy p n) (sym b.1) (record {
      whole = t.whole;
      unassembled = ascend-inserted p n few 0 k x old.unassembled at fresh t.unassembled;
      kinds = every-inserted IsUnordered chunk_before x old.unassembled u t.kinds;
      none = b.0;
    })
    unassembled-rest old new true u fresh b t =
        let xs = insert_before chunk_before x old.unassembled in
        let i = inserted-place old.unassembled in
        let up = ascend-inserted p n few 0 k x old.unassembled at fresh t.unassembled in
        let kinds = every-inserted IsUnordered chunk_before x old.unassembled u t.kinds in
        subst (IsUnorderedTidy p n) (sym b.moved) (record {
          whole = every-joined IsWhole old.unordered (set_of_run (take b.count (drop b.first xs)) ∷ []) t.whole
              (run-set (take b.count (drop b.first xs)) (every-taken IsUnordered b.count (drop b.first xs) (every-left IsUnordered b.first xs kinds)), tt);
          unassembled = ascend-cut p n few 0 b.first b.count xs up;
          kinds = every-joined IsUnordered (take b.first xs) (drop (b.first + b.count) xs) (every-taken IsUnordered b.first xs kinds)
              (every-left IsUnordered (b.first + b.count) xs kinds);
          none = flag_after_take true true xs i.0 b.first b.count i.1 (subst HasNoRun (sym i.2) t.none) (ascend-serial p n few 0 xs up) b.run.run;
        })

    pub pushed-rest : (answered : Bool) (old new : ReassemblyState) → Pushes x answered old new
        → (x.unordered ≡ true → list_any (has_tsn x.tsn) old.held.unassembled ≡ false) → IsUnorderedTidy p n old.held → IsUnorderedTidy p n new.held
    pushed-rest answered old new h none y = at-test (λ b. PushesAs b x answered old new → IsUnorderedTidy p n new.held) x.unordered
        (λ u e. unassembled-rest old.held new.held answered u (none u) e.0 y)
        (λ u e. subst (λ (q : ReassemblyState). IsUnorderedTidy p n q.held) (sym e.0)
        (at-if (IsUnorderedTidy p n) (comes_before16 x.stream_sequence_number old.held.next_ssn) (λ _. y)
        (λ _. record { whole = y.whole; unassembled = y.unassembled; kinds = y.kinds; none = y.none }))) h

    pub pushed-tidy : (answered : Bool) (old new : ReassemblyState) → Pushes x answered old new
        → Every (λ (s : ChunkSet). list_any (has_tsn x.tsn) s.chunks ≡ false) old.held.ordered → list_any (has_tsn x.tsn) old.held.unassembled ≡ false
        → IsTidy p n old.held → IsTidy p n new.held
    pushed-tidy answered old new h fresh none y = grind (arith, nat_tests, common_steps, pushed-sets, sets-tidy, pushed-rest)

  -- ## A message is read

  pub read-rest : (q : Reassembly) → IsUnorderedTidy p n q → IsUnorderedTidy p n (rest_read q)
  read-rest q t = by q.unordered refl
    where
      front : (o : Option ChunkSet) → IsUnorderedTidy p n (after_read o q)
      front None = t
      front (Some s) = record { whole = t.whole; unassembled = t.unassembled; kinds = t.kinds; none = t.none }

      by : (us : List ChunkSet) → q.unordered ≡ us → IsUnorderedTidy p n (rest_among us q)
      by [] e = front (front_readable q.next_ssn q.ordered)
      by (u ∷ us) e = record { whole = (subst (Every IsWhole) e t.whole).1; unassembled = t.unassembled; kinds = t.kinds; none = t.none }

  pub read-tidy : (q : Reassembly) → IsTidy p n q → IsTidy p n (rest_read q)
  read-tidy q t = record { sets = read-sets (IsTidySet p n) q t.sets; rest = read-rest q t.rest }
