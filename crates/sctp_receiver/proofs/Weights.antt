-- What the fragments of a reassembly queue weigh, and what its calls make of that.
use Rattle.sctp_receiver.proofs.Names.{◌≡◌, ℕ, zero, suc, ◌+◌, ◌≤◌, Bool, true, false, List, [], ◌∷◌, take, drop, Option, Some, None, refl, ap, sym, ◌∙◌, arith}
use Rattle.sctp_receiver.proofs.Names.{not, if◌then◌else◌, list_any, sum_by, filter, sum_by-cons, sum_by-append, take-append-drop, insert_before, change_first}
use Rattle.sctp_receiver.proofs.Names.{after_leading, at_or_before, comes_before16, ChunkPayloadData, ChunkSet, has_tsn, chunk_before, has_ssn, with_chunk}
use Rattle.sctp_receiver.proofs.Names.{new_set, sets_with, set_before, Reassembly, ReassemblyState, held_after_ordered_push, set_of_run, TakesRun}
use Rattle.sctp_receiver.proofs.Names.{BecomesComplete, is_readable, front_readable, without_first, after_read, message_among, message_read, rest_among}
use Rattle.sctp_receiver.proofs.Names.{rest_read, is_passed, after_ordered_skip, after_unordered_skip, is_old_message, cannot_complete, Pushes, PushesAs}
use Rattle.sctp_util.proofs.Edits.{sum_by-inserted}
use Rattle.sctp_reassembly.specs.reassembly_queue.Resets.{after_reset}
use Rattle.sctp_reassembly.specs.reassembly_queue.Skips.{after_incomplete_skip}
use Rattle.sctp_reassembly.proofs.lemmas.reassembly_queue.Resets.{reset_weight}

module _ (w : ChunkPayloadData → ℕ) where
  abbrev pub set_weight : ChunkSet → ℕ
  set_weight set = sum_by w set.chunks

  -- of all that is held
  abbrev pub weight : Reassembly → ℕ
  weight q = sum_by set_weight q.ordered + sum_by set_weight q.unordered + sum_by w q.unassembled

  -- of a message, if there is one
  abbrev pub message_weight : Option ChunkSet → ℕ
  message_weight None = 0
  message_weight (Some set) = set_weight set

  -- ## A fragment comes

  chunk-put : (x : ChunkPayloadData) (set : ChunkSet) → set_weight (with_chunk x set) ≤ set_weight set + w x
  chunk-put x set = by (list_any (has_tsn x.tsn) set.chunks)
    where
      by : (b : Bool) → sum_by w (if b then set.chunks else insert_before chunk_before x set.chunks) ≤ sum_by w set.chunks + w x
      by true = omega arith
      by false = let e = sum_by-inserted w chunk_before x set.chunks in omega arith

  first-changed : (p : ChunkSet → Bool) (f : ChunkSet → ChunkSet) (n : ℕ) → ((set : ChunkSet) → set_weight (f set) ≤ set_weight set + n)
      → (sets : List ChunkSet) → sum_by set_weight (change_first p f sets) ≤ sum_by set_weight sets + n
  first-changed p f n more [] = omega arith
  first-changed p f n more (s ∷ sets) = by (p s) (first-changed p f n more sets)
    where
      by : (b : Bool) → sum_by set_weight (change_first p f sets) ≤ sum_by set_weight sets + n
          → sum_by set_weight (if b then f s ∷ sets else s ∷ change_first p f sets) ≤ sum_by set_weight (s ∷ sets) + n
      by true ih = let a = sum_by-cons set_weight (f s) sets in let b = sum_by-cons set_weight s sets in let m = more s in omega arith
      by false ih = let a = sum_by-cons set_weight s (change_first p f sets) in let b = sum_by-cons set_weight s sets in omega arith

  one-chunk : (x : ChunkPayloadData) → sum_by w (x ∷ []) ≡ w x
  one-chunk x = let e = sum_by-cons w x [] in omega arith

  put-ordered : (x : ChunkPayloadData) (sets : List ChunkSet) → sum_by set_weight (sets_with x sets) ≤ sum_by set_weight sets + w x
  put-ordered x sets = by (list_any (has_ssn x.stream_sequence_number) sets)
    where
      by : (b : Bool) → sum_by set_weight (if b then change_first (has_ssn x.stream_sequence_number) (with_chunk x) sets
          else insert_before set_before (new_set x) sets) ≤ sum_by set_weight sets + w x
      by true = first-changed (has_ssn x.stream_sequence_number) (with_chunk x) (w x) (chunk-put x) sets
      by false = let e = sum_by-inserted set_weight set_before (new_set x) sets in let o = one-chunk x in omega arith

  pushed-in-order : (x : ChunkPayloadData) (q : Reassembly) → weight (held_after_ordered_push x q) ≤ weight q + w x
  pushed-in-order x q = by (comes_before16 x.stream_sequence_number q.next_ssn)
    where
      by : (b : Bool) → weight (if b then q else record q { ordered = sets_with x q.ordered }) ≤ weight q + w x
      by true = omega arith
      by false = let h = put-ordered x q.ordered in omega arith

  run-chunks : (xs : List ChunkPayloadData) → set_weight (set_of_run xs) ≡ sum_by w xs
  run-chunks [] = refl
  run-chunks (x ∷ xs) = refl

  split : {A : Type 0} (f : A → ℕ) (n : ℕ) (xs : List A) → sum_by f (take n xs) + sum_by f (drop n xs) ≡ sum_by f xs
  split f n xs = sym (sum_by-append f (take n xs) (drop n xs)) ∙ ap (sum_by f) (take-append-drop n xs)

  dropped : {A : Type 0} (m n : ℕ) (xs : List A) → drop n (drop m xs) ≡ drop (m + n) xs
  dropped zero n xs = ap (λ k. drop k xs) {x = n} {y = 0 + n} (omega arith)
  dropped (suc m) n [] = nothing n ∙ sym (nothing (suc m + n))
    where
      nothing : {A : Type 0} (k : ℕ) → drop {A = A} k [] ≡ []
      nothing zero = refl
      nothing (suc k) = refl
  dropped (suc m) n (x ∷ xs) = dropped m n xs ∙ ap (λ k. drop k (x ∷ xs)) {x = suc (m + n)} {y = suc m + n} (omega arith)

  run-taken : (xs : List ChunkPayloadData) (old new : Reassembly) → TakesRun xs old new
      → weight new ≡ sum_by set_weight old.ordered + sum_by set_weight old.unordered + sum_by w xs
  run-taken xs old new t =
      let run = take t.count (drop t.first xs) in
      let a = sum_by-append w (take t.first xs) (drop (t.first + t.count) xs) in
      let b = sum_by-append set_weight old.unordered (set_of_run run ∷ []) in
      let d = sum_by-cons set_weight (set_of_run run) [] in
      let e = run-chunks run in
      let f = split w t.first xs in
      let g : sum_by w (take t.count (drop t.first xs)) + sum_by w (drop t.count (drop t.first xs)) ≡ sum_by w (drop t.first xs) =
      split w t.count (drop t.first xs) in
      let h = ap (sum_by w) (dropped t.first t.count xs) in
      ap weight t.moved ∙ omega arith

  pub becomes : (xs : List ChunkPayloadData) (old new : Reassembly) (complete : Bool) → BecomesComplete xs old new complete
      → weight new ≡ sum_by set_weight old.ordered + sum_by set_weight old.unordered + sum_by w xs
  becomes xs old new true t = run-taken xs old new t
  becomes xs old new false t = ap weight t.1

  pub pushed : (x : ChunkPayloadData) (complete : Bool) (old new : ReassemblyState) → Pushes x complete old new → weight new.held ≤ weight old.held + w x
  pushed x complete old new p = by x.unordered p
    where
      by : (b : Bool) → PushesAs b x complete old new → weight new.held ≤ weight old.held + w x
      by false e = let h = pushed-in-order x old.held in let is = ap (λ (q : ReassemblyState). weight q.held) e.0 in omega arith
      by true e = let h = becomes (insert_before chunk_before x old.held.unassembled) old.held new.held complete e.0 in
          let more = sum_by-inserted w chunk_before x old.held.unassembled in omega arith

  -- ## A message is read

  front-out : (next : ℕ) (q : Reassembly) → message_weight (front_readable next q.ordered) + weight (after_read (front_readable next q.ordered) q) ≡ weight q
  front-out next q = by q.ordered refl
    where
      by : (sets : List ChunkSet) → q.ordered ≡ sets → message_weight (front_readable next sets) + weight (after_read (front_readable next sets) q) ≡ weight q
      by [] e = omega arith
      by (s ∷ sets) e = at (is_readable next s)
        where
          at : (b : Bool) → message_weight (if b then Some s else None) + weight (after_read (if b then Some s else None) q) ≡ weight q
          at true = let a = sum_by-cons set_weight s sets in let was = ap (sum_by set_weight) e in let now = ap (λ o. sum_by set_weight (without_first o)) e in
              omega arith
          at false = omega arith

  pub read : (q : Reassembly) → message_weight (message_read q) + weight (rest_read q) ≡ weight q
  read q = by q.unordered refl
    where
      by : (us : List ChunkSet) → q.unordered ≡ us → message_weight (message_among us q) + weight (rest_among us q) ≡ weight q
      by [] e = front-out q.next_ssn q
      by (u ∷ us) e = let a = sum_by-cons set_weight u us in let was = ap (sum_by set_weight) e in omega arith

  -- ## A FORWARD-TSN comes

  pub fewer : {A : Type 0} (f : A → ℕ) (p : A → Bool) (xs : List A) → sum_by f (filter p xs) ≤ sum_by f xs
  fewer f p [] = omega arith
  fewer f p (x ∷ xs) = by (p x) (fewer f p xs)
    where
      by : (b : Bool) → sum_by f (filter p xs) ≤ sum_by f xs → sum_by f (if b then x ∷ filter p xs else filter p xs) ≤ sum_by f (x ∷ xs)
      by true ih = let a = sum_by-cons f x (filter p xs) in let b = sum_by-cons f x xs in omega arith
      by false ih = let b = sum_by-cons f x xs in omega arith

  later : {A : Type 0} (f : A → ℕ) (p : A → Bool) (xs : List A) → sum_by f (after_leading p xs) ≤ sum_by f xs
  later f p [] = omega arith
  later f p (x ∷ xs) = by (p x) (later f p xs)
    where
      by : (b : Bool) → sum_by f (after_leading p xs) ≤ sum_by f xs → sum_by f (if b then after_leading p xs else x ∷ xs) ≤ sum_by f (x ∷ xs)
      by true ih = let b = sum_by-cons f x xs in omega arith
      by false ih = omega arith

  pub named : (ssn : ℕ) (q : ReassemblyState) → weight (after_ordered_skip ssn q).held ≤ weight q.held
  named ssn q = let h = fewer set_weight (λ set. not (is_passed ssn set)) q.held.ordered in omega arith

  pub unassembled : (tsn : ℕ) (q : ReassemblyState) → weight (after_unordered_skip tsn q).held ≤ weight q.held
  unassembled tsn q = let h = later w (λ x. at_or_before x.tsn tsn) q.held.unassembled in omega arith

  pub incomplete : (tsn : ℕ) (q : ReassemblyState) → weight (after_incomplete_skip tsn q).held ≤ weight q.held
  incomplete tsn q = let h = fewer set_weight (λ set. not (cannot_complete tsn set)) q.held.ordered in omega arith

  -- ## A stream is reset

  pub reset : (last : ℕ) (q : ReassemblyState) → weight (after_reset last q).held ≤ weight q.held
  reset last q =
      let h = reset_weight last w q.held.ordered in
      let e = sum_by-append set_weight q.held.unordered (filter (is_old_message last) q.held.ordered) in
      omega arith
