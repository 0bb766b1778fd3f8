-- The message in front.
use Rattle.std.proofs.Common.{◌≡◌, ◌==◌, ℕ, zero, suc, ◌+◌, ◌<◌, ◌≤◌, nat_lt, Bool, true, false, not, ◌||◌, if◌then◌else◌, List, [], ◌∷◌, length, get_or, refl}
use Rattle.std.proofs.Common.{sym}
use Rattle.std.proofs.Common.{◌++◌, Option, Some, None, option_to_list, ap, ◌∙◌, subst, arith}
use Rattle.std.specs.List.{list_any, filter}
use Rattle.std.proofs.lemmas.Bool.{false≢true}
use Rattle.std.proofs.lemmas.Bool.Decides.{nat_tests}
use Rattle.sctp_data.specs.declared.chunk.chunk_payload_data.ChunkPayloadData.{ChunkPayloadData}
use Rattle.sctp_util.proofs.More.{fails}
use Rattle.sctp_outbound.specs.declared.pending_queue.Selected.{Selected}
use Rattle.sctp_outbound.specs.Marks.{is_of}
use Rattle.sctp_outbound.specs.pending_queue.PendingQueue.{last_of, without_message}
use Rattle.sctp_outbound.specs.pending_queue.Whole.{Stage, free, begun, IsWhole, begins_with, ends, has_end, stage_of, stand_in_front, until_end}
use Rattle.sctp_outbound.proofs.lemmas.pending_queue.CompleteMessages.{none_before, numbers_from}

not_of : (b : Bool) → not b ≡ true → b ≡ false
not_of false h = refl
not_of true h = absurd (false≢true h)

pub last_alone : (o : Option ChunkPayloadData) → last_of (option_to_list o ++ []) ≡ o
last_alone None = refl
last_alone (Some c) = refl

module _ (m : ℕ) where
  -- where none is of the message, its removal leaves all
  without_none : (xs : List ChunkPayloadData) → list_any (is_of m) xs ≡ false → without_message m xs ≡ xs
  without_none [] h = refl
  without_none (c ∷ cs) h = step (is_of m c) h (without_none cs)
    where
      step : (b : Bool) → (b || list_any (is_of m) cs) ≡ false → (list_any (is_of m) cs ≡ false → without_message m cs ≡ cs)
          → (if not b then c ∷ without_message m cs else without_message m cs) ≡ c ∷ cs
      step true h ih = cc
      step false h ih = ap (λ ys. c ∷ ys) (ih h)

  those_none : (xs : List ChunkPayloadData) → list_any (is_of m) xs ≡ false → filter (is_of m) xs ≡ []
  those_none [] h = refl
  those_none (c ∷ cs) h = step (is_of m c) h (those_none cs)
    where
      step : (b : Bool) → (b || list_any (is_of m) cs) ≡ false → (list_any (is_of m) cs ≡ false → filter (is_of m) cs ≡ [])
          → (if b then c ∷ filter (is_of m) cs else filter (is_of m) cs) ≡ []
      step true h ih = cc
      step false h ih = ih h

  -- a list in front of which the message does not stand has none of it
  none_there : (xs : List ChunkPayloadData) → stand_in_front m xs ≡ true → begins_with m xs ≡ false → list_any (is_of m) xs ≡ false
  none_there [] h b = refl
  none_there (c ∷ cs) h b = step (is_of m c) b h
    where
      step : (b : Bool) → b ≡ false → (if b then stand_in_front m cs else not (list_any (is_of m) cs)) ≡ true
          → (b || list_any (is_of m) cs) ≡ false
      step true e h = cc
      step false e h = not_of (list_any (is_of m) cs) h

  pub stays_without : (xs : List ChunkPayloadData) → stand_in_front m xs ≡ true → begins_with m xs ≡ false → without_message m xs ≡ xs
  stays_without xs h b = without_none xs (none_there xs h b)

  pub no_more_of : (xs : List ChunkPayloadData) → stand_in_front m xs ≡ true → begins_with m xs ≡ false → filter (is_of m) xs ≡ []
  no_more_of xs h b = those_none xs (none_there xs h b)

  -- where it does, the next one may
  pub stand_next : (c : ChunkPayloadData) (cs : List ChunkPayloadData) → is_of m c ≡ true → stand_in_front m (c ∷ cs) ≡ stand_in_front m cs
  stand_next c cs e = rw e refl

  pub none_stands : (xs : List ChunkPayloadData) → list_any (is_of m) xs ≡ false → stand_in_front m xs ≡ true
  none_stands [] h = refl
  none_stands (c ∷ cs) h = step (is_of m c) h
    where
      step : (b : Bool) → (b || list_any (is_of m) cs) ≡ false
          → (if b then stand_in_front m cs else not (list_any (is_of m) cs)) ≡ true
      step true h = cc
      step false h = ap not h

-- ## Complete messages

-- what follows the front chunk of a message
rest_stands : (kind : Bool) (n m : ℕ) (xs : List ChunkPayloadData) (b : Bool) → IsWhole kind n (if b then free (m + 1) else begun m) xs
    → stand_in_front m xs ≡ true
rest_stands kind n m xs true w = none_stands m xs (none_before kind n m (free (m + 1)) xs (omega arith) w)
rest_stands kind n m [] false w = refl
rest_stands kind n m (c ∷ cs) false w =
    let it : is_of m c ≡ true = grind (arith, nat_tests, w.0.1) in
    stand_next m c cs it
    ∙ rest_stands kind n m cs c.ending_fragment (subst (λ k. IsWhole kind n (if c.ending_fragment then free (k + 1) else begun k) cs) w.0.1 w.3)

-- the message of the first chunk
pub front_stands : (kind : Bool) (n : ℕ) (stage : Stage) (c : ChunkPayloadData) (cs : List ChunkPayloadData) → IsWhole kind n stage (c ∷ cs)
    → stand_in_front c.message_id (c ∷ cs) ≡ true
front_stands kind n (free least) c cs w =
    let it : is_of c.message_id c ≡ true = grind (arith, nat_tests) in
    stand_next c.message_id c cs it ∙ rest_stands kind n c.message_id cs c.ending_fragment w.3
front_stands kind n (begun m) c cs w =
    let it : is_of c.message_id c ≡ true = grind (arith, nat_tests) in
    stand_next c.message_id c cs it ∙ rest_stands kind n c.message_id cs c.ending_fragment w.3

-- the rest of a message is in front, up to its end
pub of_message : (kind : Bool) (n m : ℕ) (xs : List ChunkPayloadData) (k : ℕ) (d : ChunkPayloadData) → IsWhole kind n (begun m) xs → k < length xs
    → ((get_or xs k d).message_id == m) ≡ nat_lt k (until_end xs)
of_message kind n m [] k d w lt = absurd (omega (arith, lt))
of_message kind n m (c ∷ cs) zero d w lt = step c.ending_fragment
  where
    step : (b : Bool) → (c.message_id == m) ≡ nat_lt 0 (if b then 1 else until_end cs + 1)
    step true = grind (arith, nat_tests, w.0.1)
    step false = grind (arith, nat_tests, w.0.1)
of_message kind n m (c ∷ cs) (suc k) d w lt =
    step c.ending_fragment (subst (λ j. IsWhole kind n (if c.ending_fragment then free (j + 1) else begun j) cs) w.0.1 w.3)
    (λ v. of_message kind n m cs k d v (omega (arith, lt)))
  where
    step : (b : Bool) → IsWhole kind n (if b then free (m + 1) else begun m) cs
        → (IsWhole kind n (begun m) cs → ((get_or cs k d).message_id == m) ≡ nat_lt k (until_end cs))
        → ((get_or cs k d).message_id == m) ≡ nat_lt (suc k) (if b then 1 else until_end cs + 1)
    step true v ih = let later = numbers_from kind n (free (m + 1)) cs v k d (omega (arith, lt)) in grind (arith, nat_tests, later)
    step false v ih = let shift : nat_lt (suc k) (until_end cs + 1) ≡ nat_lt k (until_end cs) = grind (arith, nat_tests) in ih v ∙ sym shift

pub until_end_le : (xs : List ChunkPayloadData) → until_end xs ≤ length xs
until_end_le [] = omega arith
until_end_le (c ∷ cs) = step c.ending_fragment (until_end_le cs)
  where
    step : (b : Bool) → until_end cs ≤ length cs → (if b then 1 else until_end cs + 1) ≤ length (c ∷ cs)
    step true le = omega arith
    step false le = omega arith

-- so a chunk of it is before the end, and another is not
pub place_before : (kind : Bool) (n m : ℕ) (xs : List ChunkPayloadData) (k : ℕ) (x : ChunkPayloadData) → IsWhole kind n (begun m) xs → k < length xs
    → x ≡ get_or xs k x → x.message_id ≡ m → k < until_end xs
place_before kind n m xs k x w lt read same =
    let it : (get_or xs k x).message_id ≡ m = ap (λ (y : ChunkPayloadData). y.message_id) (sym read) ∙ same in
    grind (arith, nat_tests, it, of_message kind n m xs k x w lt)

pub place_behind : (kind : Bool) (n m : ℕ) (xs : List ChunkPayloadData) (k : ℕ) (x : ChunkPayloadData) → IsWhole kind n (begun m) xs → k < length xs
    → x ≡ get_or xs k x → (x.message_id ≡ m → ⊥) → until_end xs ≤ k
place_behind kind n m xs k x w lt read other =
    let it : (get_or xs k x).message_id ≡ x.message_id = ap (λ (y : ChunkPayloadData). y.message_id) (sym read) in
    let differs : (x.message_id == m) ≡ false = fails _ (λ e. other (grind (arith, nat_tests, e))) in
    grind (arith, nat_tests, it, differs, of_message kind n m xs k x w lt)

-- the rest of a message has an end
whole_has_end : (kind : Bool) (n m : ℕ) (xs : List ChunkPayloadData) → IsWhole kind n (begun m) xs → list_any ends xs ≡ true
whole_has_end kind n m [] w = absurd w
whole_has_end kind n m (c ∷ cs) w = step c.ending_fragment w.3 (whole_has_end kind n c.message_id cs)
  where
    step : (b : Bool) → IsWhole kind n (if b then free (c.message_id + 1) else begun c.message_id) cs
        → (IsWhole kind n (begun c.message_id) cs → list_any ends cs ≡ true) → (b || list_any ends cs) ≡ true
    step true v ih = refl
    step false v ih = ih v

pub has_end_whole : (n : ℕ) (sel : Option Selected) (os : List ChunkPayloadData) → IsWhole false n (stage_of false sel) os → has_end sel os ≡ true
has_end_whole n None os w = refl
has_end_whole n (Some s) os w = kind s.unordered w
  where
    kind : (k : Bool) → IsWhole false n (if k then free 0 else begun s.message_id) os → (if k then true else list_any ends os) ≡ true
    kind true w = refl
    kind false w = whole_has_end false n s.message_id os w
