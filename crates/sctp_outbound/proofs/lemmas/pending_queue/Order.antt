-- The order of sending, by place.
use Rattle.std.proofs.Common.{◌≡◌, ℕ, zero, suc, ◌+◌, ◌<◌, ◌≤◌, Bool, true, false, ◌||◌, if◌then◌else◌, List, [], ◌∷◌, ◌++◌, length, Option, Some, None}
use Rattle.std.proofs.Common.{slice_get, refl, ap, ◌∙◌, arith}
use Rattle.std.specs.List.{list_any}
use Rattle.std.proofs.lemmas.Bool.{false≢true}
use Rattle.sctp_data.specs.declared.chunk.chunk_payload_data.ChunkPayloadData.{ChunkPayloadData}
use Rattle.sctp_outbound.specs.pending_queue.Whole.{ends, has_end, in_order, ordered_first, until_end, rest_then}
use Rattle.sctp_outbound.specs.declared.pending_queue.Selected.{Selected}
use Rattle.sctp_util.proofs.Getting.{slice-front}

pub slice_get-append_right : {X : Type 0} (xs ys : List X) (i j : ℕ) → i ≡ length xs + j → slice_get (xs ++ ys) i ≡ slice_get ys j
slice_get-append_right [] ys i j e = ap (slice_get ys) (omega arith)
slice_get-append_right (x ∷ xs) ys zero j e = absurd (omega arith)
slice_get-append_right (x ∷ xs) ys (suc i) j e = slice_get-append_right xs ys i j (omega arith)

-- the rest of a partially sent message goes first
pub rest_then-first : (os us : List ChunkPayloadData) (i : ℕ) → i < until_end os → slice_get (rest_then os us) i ≡ slice_get os i
rest_then-first [] us i lt = absurd (omega arith)
rest_then-first (c ∷ cs) us i lt = step c.ending_fragment i lt (λ j h. rest_then-first cs us j h)
  where
    step : (b : Bool) (i : ℕ) → i < (if b then 1 else until_end cs + 1) → ((j : ℕ) → j < until_end cs → slice_get (rest_then cs us) j ≡ slice_get cs j)
        → slice_get (if b then c ∷ (us ++ cs) else c ∷ rest_then cs us) i ≡ slice_get (c ∷ cs) i
    step true zero lt ih = refl
    step true (suc i) lt ih = absurd (omega arith)
    step false zero lt ih = refl
    step false (suc i) lt ih = ih i (omega arith)

-- then what is unordered
pub rest_then-unordered : (os us : List ChunkPayloadData) (i j : ℕ) → list_any ends os ≡ true → i ≡ until_end os + j → j < length us
    → slice_get (rest_then os us) i ≡ slice_get us j
rest_then-unordered [] us i j h e lt = absurd (false≢true h)
rest_then-unordered (c ∷ cs) us i j h e lt = step c.ending_fragment i h e (λ k g f. rest_then-unordered cs us k j g f lt)
  where
    step : (b : Bool) (i : ℕ) → (b || list_any ends cs) ≡ true → i ≡ (if b then 1 else until_end cs + 1) + j
        → ((k : ℕ) → list_any ends cs ≡ true → k ≡ until_end cs + j → slice_get (rest_then cs us) k ≡ slice_get us j)
        → slice_get (if b then c ∷ (us ++ cs) else c ∷ rest_then cs us) i ≡ slice_get us j
    step true zero h e ih = absurd (omega arith)
    step true (suc i) h e ih = ap (slice_get (us ++ cs)) {y = j} (omega arith) ∙ slice-front us cs j lt
    step false zero h e ih = absurd (omega arith)
    step false (suc i) h e ih = ih i h (omega arith)

-- then the other ordered messages
pub rest_then-last : (os us : List ChunkPayloadData) (i j : ℕ) → list_any ends os ≡ true → i ≡ j + length us → until_end os ≤ j
    → slice_get (rest_then os us) i ≡ slice_get os j
rest_then-last [] us i j h e le = absurd (false≢true h)
rest_then-last (c ∷ cs) us i j h e le = step c.ending_fragment i j h e le (λ k l g f m. rest_then-last cs us k l g f m)
  where
    step : (b : Bool) (i j : ℕ) → (b || list_any ends cs) ≡ true → i ≡ j + length us → (if b then 1 else until_end cs + 1) ≤ j
        → ((k l : ℕ) → list_any ends cs ≡ true → k ≡ l + length us → until_end cs ≤ l → slice_get (rest_then cs us) k ≡ slice_get cs l)
        → slice_get (if b then c ∷ (us ++ cs) else c ∷ rest_then cs us) i ≡ slice_get (c ∷ cs) j
    step b i zero h e le ih = absurd (at_least b (until_end cs) le)
      where
        at_least : (b : Bool) (n : ℕ) → (if b then 1 else n + 1) ≤ 0 → ⊥
        at_least true n le = omega arith
        at_least false n le = omega arith
    step b zero (suc j) h e le ih = absurd (omega arith)
    step true (suc i) (suc j) h e le ih = slice_get-append_right us cs i j (omega arith)
    step false (suc i) (suc j) h e le ih = ih i j h (omega arith) (omega arith)

-- ## The chunk that goes after so many others

pub at_first : (sel : Option Selected) (os us : List ChunkPayloadData) (i : ℕ) → i < ordered_first sel os → slice_get (in_order sel os us) i ≡ slice_get os i
at_first None os us i lt = absurd (omega arith)
at_first (Some s) os us i lt = by s.unordered lt
  where
    by : (k : Bool) → i < (if k then 0 else until_end os) → slice_get (if k then us ++ os else rest_then os us) i ≡ slice_get os i
    by true lt = absurd (omega arith)
    by false lt = rest_then-first os us i lt

pub at_unordered : (sel : Option Selected) (os us : List ChunkPayloadData) (i j : ℕ) → has_end sel os ≡ true → i ≡ ordered_first sel os + j → j < length us
    → slice_get (in_order sel os us) i ≡ slice_get us j
at_unordered None os us i j h e lt = ap (slice_get (us ++ os)) {y = j} (omega arith) ∙ slice-front us os j lt
at_unordered (Some s) os us i j h e lt = by s.unordered h e
  where
    by : (k : Bool) → (if k then true else list_any ends os) ≡ true → i ≡ (if k then 0 else until_end os) + j
        → slice_get (if k then us ++ os else rest_then os us) i ≡ slice_get us j
    by true h e = ap (slice_get (us ++ os)) {y = j} (omega arith) ∙ slice-front us os j lt
    by false h e = rest_then-unordered os us i j h e lt

pub at_last : (sel : Option Selected) (os us : List ChunkPayloadData) (i j : ℕ) → has_end sel os ≡ true → i ≡ j + length us → ordered_first sel os ≤ j
    → slice_get (in_order sel os us) i ≡ slice_get os j
at_last None os us i j h e le = slice_get-append_right us os i j (omega arith)
at_last (Some s) os us i j h e le = by s.unordered h le
  where
    by : (k : Bool) → (if k then true else list_any ends os) ≡ true → (if k then 0 else until_end os) ≤ j
        → slice_get (if k then us ++ os else rest_then os us) i ≡ slice_get os j
    by true h le = slice_get-append_right us os i j (omega arith)
    by false h le = rest_then-last os us i j h e le
