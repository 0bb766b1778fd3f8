-- What a reset keeps, moves and drops.
use Rattle.std.proofs.Common.{◌≡◌, ℕ, suc, ◌+◌, ◌<◌, ◌≤◌, ◌&&◌, Bool, true, false, not, if◌then◌else◌, List, [], ◌∷◌, ◌++◌, map, length, length-append, get_or}
use Rattle.std.proofs.Common.{take, drop, refl, sym, ap, ◌∙◌, drop-cons, add-one, arith}
use Rattle.std.specs.List.{list_all, sum_by, filter}
use Rattle.std.proofs.Math.Seq.{take-suc}
use Rattle.std.proofs.lemmas.Bool.{true≢false}
use Rattle.std.proofs.lemmas.List.{map-append, take-append-drop}
use Rattle.std.proofs.lemmas.List.Elements.{filter-append}
use Rattle.std.proofs.lemmas.List.Sums.{sum_by-cons, sum_by-append}
use Rattle.sctp_util.proofs.Edits.{sum_by-those_both}
use Rattle.sctp_util.specs.Serial.{at_or_before}
use Rattle.sctp_data.specs.declared.chunk.chunk_payload_data.ChunkPayloadData.{ChunkPayloadData}
use Rattle.sctp_data.specs.ChunkSet.{ChunkSet}
use Rattle.sctp_serial.specs.Ascending.{upper_half}
use Rattle.sctp_serial.specs.DataChunks.{bytes_of}
use Rattle.sctp_reassembly.specs.reassembly_queue.Fragments.{is_complete}
use Rattle.sctp_reassembly.specs.reassembly_queue.ReassemblyQueue.{ReassemblyState, IsCounted}
use Rattle.sctp_reassembly.specs.reassembly_queue.Resets.{chunks_upto, chunks_past, is_old_message, rest_past, is_some_left, of_new_use, dropped_bytes}
use Rattle.sctp_reassembly.specs.reassembly_queue.Resets.{after_reset}

second : (a b : Bool) → (a && b) ≡ true → b ≡ true
second true b h = h
second false b h = absurd (true≢false (sym h))

-- ## By place

-- the first element of what is left of a list at a place, before others
pub first_left : (xs new done : List ChunkSet) (k : ℕ) (x : ChunkSet) → k < length xs → x ∷ new ≡ drop k xs ++ done → x ≡ get_or xs k x
first_left xs new done k x lt e = let f = drop-cons xs k x lt in cc

pub rest_left : (xs new done : List ChunkSet) (k : ℕ) (x : ChunkSet) → k < length xs → x ∷ new ≡ drop k xs ++ done → new ≡ drop (k + 1) xs ++ done
rest_left xs new done k x lt e = let f = drop-cons xs k x lt in rw add-one cc

pub taken_more : (xs : List ChunkSet) (k : ℕ) (x : ChunkSet) → k < length xs → x ≡ get_or xs k x → take (k + 1) xs ≡ take k xs ++ x ∷ []
taken_more xs k x lt e = rw add-one (take-suc xs k x lt ∙ ap (λ y. take k xs ++ y ∷ []) (sym e))

-- one that passes is among those that pass, behind those before it
pub more_passes : (p : ChunkSet → Bool) (xs : List ChunkSet) (k : ℕ) (x : ChunkSet) → k < length xs → x ≡ get_or xs k x → p x ≡ true
    → length (filter p (take k xs)) + 1 ≤ length (filter p xs)
more_passes p xs k x lt e h =
    let split : filter p xs ≡ filter p (take k xs) ++ filter p (drop k xs) = ap (filter p) (sym (take-append-drop k xs))
    ∙ filter-append p (take k xs) (drop k xs) in
    let rest : filter p (drop k xs) ≡ x ∷ filter p (drop (suc k) xs) =
    ap (filter p) (drop-cons xs k x lt ∙ ap (λ y. y ∷ drop (suc k) xs) (sym e))
    ∙ ap (λ b. if b then x ∷ filter p (drop (suc k) xs) else filter p (drop (suc k) xs)) h in
    omega (arith, ap length split, length-append (filter p (take k xs)) (filter p (drop k xs)), ap length rest)

module _ (last : ℕ) where
  nothing_past : (cs : List ChunkPayloadData) → list_all (λ c. at_or_before c.tsn last) cs ≡ true → chunks_past last cs ≡ []
  nothing_past [] h = refl
  nothing_past (c ∷ cs) h = at_head (at_or_before c.tsn last) h (nothing_past cs)
    where
      at_head : (b : Bool) → (b && list_all (λ d. at_or_before d.tsn last) cs) ≡ true → (list_all (λ d. at_or_before d.tsn last) cs ≡ true
          → chunks_past last cs ≡ []) → (if not b then c ∷ chunks_past last cs else chunks_past last cs) ≡ []
      at_head true h rec = rec h
      at_head false h rec = absurd (true≢false (sym h))

  -- of a complete message of the old use nothing is left
  pub old_leaves_none : (s : ChunkSet) → is_old_message last s ≡ true → chunks_past last s.chunks ≡ []
  old_leaves_none s h = nothing_past s.chunks (second (is_complete s.chunks) (list_all (λ c. at_or_before c.tsn last) s.chunks) h)

  pub of_new_use-append : (xs ys : List ChunkSet) → of_new_use last (xs ++ ys) ≡ of_new_use last xs ++ of_new_use last ys
  of_new_use-append xs ys = ap (filter (λ s. is_some_left s.chunks)) (map-append (rest_past last) xs ys)
      ∙ filter-append (λ s. is_some_left s.chunks) (map (rest_past last) xs) (map (rest_past last) ys)

  pub dropped_bytes-append : (xs ys : List ChunkSet) → dropped_bytes last (xs ++ ys) ≡ dropped_bytes last xs + dropped_bytes last ys
  dropped_bytes-append xs ys =
      ap (sum_by (λ (s : ChunkSet). bytes_of (chunks_upto last s.chunks))) (filter-append (λ s. not (is_old_message last s)) xs ys)
      ∙ sum_by-append (λ (s : ChunkSet). bytes_of (chunks_upto last s.chunks)) (filter (λ s. not (is_old_message last s)) xs)
      (filter (λ s. not (is_old_message last s)) ys)

  -- ## One set

  pub old_gone : (s : ChunkSet) → is_old_message last s ≡ true → of_new_use last (s ∷ []) ≡ []
  old_gone s h =
      ap (λ cs. let r : ChunkSet = record { ssn = s.ssn; ppi = s.ppi; chunks = cs } in filter (λ t. is_some_left t.chunks) (r ∷ [])) (old_leaves_none s h)

  -- ## Bytes

  -- however chunks are weighed
  module _ (w : ChunkPayloadData → ℕ) where
    rest_weight : (s : ChunkSet) (ys : List ChunkSet) → sum_by (λ t. sum_by w t.chunks) (filter (λ t. is_some_left t.chunks) (rest_past last s ∷ ys))
        ≡ sum_by w (chunks_past last s.chunks) + sum_by (λ t. sum_by w t.chunks) (filter (λ t. is_some_left t.chunks) ys)
    rest_weight s ys = at_chunks (chunks_past last s.chunks)
      where
        at_chunks : (cs : List ChunkPayloadData)
            → (let r : ChunkSet = record { ssn = s.ssn; ppi = s.ppi; chunks = cs } in sum_by (λ (t : ChunkSet). sum_by w t.chunks)
            (filter (λ t. is_some_left t.chunks) (r ∷ ys)) ≡ sum_by w cs + sum_by (λ t. sum_by w t.chunks) (filter (λ t. is_some_left t.chunks) ys))
        at_chunks [] = omega arith
        at_chunks (c ∷ cs) = sum_by-cons (λ (t : ChunkSet). sum_by w t.chunks) (let r : ChunkSet = record { ssn = s.ssn; ppi = s.ppi; chunks = c ∷ cs } in r)
            (filter (λ t. is_some_left t.chunks) ys)

    -- what stays, what moves and what is dropped is all
    pub reset_weight : (sets : List ChunkSet) → sum_by (λ s. sum_by w s.chunks) sets
        ≡ sum_by (λ s. sum_by w s.chunks) (of_new_use last sets) + sum_by (λ s. sum_by w s.chunks) (filter (is_old_message last) sets)
        + sum_by (λ s. sum_by w (chunks_upto last s.chunks)) (filter (λ s. not (is_old_message last s)) sets)
    reset_weight [] = refl
    reset_weight (s ∷ ss) = at_head (is_old_message last s) refl (reset_weight ss) (rest_weight s (map (rest_past last) ss))
        (sum_by-cons (λ (t : ChunkSet). sum_by w t.chunks) s ss)
      where
        at_head : (b : Bool) → is_old_message last s ≡ b
            → sum_by (λ t. sum_by w t.chunks) ss ≡ sum_by (λ t. sum_by w t.chunks) (of_new_use last ss) + sum_by (λ t. sum_by w t.chunks)
            (filter (is_old_message last) ss)
            + sum_by (λ t. sum_by w (chunks_upto last t.chunks)) (filter (λ t. not (is_old_message last t)) ss)
            → sum_by (λ t. sum_by w t.chunks) (of_new_use last (s ∷ ss)) ≡ sum_by w (chunks_past last s.chunks) + sum_by (λ t. sum_by w t.chunks)
            (of_new_use last ss) → sum_by (λ t. sum_by w t.chunks) (s ∷ ss) ≡ sum_by w s.chunks + sum_by (λ t. sum_by w t.chunks) ss
            → sum_by (λ t. sum_by w t.chunks) (s ∷ ss) ≡ sum_by (λ t. sum_by w t.chunks) (of_new_use last (s ∷ ss))
            + sum_by (λ t. sum_by w t.chunks) (if b then s ∷ filter (is_old_message last) ss else filter (is_old_message last) ss)
            + sum_by (λ (t : ChunkSet). sum_by w (chunks_upto last t.chunks))
            (if not b then s ∷ filter (λ t. not (is_old_message last t)) ss else filter (λ t. not (is_old_message last t)) ss)
        at_head true e rec kept all = omega
            (arith, rec, kept, all, ap (sum_by w) (old_leaves_none s e), sum_by-cons (λ (t : ChunkSet). sum_by w t.chunks) s (filter (is_old_message last) ss))
        at_head false e rec kept all = omega (
          arith,
          rec,
          kept,
          all,
          sum_by-those_both (λ (c : ChunkPayloadData). at_or_before c.tsn last) w s.chunks,
          sum_by-cons (λ (t : ChunkSet). sum_by w (chunks_upto last t.chunks)) s (filter (λ t. not (is_old_message last t)) ss),
        )

  pub reset_counted : (q : ReassemblyState) → IsCounted q → IsCounted (after_reset last q)
  reset_counted q h = omega (
    arith,
    h,
    reset_weight (λ c. length c.user_data) q.held.ordered,
    sum_by-append (λ (s : ChunkSet). bytes_of s.chunks) q.held.unordered (filter (is_old_message last) q.held.ordered),
  )

  -- ## Numbers

  pub numbers_of_rests : (xs : List ChunkSet) → map (λ (s : ChunkSet). upper_half s.ssn) (map (rest_past last) xs) ≡ map (λ (s : ChunkSet). upper_half s.ssn) xs
  numbers_of_rests [] = refl
  numbers_of_rests (x ∷ xs) = ap (λ ns. upper_half x.ssn ∷ ns) (numbers_of_rests xs)
