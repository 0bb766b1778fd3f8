-- Messages copied into a buffer, and taken piece by piece.
use Rattle.std.proofs.Common.{◌≡◌, ℕ, ◌+◌, ◌-◌, ◌<◌, ◌≤◌, min, nat_le, true, false, if◌then◌else◌, List, [], ◌∷◌, ◌++◌, map, length, get_or, take, drop, Some}
use Rattle.std.proofs.Common.{refl, sym, ap, ap₂, subst, ◌∙◌, append_assoc, length-take-le, length-drop, inl, inr, arith}
use Rattle.std.specs.List.{concat}
use Rattle.std.proofs.lemmas.Bool.{cases_lt}
use Rattle.std.proofs.lemmas.Bool.Decides.{nat_tests}
use Rattle.std.proofs.lemmas.List.{take_more, drop_more, drop-drop, append-nil, length-append, take-append-le, take-append-drop, drop_all, take_all}
use Rattle.std.proofs.Math.Seq.{take-append_seam, take-append-add, drop-append-add}
use Rattle.sctp_data.specs.declared.chunk.chunk_payload_data.ChunkPayloadData.{ChunkPayloadData}
use Rattle.sctp_reassembly.specs.reassembly_queue.Fragments.{payload_of}
use Rattle.sctp_reassembly.specs.reassembly_queue.Chunks.{cut_first, left_from, piece_of, left_after, taken_whole}

pub payload-append : (xs ys : List ChunkPayloadData) → payload_of (xs ++ ys) ≡ payload_of xs ++ payload_of ys
payload-append [] ys = refl
payload-append (x ∷ xs) ys = ap (λ zs. x.user_data ++ zs) (payload-append xs ys) ∙ sym (append_assoc x.user_data (payload_of xs) (payload_of ys))

-- the bytes of one more fragment
pub payload_more : (xs : List ChunkPayloadData) (k : ℕ) (d : ChunkPayloadData) → k < length xs
    → payload_of (take (k + 1) xs) ≡ payload_of (take k xs) ++ (get_or xs k d).user_data
payload_more xs k d lt = ap payload_of (take_more xs k d lt) ∙ payload-append (take k xs) (get_or xs k d ∷ [])
    ∙ ap (λ ys. payload_of (take k xs) ++ ys) (append-nil (get_or xs k d).user_data)

-- and of all others
pub payload_split : (xs : List ChunkPayloadData) (k : ℕ) (d : ChunkPayloadData) → k < length xs
    → payload_of xs ≡ (payload_of (take k xs) ++ (get_or xs k d).user_data) ++ payload_of (drop (k + 1) xs)
payload_split xs k d lt =
    ap payload_of (sym (take-append-drop (k + 1) xs)) ∙ payload-append (take (k + 1) xs) (drop (k + 1) xs)
    ∙ ap (λ ys. ys ++ payload_of (drop (k + 1) xs)) (payload_more xs k d lt)

-- bytes copied behind those that were
pub filled_more : (buf start front more : List ℕ) (written : ℕ) → written ≡ length front → buf ≡ front ++ drop written start
    → (take written buf ++ more) ++ drop (written + length more) buf ≡ (front ++ more) ++ drop (written + length more) start
filled_more buf start front more written e h =
    let n = length more in
    let first : take written buf ≡ front = ap₂ (λ i xs. take i xs) e h ∙ take-append_seam front (drop written start) in
    let last : drop (written + n) buf ≡ drop (written + n) start = ap₂ (λ i xs. drop (i + n) xs) e h ∙ drop-append-add front (drop written start) n
    ∙ drop-drop n written start in
    ap₂ (λ a b. (a ++ more) ++ b) first last

-- the buffer is full of the beginning of all
pub filled_short : (buf start front bytes rest all : List ℕ) (written n : ℕ) → written ≡ length front → buf ≡ front ++ drop written start
    → written + n ≡ length start → n ≤ length bytes → all ≡ (front ++ bytes) ++ rest
    → (take written buf ++ take n bytes) ++ drop (written + length (take n bytes)) buf ≡ take (length start) all
filled_short buf start front bytes rest all written n e h full le split =
    let len = length-take-le n bytes le in
    let over : drop (written + length (take n bytes)) start ≡ [] = drop_all (written + length (take n bytes)) start (omega arith) in
    let long : length start ≡ length front + n = omega arith in
    let begin : take (length start) all ≡ front ++ take n bytes =
    ap₂ (λ i xs. take i xs) long (split ∙ append_assoc front bytes rest)
    ∙ take-append-add front (bytes ++ rest) n
    ∙ ap (λ xs. front ++ xs) (take-append-le n bytes rest le) in
    filled_more buf start front (take n bytes) written e h ∙ ap (λ xs. (front ++ take n bytes) ++ xs) over ∙ append-nil (front ++ take n bytes) ∙ sym begin

-- what is left, seen from the first fragment
pub left_head : (chunks : List ChunkPayloadData) (i o : ℕ) (d : ChunkPayloadData) → i < length chunks
    → left_from chunks i o ≡ drop o (get_or chunks i d).user_data ∷ left_from chunks (i + 1) 0
left_head chunks i o d lt = ap (λ cs. cut_first o (map (λ c. c.user_data) cs)) (drop_more chunks i d lt)
    ∙ ap (λ xss. drop o (get_or chunks i d).user_data ∷ xss) (sym (whole (map (λ c. c.user_data) (drop (i + 1) chunks))))
  where
    whole : (xss : List (List ℕ)) → cut_first 0 xss ≡ xss
    whole [] = refl
    whole (xs ∷ xss) = refl

-- where a fragment is left, so is a piece
pub piece_some : (n : ℕ) (chunks : List ChunkPayloadData) (i o : ℕ) → i < length chunks
    → piece_of n (left_from chunks i o) ≡ Some (take n (concat (left_from chunks i o)))
piece_some n chunks i o lt = head (drop i chunks) (subst (λ k. 0 < k) (sym (length-drop i chunks)) (omega arith))
  where
    head : (cs : List ChunkPayloadData) → 0 < length cs
        → piece_of n (cut_first o (map (λ c. c.user_data) cs)) ≡ Some (take n (concat (cut_first o (map (λ c. c.user_data) cs))))
    head [] h = absurd (omega arith)
    head (c ∷ cs) h = refl

-- the whole rest of a fragment is a slice of it
pub slice_rest : (bytes : List ℕ) (o start n : ℕ) → start ≡ min o (length bytes) → length bytes - start ≤ n
    → take (start + n - start) (drop start bytes) ≡ drop o bytes
slice_rest bytes o start n e le =
    let len = length-drop start bytes in
    take_all (start + n - start) (drop start bytes) (omega arith)
    ∙ elim (cases_lt (length bytes) o) [
      | inl past ↦ drop_all start bytes (omega arith) ∙ sym (drop_all o bytes (omega arith))
      | inr within ↦ ap (λ i. drop i bytes) {x = start} {y = o} (omega arith)
    ]

-- a whole fragment was taken
pub taken_more : (taken piece first : List ℕ) (rest : List (List ℕ)) (room n : ℕ) → piece ≡ first → length first ≤ room → n ≡ length first
    → (taken ++ piece) ++ take (room - n) (concat rest) ≡ taken ++ take room (first ++ concat rest)
taken_more taken piece first rest room n e le same =
    ap (λ xs. (taken ++ xs) ++ take (room - n) (concat rest)) e
    ∙ append_assoc taken first (take (room - n) (concat rest))
    ∙ ap (λ xs. taken ++ xs) (sym (ap (λ i. take i (first ++ concat rest)) {x = room} {y = length first + (room - n)} (omega arith)
    ∙ take-append-add first (concat rest) (room - n)))

pub left_more : (first : List ℕ) (rest : List (List ℕ)) (room n : ℕ) → length first ≤ room → n ≡ length first
    → left_after (room - n) rest ≡ left_after room (first ∷ rest)
left_more first rest room n le same =
    let fits : nat_le (length first) room ≡ true = grind (arith, nat_tests) in
    ap (λ i. left_after (room - i) rest) same ∙ ap (λ b. if b then left_after (room - length first) rest else drop room first ∷ rest) (sym fits)

-- a piece and what is left are what was left before
pub pieces_join : (n : ℕ) (xss : List (List ℕ)) → take n (concat xss) ++ concat (left_after n xss) ≡ concat xss
pieces_join n [] = append-nil (take n []) ∙ take_all n [] (omega arith)
pieces_join n (xs ∷ xss) = elim (cases_lt n (length xs)) [
  | inl short ↦
      let cut : nat_le (length xs) n ≡ false = grind (arith, nat_tests) in
      ap (λ b. take n (xs ++ concat xss) ++ concat (if b then left_after (n - length xs) xss else drop n xs ∷ xss)) cut
      ∙ ap (λ ys. ys ++ (drop n xs ++ concat xss)) (take-append-le n xs (concat xss) (omega arith))
      ∙ sym (append_assoc (take n xs) (drop n xs) (concat xss))
      ∙ ap (λ ys. ys ++ concat xss) (take-append-drop n xs)
  | inr all ↦
      let fits : nat_le (length xs) n ≡ true = grind (arith, nat_tests) in
      let more : n ≡ length xs + (n - length xs) = omega arith in
      ap (λ b. take n (xs ++ concat xss) ++ concat (if b then left_after (n - length xs) xss else drop n xs ∷ xss)) fits
      ∙ ap (λ ys. ys ++ concat (left_after (n - length xs) xss)) (ap (λ i. take i (xs ++ concat xss)) more ∙ take-append-add xs (concat xss) (n - length xs))
      ∙ append_assoc xs (take (n - length xs) (concat xss)) (concat (left_after (n - length xs) xss))
      ∙ ap (λ ys. xs ++ ys) (pieces_join (n - length xs) xss)
]

-- where something is left, there was enough
pub piece_full : (n : ℕ) (xss : List (List ℕ)) → 0 < length (left_after n xss) → n ≤ length (concat xss)
piece_full n [] h = absurd (omega arith)
piece_full n (xs ∷ xss) h =
    let len = length-append xs (concat xss) in
    elim (cases_lt n (length xs)) [
      | inl short ↦ omega arith
      | inr all ↦
          let fits : nat_le (length xs) n ≡ true = grind (arith, nat_tests) in
          let rec = piece_full (n - length xs) xss (subst (λ b. 0 < length (if b then left_after (n - length xs) xss else drop n xs ∷ xss)) fits h) in
          omega arith
    ]

-- where there wasn't more, nothing is left
pub pieces_end : (n : ℕ) (xss : List (List ℕ)) → length (concat xss) ≤ n → left_after n xss ≡ []
pieces_end n [] h = refl
pieces_end n (xs ∷ xss) h =
    let len = length-append xs (concat xss) in
    let fits : nat_le (length xs) n ≡ true = grind (arith, nat_tests) in
    ap (λ b. if b then left_after (n - length xs) xss else drop n xs ∷ xss) fits ∙ pieces_end (n - length xs) xss (omega arith)

-- the fragments' bytes joined are the message's
pub whole_payload : (chunks : List ChunkPayloadData) → concat (left_from chunks 0 0) ≡ payload_of chunks
whole_payload [] = refl
whole_payload (x ∷ xs) = ap (λ ys. x.user_data ++ ys) (joined xs)
  where
    joined : (cs : List ChunkPayloadData) → concat (map (λ c. c.user_data) cs) ≡ payload_of cs
    joined [] = refl
    joined (c ∷ cs) = ap (λ ys. c.user_data ++ ys) (joined cs)

-- one more is taken to its end
pub taken_more_of : (n rest : ℕ) (chunks : List ChunkPayloadData) (i o : ℕ) (d : ChunkPayloadData) → i < length chunks → rest
    ≡ length (drop o (get_or chunks i d).user_data) → rest ≤ n → taken_whole n (left_from chunks i o) ≡ taken_whole (n - rest) (left_from chunks (i + 1) 0) + 1
taken_more_of n rest chunks i o d lt e le =
    let fits : nat_le (length (drop o (get_or chunks i d).user_data)) n ≡ true = grind (arith, nat_tests) in
    ap (taken_whole n) (left_head chunks i o d lt)
    ∙ ap (λ b. if b then taken_whole (n - length (drop o (get_or chunks i d).user_data)) (left_from chunks (i + 1) 0) + 1 else 0) fits
    ∙ ap (λ k. taken_whole (n - k) (left_from chunks (i + 1) 0) + 1) (sym e)
