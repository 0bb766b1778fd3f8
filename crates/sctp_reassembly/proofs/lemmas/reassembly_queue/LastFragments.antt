-- The last fragment of a TSN, from both sides.
use Rattle.std.proofs.Common.{◌≡◌, ℕ, zero, suc, ◌+◌, ◌<◌, true, false, ◌||◌, not, if◌then◌else◌, List, [], ◌∷◌, ◌++◌, length, get_or, take, drop, reverse}
use Rattle.std.proofs.Common.{refl, sym, ap, subst, ◌∙◌, append_assoc, arith}
use Rattle.std.specs.List.{list_any}
use Rattle.std.proofs.Math.Bool.{or-true}
use Rattle.std.proofs.lemmas.List.{reverse-append, take_more, append-nil}
use Rattle.std.proofs.Math.ListN.{take-append-drop}
use Rattle.sctp_util.specs.Lists.{after_leading}
use Rattle.sctp_data.specs.declared.chunk.chunk_payload_data.ChunkPayloadData.{ChunkPayloadData}
use Rattle.sctp_serial.specs.DataChunks.{has_tsn}
use Rattle.sctp_serial.proofs.lemmas.ListEdits.{neither}
use Rattle.sctp_reassembly.specs.reassembly_queue.Sizes.{back_from, on_from}

module _ (t : ℕ) where
  -- an element that passes is among those that any test asks for
  any_get : (xs : List ChunkPayloadData) (p : ℕ) (d : ChunkPayloadData) → p < length xs → has_tsn t (get_or xs p d) ≡ true → list_any (has_tsn t) xs ≡ true
  any_get [] p d lt h = absurd (omega arith)
  any_get (x ∷ xs) zero d lt h = rw h refl
  any_get (x ∷ xs) (suc p) d lt h = ap (λ b. has_tsn t x || b) (any_get xs p d (omega arith) h) ∙ or-true (has_tsn t x)

  -- none of the TSN
  pub on_none : (xs : List ChunkPayloadData) → list_any (has_tsn t) xs ≡ false → on_from t xs ≡ []
  on_none [] h = refl
  on_none (x ∷ xs) h = let (a, b) = neither (has_tsn t x) (list_any (has_tsn t) xs) h in rw (b, a) refl

  -- the last of the TSN and what follows it
  pub on_at : (xs : List ChunkPayloadData) (p : ℕ) (d : ChunkPayloadData) → p < length xs → has_tsn t (get_or xs p d) ≡ true
      → list_any (has_tsn t) (drop (suc p) xs) ≡ false → on_from t xs ≡ drop p xs
  on_at [] p d lt h later = absurd (omega arith)
  on_at (x ∷ xs) zero d lt h later = rw (later, h) refl
  on_at (x ∷ xs) (suc p) d lt h later = rw (any_get xs p d (omega arith) h) (on_at xs p d (omega arith) h later)

  -- what has none of the TSN is passed over from the end
  pub back_over : (zs ws : List ChunkPayloadData) → list_any (has_tsn t) zs ≡ false
      → after_leading (λ y. not (has_tsn t y)) (reverse zs ++ ws) ≡ after_leading (λ y. not (has_tsn t y)) ws
  back_over [] ws h = refl
  back_over (z ∷ zs) ws h =
      let (a, b) = neither (has_tsn t z) (list_any (has_tsn t) zs) h in
      ap (λ ys. after_leading (λ y. not (has_tsn t y)) (ys ++ ws)) (reverse-append (z ∷ []) zs)
      ∙ ap (after_leading (λ y. not (has_tsn t y))) (append_assoc (reverse zs) (z ∷ []) ws)
      ∙ back_over zs (z ∷ ws) b
      ∙ ap (λ c. if not c then after_leading (λ y. not (has_tsn t y)) ws else z ∷ ws) a

  pub back_none : (xs : List ChunkPayloadData) → list_any (has_tsn t) xs ≡ false → back_from t xs ≡ []
  back_none xs h = ap (after_leading (λ y. not (has_tsn t y))) (sym (append-nil (reverse xs))) ∙ back_over xs [] h

-- the front part with one more element, from the end
pub reverse_more : (xs : List ChunkPayloadData) (p : ℕ) (d : ChunkPayloadData) → p < length xs → reverse (take (p + 1) xs) ≡ get_or xs p d ∷ reverse (take p xs)
reverse_more xs p d lt = ap reverse (take_more xs p d lt) ∙ reverse-append (take p xs) (get_or xs p d ∷ [])

pub back_at : (t : ℕ) (xs : List ChunkPayloadData) (p : ℕ) (d : ChunkPayloadData) → p < length xs → has_tsn t (get_or xs p d) ≡ true
    → list_any (has_tsn t) (drop (suc p) xs) ≡ false → back_from t xs ≡ reverse (take (p + 1) xs)
back_at t xs p d lt h later =
    let split = ap reverse (sym (take-append-drop (p + 1) xs)) ∙ reverse-append (take (p + 1) xs) (drop (p + 1) xs) in
    let more = reverse_more xs p d lt in
    ap (after_leading (λ y. not (has_tsn t y))) split
    ∙ back_over t (drop (p + 1) xs) (reverse (take (p + 1) xs)) (subst (λ i. list_any (has_tsn t) (drop i xs) ≡ false) {x = suc p} (omega arith) later)
    ∙ ap (after_leading (λ y. not (has_tsn t y))) more
    ∙ ap (λ c. if not c then after_leading (λ y. not (has_tsn t y)) (reverse (take p xs)) else get_or xs p d ∷ reverse (take p xs)) h
    ∙ sym more
