-- What a complete set has at its ends.
use Rattle.std.proofs.Common.{◌≡◌, ◌≢◌, suc, ◌+◌, ◌-◌, ◌%◌, ◌^◌, ◌<◌, ◌==◌, true, false, List, [], ◌∷◌, length, get_or, refl, sym, ap, ◌∙◌, mod-eq_of_lt}
use Rattle.std.proofs.Common.{arith}
use Rattle.std.proofs.lemmas.Bool.{true≢false}
use Rattle.std.proofs.Math.Nat.{mod-add-mod}
use Rattle.sctp_util.proofs.More.{fails, both}
use Rattle.sctp_data.specs.declared.chunk.chunk_payload_data.ChunkPayloadData.{ChunkPayloadData}
use Rattle.sctp_reassembly.specs.reassembly_queue.Fragments.{completes, is_complete}
use Rattle.sctp_util.proofs.Cases.{same-is}
use Rattle.sctp_serial.specs.DataChunks.{following_tsn}

-- the last one ends
ends_last : (x : ChunkPayloadData) (ys : List ChunkPayloadData) (d : ChunkPayloadData) → completes x ys ≡ true
    → (get_or (x ∷ ys) (length ys) d).ending_fragment ≡ true
ends_last x [] d h = h
ends_last x (y ∷ ys) d h = ends_last y ys d (both (y.tsn == following_tsn x.tsn) (completes y ys) h).1

-- and is as far from the first as there are others
ends_apart : (x : ChunkPayloadData) (ys : List ChunkPayloadData) (d : ChunkPayloadData) → completes x ys ≡ true → x.tsn < 2 ^ 32
    → (get_or (x ∷ ys) (length ys) d).tsn ≡ (x.tsn + length ys) % 2 ^ 32
ends_apart x [] d h lt = let e : (x.tsn + 0) % 2 ^ 32 ≡ x.tsn + 0 = mod-eq_of_lt (omega arith) in omega arith
ends_apart x (y ∷ ys) d h lt =
    let parts = both (y.tsn == following_tsn x.tsn) (completes y ys) h in
    let next : y.tsn ≡ (x.tsn + 1) % 2 ^ 32 = same-is y.tsn (following_tsn x.tsn) parts.0 in
    let small : y.tsn < 2 ^ 32 = omega arith in
    ends_apart y ys d parts.1 small
    ∙ ap (λ t. (t + length ys) % 2 ^ 32) next
    ∙ mod-add-mod (x.tsn + 1) (2 ^ 32) (length ys)
    ∙ ap (λ n. n % 2 ^ 32) {x = x.tsn + 1 + length ys} {y = x.tsn + suc (length ys)} (omega arith)

module _ (d : ChunkPayloadData) where
  pub not_ended : (xs : List ChunkPayloadData) → (get_or xs (length xs - 1) d).ending_fragment ≡ false → is_complete xs ≡ false
  not_ended [] h = refl
  not_ended (x ∷ xs) h = fails (is_complete (x ∷ xs)) (λ t.
      let end = ends_last x xs d (both x.beginning_fragment (completes x xs) t).1 in
      let at : suc (length xs) - 1 ≡ length xs = omega arith in
      true≢false (sym end ∙ ap (λ i. (get_or (x ∷ xs) i d).ending_fragment) (sym at) ∙ h))

  pub not_apart : (xs : List ChunkPayloadData) → (get_or xs 0 d).tsn < 2 ^ 32
      → (get_or xs (length xs - 1) d).tsn ≢ ((get_or xs 0 d).tsn + (length xs - 1) % 2 ^ 32) % 2 ^ 32 → is_complete xs ≡ false
  not_apart [] lt h = refl
  not_apart (x ∷ xs) lt h = fails (is_complete (x ∷ xs)) (λ t.
      let far = ends_apart x xs d (both x.beginning_fragment (completes x xs) t).1 lt in
      let at : suc (length xs) - 1 ≡ length xs = omega arith in
      h (ap (λ i. (get_or (x ∷ xs) i d).tsn) at ∙ far ∙ ap (λ n. n % 2 ^ 32) {x = x.tsn + length xs} {y = length xs + x.tsn} (omega arith)
      ∙ sym (mod-add-mod (length xs) (2 ^ 32) x.tsn) ∙ ap (λ n. n % 2 ^ 32) {x = length xs % 2 ^ 32 + x.tsn} {y = x.tsn + length xs % 2 ^ 32} (omega arith)
      ∙ ap (λ n. (x.tsn + n % 2 ^ 32) % 2 ^ 32) (sym at)))
