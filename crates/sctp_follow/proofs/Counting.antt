-- Round trips are counted under their lengths.
use Rattle.std.proofs.Common.{◌≡◌, ℕ, ◌+◌, ◌≤◌, List, [], ◌∷◌, ◌++◌, Option, Some, None, refl, arith, ap, ◌∙◌}
use Rattle.std.specs.Prelude.{unwrap_or, option_map, sum_by}
use Rattle.std.specs.Map.{keys_of, values_of, lookup}
use Rattle.std.specs.Ordering.{nat_cmp}
use Rattle.std.specs.List.Sorted.{IsStrictlySortedBy}
use Rattle.std.specs.BTreeMap.{insert_entry, is_at}
use Rattle.std.proofs.lemmas.Cmp.{nat_cmp_total}
use Rattle.std.proofs.lemmas.List.{map-append}
use Rattle.std.proofs.lemmas.List.Sums.{sum_by_push}
use Rattle.std.proofs.lemmas.Map.Entries.{sum_by-insert_entry}
use Rattle.sctp_follow.specs.Flow.{counted}
use Rattle.sctp_follow.specs.Trips.{count_of}

-- one more is counted under a length
pub counted_more : (es : List (ℕ × ℕ)) (k total : ℕ) → IsStrictlySortedBy nat_cmp (keys_of es) → total ≤ count_of es
    → counted total 1 ≤ count_of (insert_entry nat_cmp es k (counted (unwrap_or (lookup (is_at (nat_cmp k)) es) 0) 1))
counted_more es k total sorted within = by (lookup (is_at (nat_cmp k)) es) refl
  where
    by : (found : Option ℕ) → lookup (is_at (nat_cmp k)) es ≡ found → counted total 1 ≤ count_of (insert_entry nat_cmp es k (counted (unwrap_or found 0) 1))
    by None e =
        let s = sum_by-insert_entry (λ n. n) nat_cmp_total es k (counted 0 1) sorted in
        omega (arith, within, s, ap (λ (o : Option ℕ). unwrap_or (option_map (λ n. n) o) 0) e)
    by (Some c) e =
        let s = sum_by-insert_entry (λ n. n) nat_cmp_total es k (counted c 1) sorted in
        let z = sum_by-insert_entry (λ n. n) nat_cmp_total es k 0 sorted in
        omega (arith, within, s, z, ap (λ (o : Option ℕ). unwrap_or (option_map (λ n. n) o) 0) e)

-- of lengths and one length more
pub count_push : (before : List (ℕ × ℕ)) (length count : ℕ) → count_of (before ++ (length, count) ∷ []) ≡ count_of before + count
count_push before length count = ap (sum_by (λ n. n)) (map-append (λ e. e.1) before _) ∙ sum_by_push (λ n. n) (values_of before) count
