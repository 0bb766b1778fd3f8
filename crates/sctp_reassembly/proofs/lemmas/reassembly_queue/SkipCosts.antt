-- What is left of sets while a skip goes through them.
use Rattle.std.proofs.Common.{◌≡◌, ℕ, zero, suc, ◌+◌, ◌%◌, ◌^◌, ◌<◌, ◌≤◌, Bool, true, false, if◌then◌else◌, List, [], ◌∷◌, length, drop, get_or, refl, sym, ap}
use Rattle.std.proofs.Common.{subst, ◌∙◌, arith}
use Rattle.std.specs.List.{All, remove, filter}
use Rattle.std.proofs.lemmas.List.{drop_more}
use Rattle.std.proofs.lemmas.List.Sums.{sum_by-cons, length-filter, count_by-le-length}
use Rattle.sctp_data.specs.ChunkSet.{ChunkSet}
use Rattle.sctp_reassembly.specs.reassembly_queue.Counts.{set_chunks}
use Rattle.sctp_reassembly.specs.reassembly_queue.Orders.{IsInOrder}
use Rattle.sctp_reassembly.specs.reassembly_queue.Skips.{cannot_complete, ssn_past_sets}
use Rattle.sctp_util.specs.Serial.{at_or_before16}

-- behind one that is removed stands what stood behind it
pub drop_removed : {X : Type 0} (i : ℕ) (xs : List X) → drop i (remove xs i) ≡ drop (i + 1) xs
drop_removed zero [] = refl
drop_removed zero (x ∷ xs) = refl
drop_removed (suc i) [] = ap (λ n. drop n []) {x = suc (i + 1)} {y = suc i + 1} (omega arith)
drop_removed (suc i) (x ∷ xs) = drop_removed i xs ∙ ap (λ n. drop n (x ∷ xs)) {x = suc (i + 1)} {y = suc i + 1} (omega arith)

-- so many sets, and so many fragments in them, are left with the next one
pub left_with : (xs : List ChunkSet) (i : ℕ) (x : ChunkSet) → i < length xs → x ≡ get_or xs i x
    → (length (drop i xs) ≡ length (drop (i + 1) xs) + 1) × (set_chunks (drop i xs) ≡ length x.chunks + set_chunks (drop (i + 1) xs))
left_with xs i x lt read = (
  omega (arith, ap length (drop_more xs i x lt)),
  omega (
    arith,
    ap set_chunks (drop_more xs i x lt),
    sum_by-cons (λ (s : ChunkSet). length s.chunks) (get_or xs i x) (drop (i + 1) xs),
    ap (λ (s : ChunkSet). length s.chunks) read,
  ),
)

-- and where each of them is in order, the next one and those behind it are
pub order_here : (xs : List ChunkSet) (i : ℕ) (x : ChunkSet) → i < length xs → x ≡ get_or xs i x → All IsInOrder (drop i xs) → IsInOrder x
order_here xs i x lt read all =
    subst IsInOrder (sym read) ((subst (All IsInOrder) (drop_more xs i x lt) all) 0 x (omega arith))

pub order_behind : (xs : List ChunkSet) (i : ℕ) (x : ChunkSet) → i < length xs → All IsInOrder (drop i xs) → All IsInOrder (drop (i + 1) xs)
order_behind xs i x lt all k d short =
    (subst (All IsInOrder) (drop_more xs i x lt) all) (suc k) d (omega arith)

-- one set more of those that can't become complete is passed, or left out
pub past_step : (t next : ℕ) (x : ChunkSet) (xs : List ChunkSet)
    → ssn_past_sets (if cannot_complete t x then (if at_or_before16 next x.ssn then (x.ssn + 1) % 2 ^ 16 else next) else next) (filter (cannot_complete t) xs)
    ≡ ssn_past_sets next (filter (cannot_complete t) (x ∷ xs))
past_step t next x xs = by_case (cannot_complete t x)
  where
    by_case : (b : Bool)
        → ssn_past_sets (if b then (if at_or_before16 next x.ssn then (x.ssn + 1) % 2 ^ 16 else next) else next) (filter (cannot_complete t) xs)
        ≡ ssn_past_sets next (if b then x ∷ filter (cannot_complete t) xs else filter (cannot_complete t) xs)
    by_case true = refl
    by_case false = refl

pub past_from : (t next : ℕ) (xs : List ChunkSet) (i : ℕ) (x : ChunkSet) → i < length xs → x ≡ get_or xs i x
    → ssn_past_sets (if cannot_complete t x then (if at_or_before16 next x.ssn then (x.ssn + 1) % 2 ^ 16 else next) else next)
    (filter (cannot_complete t) (drop (i + 1) xs)) ≡ ssn_past_sets next (filter (cannot_complete t) (drop i xs))
past_from t next xs i x lt read =
    past_step t next x (drop (i + 1) xs)
    ∙ ap (λ ys. ssn_past_sets next (filter (cannot_complete t) ys)) (ap (λ y. y ∷ drop (i + 1) xs) read ∙ sym (drop_more xs i x lt))

-- what passes a test is no more than all
pub fewer : (p : ChunkSet → Bool) (xs : List ChunkSet) → length (filter p xs) ≤ length xs
fewer p xs = omega (arith, length-filter p xs, count_by-le-length p xs)
