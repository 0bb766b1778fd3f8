-- The next message of the run is the first one that is due.
use Rattle.sctp_model.proofs.Names.{◌≡◌, ℕ, zero, suc, ◌+◌, ◌-◌, ◌<◌, ◌≤◌, Bool, true, false, List, [], ◌∷◌, ◌++◌, length, take, drop, Some, refl, ap, sym, ◌∙◌}
use Rattle.sctp_model.proofs.Names.{arith, if◌then◌else◌, ◌&&◌, not, nat_lt, nat_le, nat_tests, filter, numbers_where, leading, first_of, kept-same, kept-none}
use Rattle.sctp_model.proofs.Names.{front-kept, not_both, both}
use Rattle.sctp_model.proofs.receiver.View.{View, line, run, next, complete_at}
use Rattle.sctp_model.proofs.sender.Shape.{on, index}
use Rattle.sctp_model.proofs.receiver.Indexes.{index_on}

abbrev pub wanted : (ℕ → Bool) → (ℕ → Bool) → ℕ → Bool
wanted wh r x = not (r x) && wh x

-- each of the line that was read is complete
abbrev pub ReadComplete : (ℕ → Bool) → (ℕ → Bool) → List ℕ → Type 0
ReadComplete wh r [] = Unit {0}
ReadComplete wh r (x ∷ xs) = (r x ≡ true → wh x ≡ true) × ReadComplete wh r xs

pub run-tail : (wh r : ℕ → Bool) (line : List ℕ) → ReadComplete wh r line
    → first_of (filter (λ x. not (r x)) (leading wh line)) ≡ first_of (filter (wanted wh r) (take (length (leading r line) + 1) line))
run-tail wh r [] all = refl
run-tail wh r (x ∷ xs) all = search (arith, nat_tests, not_both, (run-tail wh r xs all.1))

pub take-none : (i : ℕ) (q : ℕ → Bool) → filter q (take i []) ≡ []
take-none i q = grind (arith, nat_tests)

pub run-first : (wh r : ℕ → Bool) (i : ℕ) (line : List ℕ) → ReadComplete wh r line
    → first_of (filter (λ x. not (r x)) (filter wh (take i line) ++ leading wh (drop i line)))
    ≡ first_of (filter (wanted wh r) (take (i + length (leading r (drop i line)) + 1) line))
run-first wh r zero [] all = refl
run-first wh r zero (x ∷ xs) all = grind (arith, nat_tests, run-tail)
run-first wh r (suc i) [] all = sym (ap first_of (take-none (suc i + 0 + 1) (wanted wh r)))
run-first wh r (suc i) (x ∷ xs) all = grind (arith, nat_tests, (run-first wh r i xs all.1))

-- the first ones of a line, by their places
pub take-kept : (p q : ℕ → Bool) (idx : ℕ → ℕ) (from count i b top : ℕ) → top ≡ b + i
    → ((k : ℕ) → from ≤ k → k < from + count → p k ≡ true → idx k ≡ b + length (numbers_where p from (k - from)))
    → filter q (take i (numbers_where p from count)) ≡ numbers_where (λ k. p k && (q k && nat_lt (idx k) top)) from count
take-kept p q idx from zero i b top t places = take-none i q
take-kept p q idx from (suc count) i b top t places = step (p from) refl i t
    (λ j c e same. take-kept p q idx (from + 1) count j c top e (λ k x y z. same k x y z))
  where
    later : (k : ℕ) → from + 1 ≤ k → k - from ≡ suc (k - (from + 1))
    later k le = omega arith

    step : (c : Bool) → p from ≡ c → (i : ℕ) → top ≡ b + i
        → ((j c : ℕ) → top ≡ c + j
        → ((k : ℕ) → from + 1 ≤ k → k < from + 1 + count → p k ≡ true → idx k ≡ c + length (numbers_where p (from + 1) (k - (from + 1))))
        → filter q (take j (numbers_where p (from + 1) count)) ≡ numbers_where (λ k. p k && (q k && nat_lt (idx k) top)) (from + 1) count)
        → filter q (take i (if c then from ∷ numbers_where p (from + 1) count else numbers_where p (from + 1) count))
        ≡ numbers_where (λ k. p k && (q k && nat_lt (idx k) top)) from (suc count)
    step false e i t ih =
        rw e (ih i b t (λ k x y z. places k (omega arith) (omega arith) z ∙ ap (λ n. b + length (numbers_where p from n)) (later k x) ∙ rw e refl))
    step true e zero t ih = grind (arith, nat_tests, kept-none)
    step true e (suc i) t ih =
        let zero' : from - from ≡ 0 = omega arith in
        let at : idx from ≡ b + length (numbers_where p from (from - from)) = places from (omega arith) (omega arith) e in
        let first : idx from ≡ b = at ∙ ap (λ n. b + length (numbers_where p from n)) zero' ∙ omega arith in
        let hit : nat_lt (idx from) top ≡ true = (let l : idx from < top = omega (arith, first) in grind (arith, nat_tests)) in
        rw (e, hit) (on (q from) (ih i (b + 1) (omega arith) (λ k x y z. places k (omega arith) (omega arith) z
        ∙ ap (λ n. b + length (numbers_where p from n)) (later k x) ∙ rw e (omega arith))))
      where
        on : (c : Bool) → filter q (take i (numbers_where p (from + 1) count)) ≡ numbers_where (λ k. p k && (q k && nat_lt (idx k) top)) (from + 1) count
            → (if c then from ∷ filter q (take i (numbers_where p (from + 1) count)) else filter q (take i (numbers_where p (from + 1) count)))
            ≡ (if true && (c && true) then from ∷ numbers_where (λ k. p k && (q k && nat_lt (idx k) top)) (from + 1) count
            else numbers_where (λ k. p k && (q k && nat_lt (idx k) top)) (from + 1) count)
        on c h1 = grind (arith, nat_tests)

-- an unread complete message of the stream, at most the one expected next
abbrev pub is_due : View → ℕ → ℕ → Bool
is_due v s n = on v.x s n && (not (v.read n) && (complete_at v n && nat_le (index v.x n) (next v s)))

-- the next one of the run
pub run-due : (v : View) (s : ℕ) → ((k : ℕ) → k < v.x.count → on v.x s k ≡ true → v.read k ≡ true → complete_at v k ≡ true)
    → first_of (filter (λ n. not (v.read n)) (run v s)) ≡ first_of (numbers_where (is_due v s) 0 v.x.count)
run-due v s reads =
    run-first (complete_at v) v.read (v.named s) (line v s) (all (on v.x s) 0 v.x.count (λ k a b e r. reads k (omega arith) e r))
    ∙ ap first_of (take-kept (on v.x s) (wanted (complete_at v) v.read) (index v.x) 0 v.x.count (next v s + 1) 0 (next v s + 1) (omega arith)
    (λ k a b e. index_on v.x s k e ∙ place k) ∙ kept-same (λ k. on v.x s k && (wanted (complete_at v) v.read k && nat_lt (index v.x k) (next v s + 1)))
    (is_due v s) 0 v.x.count (λ k a b. same (on v.x s k) (not (v.read k)) (complete_at v k) (index v.x k) (next v s)))
  where
    place : (k : ℕ) → length (numbers_where (on v.x s) 0 k) ≡ 0 + length (numbers_where (on v.x s) 0 (k - 0))
    place k = let e : k - 0 ≡ k = omega arith in rw e (omega arith)

    all : (p : ℕ → Bool) (from count : ℕ) → ((k : ℕ) → from ≤ k → k < from + count → p k ≡ true → v.read k ≡ true → complete_at v k ≡ true)
        → ReadComplete (complete_at v) v.read (numbers_where p from count)
    all p from zero h = tt
    all p from (suc count) h = step (p from) refl (all p (from + 1) count (λ k a b e r. h k (omega arith) (omega arith) e r))
      where
        step : (b : Bool) → p from ≡ b → ReadComplete (complete_at v) v.read (numbers_where p (from + 1) count)
            → ReadComplete (complete_at v) v.read (if b then from ∷ numbers_where p (from + 1) count else numbers_where p (from + 1) count)
        step b h1 h2 = grind (arith, nat_tests)

    same : (a b c : Bool) (i n : ℕ) → (a && ((b && c) && nat_lt i (n + 1))) ≡ (a && (b && (c && nat_le i n)))
    same a b c i n = grind (arith, nat_tests)

-- the first one due
pub record IsDue (v : View) (s n : ℕ) : Type 0 where
  pub made : n < v.x.count
  pub on_it : on v.x s n ≡ true
  pub unread : v.read n ≡ false
  pub complete_now : complete_at v n ≡ true
  pub near : index v.x n ≤ next v s
  -- none before it is
  pub first : (k : ℕ) → k < n → is_due v s k ≡ false

pub due-first : (v : View) (s n : ℕ) → first_of (numbers_where (is_due v s) 0 v.x.count) ≡ Some n → IsDue v s n
due-first v s n e = grind (arith, nat_tests, front-kept, both)
