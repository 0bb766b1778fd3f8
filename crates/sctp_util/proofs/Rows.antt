-- Kept numbers that stand in a row.
use Rattle.std.proofs.Common.{◌≡◌, ℕ, zero, suc, ◌+◌, ◌<◌, ◌≤◌, Bool, true, false, [], ◌∷◌, ◌++◌, length, map, refl, ap, sym, ◌∙◌, inl, inr, arith}
use Rattle.std.proofs.Common.{length-append}
use Rattle.std.specs.Prelude.{◌⊎◌, if◌then◌else◌}
use Rattle.std.proofs.lemmas.Bool.{cases_lt}
use Rattle.std.proofs.lemmas.List.{map-append}
use Rattle.sctp_util.specs.Kept.{numbers_where, always}
use Rattle.sctp_util.proofs.Passing.{kept-none, kept-snoc_in, kept-snoc_out}
use Rattle.sctp_util.proofs.More.{fails, not_both}
use Rattle.sctp_util.proofs.Totals.{length-numbers}

-- what counts the kept numbers before each of them gives 0, 1, ..
pub numbered : (f : ℕ → ℕ) (t : ℕ → Bool) (count : ℕ) → ((k : ℕ) → k < count → t k ≡ true → f k ≡ length (numbers_where t 0 k))
    → map f (numbers_where t 0 count) ≡ numbers_where always 0 (length (numbers_where t 0 count))
numbered f t zero h = refl
numbered f t (suc count) h = step (t count) refl (numbered f t count (λ k lt e. h k (omega arith) e))
  where
    step : (b : Bool) → t count ≡ b → map f (numbers_where t 0 count) ≡ numbers_where always 0 (length (numbers_where t 0 count))
        → map f (numbers_where t 0 (suc count)) ≡ numbers_where always 0 (length (numbers_where t 0 (suc count)))
    step false e ih = let z = kept-snoc_out t 0 count count (omega arith) e in ap (map f) z ∙ ih ∙ ap (λ l. numbers_where always 0 (length l)) (sym z)
    step true e ih =
        let z = kept-snoc_in t 0 count count (omega arith) e in
        let n = length (numbers_where t 0 count) in
        ap (map f) z ∙ map-append f (numbers_where t 0 count) (count ∷ []) ∙ ap (λ l. l ++ f count ∷ []) ih
        ∙ ap (λ c. numbers_where always 0 n ++ c ∷ []) (h count (omega arith) e)
        ∙ sym (ap (λ l. numbers_where always 0 (length l)) z ∙ ap (numbers_where always 0) (let l : length (numbers_where t 0 count ++ count ∷ []) ≡ suc n =
        omega (arith, length-append (numbers_where t 0 count) (count ∷ [])) in l) ∙ kept-snoc_in always 0 n n (omega arith) refl)

-- where each kept number but the first has the one before it beside it, they are a row
pub record IsRow (t : ℕ → Bool) (count : ℕ) : Type 0 where
  pub from : ℕ
  pub many : ℕ
  pub is : numbers_where t 0 count ≡ numbers_where always from many
  pub ends : 0 < many → t count ≡ true → from + many ≡ count

pub row : (t : ℕ → Bool) (count : ℕ) → ((k : ℕ) → k < count → t k ≡ true → 0 < length (numbers_where t 0 k) → (q : ℕ) × (k ≡ q + 1) × (t q ≡ true))
    → ((k : ℕ) → count ≤ k → t k ≡ false) → IsRow t count
row t count beside past = upto count (omega arith)
  where
    longer : (c : ℕ) → c < count → (r : IsRow t c) → (b : Bool) → t c ≡ b → (0 < r.many) ⊎ (r.many ≤ 0) → IsRow t (suc c)
    longer c lt r true e (inl pos) = record {
      from = r.from;
      many = suc r.many;
      is = kept-snoc_in t 0 c c (omega arith) e ∙ ap (λ l. l ++ c ∷ []) r.is ∙ sym (kept-snoc_in always r.from r.many c (omega (arith, r.ends pos e)) refl);
      ends = λ p f. omega (arith, r.ends pos e);
    }
    longer c lt r true e (inr z) = record {
      from = c;
      many = 1;
      is = kept-snoc_in t 0 c c (omega arith) e ∙ ap (λ l. l ++ c ∷ []) (r.is ∙ ap (numbers_where always r.from) (let y : r.many ≡ 0 = omega arith in y));
      ends = λ p f. omega arith;
    }
    longer c lt r false e s = record {
      from = r.from;
      many = r.many;
      is = kept-snoc_out t 0 c c (omega arith) e ∙ r.is;
      ends = λ p f. absurd (gap p f (cases_lt (suc c) count));
    }
      where
        some : 0 < r.many → 0 < length (numbers_where t 0 (suc c))
        some p = omega (arith, ap length (kept-snoc_out t 0 c c (omega arith) e), ap length r.is, length-numbers r.from r.many)

        gap : 0 < r.many → t (suc c) ≡ true → (suc c < count) ⊎ (count ≤ suc c) → ⊥
        gap p f (inr g) = not_both (sym (past (suc c) g) ∙ f)
        gap p f (inl l) = let b = beside (suc c) l f (some p) in let same : b.0 ≡ c = omega (arith, b.1) in not_both (sym e ∙ ap t (sym same) ∙ b.2)

    upto : (c : ℕ) → c ≤ count → IsRow t c
    upto zero le = record { from = 0; many = 0; is = refl; ends = λ p f. absurd (omega arith) }
    upto (suc c) le = let r = upto c (omega arith) in longer c (omega arith) r (t c) refl (cases_lt 0 r.many)

-- numbers of which any two are the same: one at most
pub at-most-one : (t : ℕ → Bool) (from count : ℕ) → ((j k : ℕ) → t j ≡ true → t k ≡ true → j ≡ k) → length (numbers_where t from count) ≤ 1
at-most-one t from zero h = omega arith
at-most-one t from (suc count) h = step (t from) refl (at-most-one t (from + 1) count h)
  where
    step : (b : Bool) → t from ≡ b → length (numbers_where t (from + 1) count) ≤ 1
        → length (if b then from ∷ numbers_where t (from + 1) count else numbers_where t (from + 1) count) ≤ 1
    step false e ih = ih
    step true e ih = let z = kept-none t (from + 1) count (λ k a b. fails (t k) (λ f. absurd (omega (arith, h from k e f)))) in rw z (omega arith)
