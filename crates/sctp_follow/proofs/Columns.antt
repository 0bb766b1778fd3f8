-- A column of a picture with a number more.
use Rattle.std.proofs.Common.{◌≡◌, ℕ, ◌+◌, ◌-◌, ◌≤◌, ◌==◌, min, max, Bool, true, false, if◌then◌else◌, List, [], ◌∷◌, ◌++◌, length, get_or, map, filter, Option}
use Rattle.std.proofs.Common.{Some, None, refl, sym, subst, ap, ◌∙◌, arith, inl, inr}
use Rattle.std.specs.Prelude.{slice_get}
use Rattle.std.specs.List.{All, Contains}
use Rattle.std.proofs.lemmas.Bool.{cases_lt, cases_eq, eq-eqb, ne_eqb}
use Rattle.std.proofs.lemmas.List.{length-append, map-append, append-nil}
use Rattle.std.proofs.lemmas.List.Elements.{All-push, Contains-append_left, Contains-push, filter-append}
use Rattle.std.proofs.Math.Seq.{get_or-append_seam}
use Rattle.std.proofs.lemmas.Option.{slice_get-get_or}
use Rattle.sctp_follow.specs.Strip.{IsColumn, IsColumnOf, column_with, column_at, values_in}
use Rattle.sctp_follow.specs.declared.band.Level.{Level}
use Rattle.sctp_follow.specs.declared.svg.Frame.{Frame}
use Rattle.sctp_follow.proofs.Leaving.{chosen, passed}
use Rattle.sctp_follow.specs.declared.strip.Column.{Column}

last_pushed : (values : List ℕ) (v : ℕ) → slice_get (values ++ v ∷ []) (length (values ++ v ∷ []) - 1) ≡ Some v
last_pushed values v =
    let e : length (values ++ v ∷ []) - 1 ≡ length values = omega (arith, length-append values (v ∷ [])) in
    rw e (slice_get-get_or (values ++ v ∷ []) (length values) v (omega (arith, length-append values (v ∷ []))) ∙ ap Some (get_or-append_seam values v [] v))

column_first : (v : ℕ) → IsColumn (v ∷ []) (record { low = v; high = v; last = v })
column_first v = record {
  low = Contains-push [] v;
  least = All-push (λ x. v ≤ x) [] v (λ k d lt. absurd (omega arith)) (omega arith);
  high = Contains-push [] v;
  greatest = All-push (λ x. x ≤ v) [] v (λ k d lt. absurd (omega arith)) (omega arith);
  last = last_pushed [] v;
}

column_more : (values : List ℕ) (v : ℕ) (c : Column) → IsColumn values c
    → IsColumn (values ++ v ∷ []) (record { low = min c.low v; high = max c.high v; last = v })
column_more values v c is = record {
  low = elim (cases_lt v c.low) [
    | inl less ↦ let e : min c.low v ≡ v = omega (arith, less) in rw e (Contains-push values v)
    | inr more ↦ let e : min c.low v ≡ c.low = omega (arith, more) in rw e (Contains-append_left values (v ∷ []) c.low is.low)
  ];
  least = All-push (λ x. min c.low v ≤ x) values v (λ k d lt. let h = is.least k d lt in omega (arith, h)) (omega arith);
  high = elim (cases_lt v c.high) [
    | inl less ↦ let e : max c.high v ≡ c.high = omega (arith, less) in rw e (Contains-append_left values (v ∷ []) c.high is.high)
    | inr more ↦ let e : max c.high v ≡ v = omega (arith, more) in rw e (Contains-push values v)
  ];
  greatest = All-push (λ x. x ≤ max c.high v) values v (λ k d lt. let h = is.greatest k d lt in omega (arith, h)) (omega arith);
  last = last_pushed values v;
}

-- with a number more a column is that of all of them
column_is : (values : List ℕ) (before : Option Column) (v : ℕ) → IsColumnOf values before → IsColumn (values ++ v ∷ []) (column_with before v)
column_is values None v is = subst (λ (xs : List ℕ). IsColumn (xs ++ v ∷ []) (column_with None v)) (sym is) (column_first v)
column_is values (Some c) v is = column_more values v c is

-- what passes a test among some and one more
one_kept : {X : Type 0} (p : X → Bool) (f : X → ℕ) (x : X) (b : Bool) → p x ≡ b → map f (filter p (x ∷ [])) ≡ (if b then f x ∷ [] else [])
one_kept p f x true e = rw e refl
one_kept p f x false e = rw e refl

kept : {X : Type 0} (p : X → Bool) (f : X → ℕ) (xs : List X) (x : X) (b : Bool) → p x ≡ b
    → map f (filter p (xs ++ x ∷ [])) ≡ map f (filter p xs) ++ (if b then f x ∷ [] else [])
kept p f xs x b e =
    ap (map f) (filter-append p xs (x ∷ [])) ∙ map-append f (filter p xs) (filter p (x ∷ []))
    ∙ ap (λ (ys : List ℕ). map f (filter p xs) ++ ys) (one_kept p f x b e)

module _ (frame : Frame) (levels : List Level) (l : Level) (f g : ℕ → Option Column) (was : (k : ℕ) → IsColumnOf (values_in frame k levels) (f k))
    (new : (k : ℕ) → g k ≡ (if k == column_at frame l then Some (column_with (f (column_at frame l)) l.value) else f k)) where
  -- with a level more each column is that of its numbers
  pub columns_more : (k : ℕ) → IsColumnOf (values_in frame k (levels ++ l ∷ [])) (g k)
  columns_more k = elim (cases_eq k (column_at frame l)) [
    | inl same ↦
        let e : values_in frame k (levels ++ l ∷ []) ≡ values_in frame k levels ++ l.value ∷ [] =
        kept (λ (x : Level). column_at frame x == k) (λ (x : Level). x.value) levels l true (eq-eqb (column_at frame l) k (sym same)) in
        let h : g k ≡ Some (column_with (f (column_at frame l)) l.value) = new k
        ∙ chosen (k == column_at frame l) _ (f k) (eq-eqb k (column_at frame l) same) in
        let w : IsColumnOf (values_in frame k levels) (f (column_at frame l)) = subst (λ (n : ℕ). IsColumnOf (values_in frame k levels) (f n)) same (was k) in
        rw (e, h) (column_is (values_in frame k levels) (f (column_at frame l)) l.value w)
    | inr other ↦
        let e : values_in frame k (levels ++ l ∷ []) ≡ values_in frame k levels =
        kept (λ (x : Level). column_at frame x == k) (λ (x : Level). x.value) levels l false (ne_eqb (column_at frame l) k (λ s. other (sym s)))
        ∙ append-nil (values_in frame k levels) in
        let h : g k ≡ f k = new k ∙ passed (k == column_at frame l) _ (f k) (ne_eqb k (column_at frame l) other) in
        rw (e, h) (was k)
  ]
