-- A fold over chunks, and then over what is left, is a fold over the list.
use Rattle.std.proofs.Common.{◌≡◌, ◌∙◌, ℕ, zero, suc, ◌+◌, ◌*◌, List, take, drop, sym, ap, arith}
use Rattle.std.specs.Prelude.{fold}
use Rattle.std.specs.Simd.{first_chunks}
use Rattle.std.proofs.Math.Nat.{zero-mul, suc-mul}
use Rattle.std.proofs.lemmas.List.{drop-drop, take-append-drop}
use Rattle.std.proofs.lemmas.List.Sums.{fold-append}

pub fold-first_chunks : {A : Type 0} (f : ℕ → A → ℕ) (n k : ℕ) (s : List A) (r : ℕ)
    → fold f (fold (fold f) r (first_chunks n k s)) (drop (k * n) s) ≡ fold f r s
fold-first_chunks f n zero s r = ap (λ it. fold f r (drop it s)) (zero-mul n)
fold-first_chunks f n (suc k) s r =
    let far : suc k * n ≡ n + k * n = omega (arith, suc-mul k n) in
    let past : drop (suc k * n) s ≡ drop (k * n) (drop n s) =
    ap (λ it. drop it s) far ∙ sym (drop-drop (k * n) n s) in
    ap (fold f (fold (fold f) (fold f r (take n s)) (first_chunks n k (drop n s)))) past
    ∙ fold-first_chunks f n k (drop n s) (fold f r (take n s))
    ∙ sym (fold-append f r (take n s) (drop n s))
    ∙ ap (fold f r) (take-append-drop n s)
