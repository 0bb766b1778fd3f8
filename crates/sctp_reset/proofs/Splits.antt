-- How the streams that wait are split, one after another.
use Rattle.std.proofs.Common.{◌≡◌, ℕ, zero, suc, ◌+◌, ◌-◌, ◌<◌, ◌≤◌, Bool, true, false, List, [], ◌∷◌, ◌++◌, length, drop, refl, ap, sym, ◌∙◌, arith, get_or}
use Rattle.std.proofs.Common.{append_assoc, length-append, add-one}
use Rattle.std.proofs.Math.Seq.{drop-cons, take-nil}
use Rattle.std.proofs.lemmas.List.{drop_all, append-nil}
use Rattle.sctp_reset.specs.Own.{picked, unpicked}

-- ## One stream

take-one : (drained : ℕ → Bool) (most x : ℕ) (xs : List ℕ) → drained x ≡ true
    → picked drained (suc most) (x ∷ xs) ≡ x ∷ picked drained most xs
take-one drained most x xs is = rw is refl

untake-one : (drained : ℕ → Bool) (most x : ℕ) (xs : List ℕ) → drained x ≡ true
    → unpicked drained (suc most) (x ∷ xs) ≡ unpicked drained most xs
untake-one drained most x xs is = rw is refl

pass-one : (drained : ℕ → Bool) (most x : ℕ) (xs : List ℕ) → (0 < most → drained x ≡ false)
    → picked drained most (x ∷ xs) ≡ picked drained most xs
pass-one drained zero x xs not = refl
pass-one drained (suc most) x xs not = let e : drained x ≡ false = not (omega arith) in rw e refl

unpass-one : (drained : ℕ → Bool) (most x : ℕ) (xs : List ℕ) → (0 < most → drained x ≡ false)
    → unpicked drained most (x ∷ xs) ≡ x ∷ unpicked drained most xs
unpass-one drained zero x xs not = refl
unpass-one drained (suc most) x xs not = let e : drained x ≡ false = not (omega arith) in rw e refl

unpicked-nil : (drained : ℕ → Bool) (most : ℕ) → unpicked drained most [] ≡ []
unpicked-nil drained zero = refl
unpicked-nil drained (suc most) = refl

-- ## As far as the walk came

-- the first i of all were split into these two lists
pub record IsSplit (drained : ℕ → Bool) (most : ℕ) (all streams left : List ℕ) (i : ℕ) : Type 0 where
  pub picks : picked drained most all ≡ streams ++ picked drained (most - length streams) (drop i all)
  pub leaves : unpicked drained most all ≡ left ++ unpicked drained (most - length streams) (drop i all)

module _ (drained : ℕ → Bool) (most : ℕ) (all : List ℕ) where
  pub took : (streams left : List ℕ) (i : ℕ) → i < length all → length streams < most → drained (get_or all i 0) ≡ true
      → IsSplit drained most all streams left i → IsSplit drained most all (streams ++ get_or all i 0 ∷ []) left (i + 1)
  took streams left i within room is split =
      let x = get_or all i 0 in
      let room_after = most - length (streams ++ x ∷ []) in
      let room_is : most - length streams ≡ suc room_after = omega (arith, length-append streams (x ∷ [])) in
      let rest_is : drop i all ≡ x ∷ drop (i + 1) all = drop-cons all i 0 within ∙ ap (λ k. x ∷ drop k all) (sym (add-one i)) in
      record {
        picks = split.picks ∙ ap (λ ys. streams ++ ys) (rw (room_is, rest_is) (take-one drained room_after x (drop (i + 1) all) is))
            ∙ sym (append_assoc streams (x ∷ []) (picked drained room_after (drop (i + 1) all)));
        leaves = split.leaves ∙ ap (λ ys. left ++ ys) (rw (room_is, rest_is) (untake-one drained room_after x (drop (i + 1) all) is));
      }

  pub passed : (streams left : List ℕ) (i : ℕ) → i < length all → (length streams < most → drained (get_or all i 0) ≡ false)
      → IsSplit drained most all streams left i → IsSplit drained most all streams (left ++ get_or all i 0 ∷ []) (i + 1)
  passed streams left i within not split =
      let x = get_or all i 0 in
      let room = most - length streams in
      let isnt : 0 < room → drained x ≡ false = λ h. not (omega arith) in
      let rest_is : drop i all ≡ x ∷ drop (i + 1) all = drop-cons all i 0 within ∙ ap (λ k. x ∷ drop k all) (sym (add-one i)) in
      record {
        picks = split.picks ∙ ap (λ ys. streams ++ ys) (rw rest_is (pass-one drained room x (drop (i + 1) all) isnt));
        leaves = split.leaves ∙ ap (λ ys. left ++ ys) (rw rest_is (unpass-one drained room x (drop (i + 1) all) isnt))
            ∙ sym (append_assoc left (x ∷ []) (unpicked drained room (drop (i + 1) all)));
      }

  pub ended : (streams left : List ℕ) (i : ℕ) → length all ≤ i → IsSplit drained most all streams left i
      → (streams ≡ picked drained most all) × (left ≡ unpicked drained most all)
  ended streams left i end split =
      let room = most - length streams in
      let rest_is : drop i all ≡ [] = drop_all i all end in (
        sym (split.picks ∙ ap (λ ys. streams ++ ys) (rw rest_is (take-nil room)) ∙ append-nil streams),
        sym (split.leaves ∙ ap (λ ys. left ++ ys) (rw rest_is (unpicked-nil drained room)) ∙ append-nil left),
      )
