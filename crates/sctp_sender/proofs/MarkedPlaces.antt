-- A walk over the first places of a list that changes some of what stands there.
use Rattle.sctp_sender.proofs.Names.{◌≡◌, ℕ, suc, ◌+◌, ◌<◌, ◌≤◌, Bool, false, List, [], ◌∷◌, ◌++◌, length, take, drop, get_or, refl, ap, sym, ◌∙◌, arith}
use Rattle.sctp_sender.proofs.Names.{if◌then◌else◌, All, filter, append-nil, take-append-drop, get_or-drop, those-append}
use Rattle.std.proofs.lemmas.List.{length-drop}

-- ## Nothing passes behind the first so many

module _ {X : Type 0} (p : X → Bool) (xs : List X) (reach : ℕ) (beyond : (k : ℕ) (d : X) → reach ≤ k → k < length xs → p (get_or xs k d) ≡ false) where
  rest-fails : All (λ x. p x ≡ false) (drop reach xs)
  rest-fails = λ k d lt. ap p (get_or-drop reach xs k d) ∙ beyond (reach + k) d (omega arith) (let n = length-drop reach xs in omega (arith, n, lt))

  none-pass : (zs : List X) → All (λ x. p x ≡ false) zs → filter p zs ≡ []
  none-pass [] all = refl
  none-pass (z ∷ zs) all = ap (λ b. if b then z ∷ filter p zs else filter p zs) (all 0 z (omega arith))
      ∙ none-pass zs (λ k d lt. all (suc k) d (omega (arith, lt)))

  pub all-answered : filter p (take reach xs) ≡ filter p xs
  all-answered =
      sym (append-nil (filter p (take reach xs))) ∙ ap (λ zs. filter p (take reach xs) ++ zs) (sym (none-pass (drop reach xs) rest-fails))
      ∙ sym (those-append p (take reach xs) (drop reach xs)) ∙ ap (filter p) (take-append-drop reach xs)
