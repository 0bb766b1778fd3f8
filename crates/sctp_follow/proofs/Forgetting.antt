-- What is known of TSNs after some of them are forgotten, one after the other.
use Rattle.std.proofs.Common.{◌≡◌, Bool, true, false, ◌||◌, if◌then◌else◌, List, [], ◌∷◌, ◌++◌, Option, None, refl, sym, ap, ◌∙◌}
use Rattle.std.specs.List.{list_any}
use Rattle.std.proofs.lemmas.List.Folds.{list_any-append}

both : {S : Type 0} (b a : Bool) (old mid new : Option S) → mid ≡ (if b then None else old) → new ≡ (if a then None else mid)
    → new ≡ (if b || (a || false) then None else old)
both true true old mid new m n = n
both true false old mid new m n = n ∙ m
both false true old mid new m n = n
both false false old mid new m n = n ∙ m

pub forgets_more : {S X : Type 0} (p : X → Bool) (seen : List X) (x : X) (old mid new : Option S) → mid ≡ (if list_any p seen then None else old)
    → new ≡ (if p x then None else mid) → new ≡ (if list_any p (seen ++ x ∷ []) then None else old)
forgets_more p seen x old mid new m n = rw (list_any-append p seen (x ∷ [])) (both (list_any p seen) (p x) old mid new m n)
