-- Fragments are looked at, one after the other.
use Rattle.std.proofs.Common.{◌≡◌, ℕ, List, [], ◌∷◌, ◌++◌, refl, sym, ap, subst, ◌∙◌, append_assoc, append-nil}
use Rattle.std.specs.BTreeMap.{BTreeMap}
use Rattle.sctp_follow.specs.Passing.{LooksAt, LooksAtEach}
use Rattle.sctp_follow.specs.declared.interleave.Whole.{Whole}
use Rattle.sctp_follow.specs.declared.lanes.Lane.{Lane}
use Rattle.sctp_follow.specs.declared.spots.Spot.{Spot}

pub looks_none : (old : BTreeMap ℕ Lane) → LooksAtEach [] [] old old
unfolding LooksAtEach
looks_none old = (refl, refl)

-- one more is looked at
pub looks_more : (es : List (ℕ × Spot)) (e : ℕ × Spot) (ms more : List Whole) (old mid new : BTreeMap ℕ Lane)
    → LooksAtEach es ms old mid → LooksAt e.1 more mid new → LooksAtEach (es ++ e ∷ []) (ms ++ more) old new
unfolding LooksAtEach
looks_more [] e ms more old mid new l k = (
  new,
  more,
  [],
  subst (λ (x : BTreeMap ℕ Lane). LooksAt e.1 more x new) l.1 k,
  (refl, refl),
  ap (λ (xs : List Whole). xs ++ more) l.0 ∙ sym (append-nil more),
)
looks_more (x ∷ xs) e ms more old mid new l k = (
  l.0,
  l.1,
  l.2 ++ more,
  l.3,
  looks_more xs e l.2 more l.0 mid new l.4 k,
  ap (λ (ys : List Whole). ys ++ more) l.5 ∙ append_assoc l.1 l.2 more,
)
