use Rattle.std.proofs.Common.{◌≡◌, ℕ, ◌<◌, Option, None, is_some, ap, ◌∷◌, [], ◌++◌, Some, inl, inr, sym, ◌∙◌, subst, true, IsSome}
use Rattle.std.specs.List.{Contains}
use Rattle.std.proofs.lemmas.Bool.{cases_eq, both_ways}
use Rattle.std.proofs.lemmas.List.Elements.{All-push, Contains-append_left, Contains-push}
use Rattle.std.proofs.lemmas.List.Quantifiers.{all_pairs_push}
use Rattle.sctp_util.specs.Serial.{at_or_before, comes_before}
use Rattle.sctp_follow.specs.Spots.{at}
use Rattle.sctp_follow.specs.declared.spots.Spot.{Spot}
use Rattle.sctp_follow.proofs.Leaving.{some_is, pair_is, left_other, other_there, still_there, still_is}
use Rattle.sctp_follow.proofs.spots.Spots.pop_each.Goals as goal

pub popping-preserved : goal.popping-preserved
popping-preserved c =
    let i = c.popping.invariant in
    let p = c.in-Some.ensures in
    let e : ℕ × Spot = c.in-Some.spot in
    let f : ℕ → Option Spot = at c.popping.self in
    let g : ℕ → Option Spot = at c.pop.new.self in
    record {
      only = rw c.in_ok-push.ensures.items (All-push (λ (x : ℕ × Spot). (at c.args.self.now x.0 ≡ Some x.1) × (at_or_before x.0 c.args.tsn ≡ true)) _ e i.only (i.was e.0 e.1 p.was, p.up_to.1));
      all = λ t s fits is early. rw c.in_ok-push.ensures.items (elim (i.all t s fits is early) [
        | inl h ↦ inl (Contains-append_left _ _ _ h)
        | inr h ↦ elim (cases_eq t e.0) [
          | inl same ↦ inl (subst (Contains (c.popping.due.items ++ e ∷ []))
              (pair_is e t s (sym same) (some_is e.1 s (sym p.was ∙ subst (λ (n : ℕ). f n ≡ Some s) same h))) (Contains-push c.popping.due.items e))
          | inr other ↦ inr (left_other f g None e.0 p.left t other ∙ h)
        ]
      ]);
      was = λ t s is. i.was t s (still_is f g e.0 p.left t s is);
      stay = λ t late. left_other f g None e.0 p.left t (λ same. both_ways _ late (subst (λ (n : ℕ). at_or_before n c.args.tsn ≡ true) (sym same) p.up_to.1)) ∙ i.stay t late;
      order = rw c.in_ok-push.ensures.items (all_pairs_push (λ (x y : ℕ × Spot). comes_before x.0 y.0 ≡ true) _ e i.order
          (λ k d lt. i.later k d lt e.0 p.up_to.0 (ap is_some p.was) p.up_to.1));
      later = rw c.in_ok-push.ensures.items (All-push (λ (x : ℕ × Spot). (t : ℕ) → t < 4294967296 → IsSome (g t) → at_or_before t c.args.tsn ≡ true → comes_before x.0 t ≡ true)
          c.popping.due.items e
          (λ k d lt t fits has early. i.later k d lt t fits (still_there f g e.0 p.left t has) early)
          (λ t fits has early. p.first t fits (still_there f g e.0 p.left t has) early (other_there f g e.0 p.left t has)));
    }
