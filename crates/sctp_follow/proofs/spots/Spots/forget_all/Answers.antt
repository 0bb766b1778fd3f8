use Rattle.std.proofs.Common.{◌≡◌, ℕ, ◌==◌, ◌++◌, ◌∷◌, [], sym, ◌∙◌, append_assoc, ap, List}
use Rattle.sctp_follow.specs.Spots.{at}
use Rattle.sctp_follow.specs.declared.interleave.Fragment.{Fragment}
use Rattle.sctp_follow.proofs.Forgetting.{forgets_more}
use Rattle.sctp_follow.proofs.spots.Spots.forget_all.Goals as goal

pub loop-fragment-preserved : goal.loop-fragment-preserved
loop-fragment-preserved c =
    let i = c.loop-fragment.invariant in
    let f = c.in-Some.fragment.now in (
      i.0 ++ f ∷ [],
      i.1 ∙ ap (λ (xs : List Fragment). i.0 ++ xs) c.in-Some.ensures.steps ∙ sym (append_assoc i.0 (f ∷ []) _),
      λ t. forgets_more (λ (x : Fragment). t == x.tsn) i.0 f (at c.args.self.now t) (at c.loop-fragment.self t) (at c.forget.new.self t) (i.2 t) (c.forget.ensures t),
    )
