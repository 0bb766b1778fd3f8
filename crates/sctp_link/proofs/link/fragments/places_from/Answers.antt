use Rattle.sctp_link.proofs.Names.{◌≡◌, ◌+◌, ◌∷◌, ◌++◌, [], rules, refl, ap, sym, ◌∙◌, add-one, always, numbers_from, kept-snoc_in}
use Rattle.sctp_link.proofs.link.fragments.places_from.Goals as goal

pub loop-at-preserved : goal.loop-at-preserved
loop-at-preserved c =
    let more : c.push.new.self.items ≡ c.loop-at.places.items ++ (c.args.first + c.loop-at.at) ∷ [] = search rules in
    more ∙ ap (λ ps. ps ++ (c.args.first + c.loop-at.at) ∷ []) c.loop-at.invariant
    ∙ sym (ap (numbers_from c.args.first) (add-one c.loop-at.at) ∙ kept-snoc_in always c.args.first c.loop-at.at (c.args.first + c.loop-at.at) refl refl)
