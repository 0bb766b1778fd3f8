use Rattle.sctp_receiver.proofs.Names.{◌≡◌, List, [], ◌∷◌, ◌++◌, length, Option, None, Some, ap, sym, subst, ◌∙◌, slice_get, by_same, some-same, OrderedSkips}
use Rattle.sctp_receiver.proofs.Names.{AreNone}
use Rattle.sctp_receiver.proofs.VisitOrders.{end-here, end-there}
use Rattle.sctp_receiver.proofs.receiver.names.make_room.Goals as goal

-- one more of which nothing is noted
one-more : (ns : List (Option OrderedSkips)) → AreNone ns → AreNone (ns ++ None ∷ [])
one-more ns none = λ p s e. by_same p (length ns)
    (λ z. not-some (some-same (sym (ap (slice_get (ns ++ None ∷ [])) z ∙ end-here ns None) ∙ e)))
    (λ ne t. none p s (sym (end-there ns None p ne) ∙ e))
  where
    not-some : {s : OrderedSkips} → None ≡ Some s → ⊥
    not-some e = absurd (cc)

pub returns-in_ok-make_place-clause-none : goal.returns-in_ok-make_place-clause-none
returns-in_ok-make_place-clause-none c =
    let put = c.put.ensures.items ∙ ap (λ ns. ns ++ None ∷ []) c.make_place.ensures.items in
    subst AreNone (sym put) (one-more c.args.noted.now.items c.requires.none)
