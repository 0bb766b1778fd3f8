use Rattle.sctp_sender.proofs.Names.{◌++◌, ◌∷◌, [], List, subst, sym, refl, ChunkForwardTsnStream, Name}
use Rattle.sctp_sender.proofs.NamedStreams.{renamed, added}
use Rattle.sctp_sender.proofs.sender.flight.skips.name_within.Goals as goal

pub returns-in-Some-clause-named : goal.returns-in-Some-clause-named
returns-in-Some-clause-named c = λ _ cs names.
    subst (λ (ps : List ChunkForwardTsnStream). Name ps (cs ++ c.args.chunk.now ∷ [])) (sym c.set.ensures)
    (renamed c.args.pairs.now cs c.args.chunk.now c.in-Some.at c.in-Some.ensures.some names)

pub returns-clause-named : goal.returns-clause-named
returns-clause-named c = λ _ cs names.
    subst (λ (ps : List ChunkForwardTsnStream). Name ps (cs ++ c.args.chunk.now ∷ [])) (sym c.in_ok-push.ensures.ok)
    (added c.args.pairs.now cs c.args.chunk.now (c.in_default.ensures.none refl) names)
