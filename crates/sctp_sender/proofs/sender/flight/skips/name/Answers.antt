use Rattle.sctp_sender.proofs.Names.{◌++◌, ◌∷◌, [], List, refl, subst, sym, ChunkForwardTsnStream, Name}
use Rattle.sctp_sender.proofs.NamedStreams.{renamed, added}
use Rattle.sctp_sender.proofs.sender.flight.skips.name.Goals as goal

pub returns-in-Some-clause-ok : goal.returns-in-Some-clause-ok
returns-in-Some-clause-ok c = λ cs names.
    subst (λ (ps : List ChunkForwardTsnStream). Name ps (cs ++ c.args.chunk.now ∷ [])) (sym c.set.ensures)
    (renamed c.args.pairs.now cs c.args.chunk.now c.in-Some.place c.in-Some.ensures.some names)

pub returns-clause-ok : goal.returns-clause-ok
returns-clause-ok c = λ cs names.
    subst (λ (ps : List ChunkForwardTsnStream). Name ps (cs ++ c.args.chunk.now ∷ [])) (sym c.in_ok-push.ensures.ok)
    (added c.args.pairs.now cs c.args.chunk.now (c.in_default.ensures.none refl) names)
