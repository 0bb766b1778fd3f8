use Rattle.sctp_sender.proofs.Names.{List, sym, subst, ◌∙◌, ChunkForwardTsnStream, IsFirstPair}
use Rattle.sctp_sender.proofs.Pairs.{same-streams}
use Rattle.sctp_sender.proofs.sender.flight.pairs.Pairs.set.Goals as goal

pub invariant_of-self : goal.invariant_of-self
invariant_of-self c =
    let first : IsFirstPair c.args.pair.identifier c.self.inside.items.items c.args.place =
    subst (λ (ps : List ChunkForwardTsnStream). IsFirstPair c.args.pair.identifier ps c.args.place) (sym c.self.view_is) c.requires in
    c.self.invariant ∙ sym (same-streams c.self.inside.items.items c.args.place c.args.pair first.inside first.here)
