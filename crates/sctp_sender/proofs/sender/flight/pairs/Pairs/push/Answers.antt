use Rattle.sctp_sender.proofs.Names.{List, sym, subst, length, ChunkForwardTsnStream, IsAbsent, IsNoPair}
use Rattle.sctp_sender.proofs.Pairs.{absent}
use Rattle.sctp_sender.proofs.sender.flight.pairs.Pairs.push.Goals as goal

pub push-requires : goal.push-requires
push-requires c =
    let none : IsNoPair c.args.pair.identifier c.self.inside.items.items (length c.self.inside.items.items) =
    subst (λ (ps : List ChunkForwardTsnStream). IsNoPair c.args.pair.identifier ps (length ps)) (sym c.self.view_is) c.requires in
    subst (IsAbsent c.args.pair.identifier) (sym c.self.invariant) (absent c.args.pair.identifier c.self.inside.items.items none)
