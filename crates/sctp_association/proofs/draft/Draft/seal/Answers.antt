use Rattle.sctp_association.proofs.Drafting.{sealed_fits}
use Rattle.sctp_association.proofs.draft.Draft.seal.Goals as goal

pub invariant_of-self-then-is_zero : goal.invariant_of-self-then-is_zero
invariant_of-self-then-is_zero c = sealed_fits _ c.self.inside.limit c.self.inside.writer c.in-Some.writer c.seal.new.self c.in-Some.is c.seal.ensures.stored
    c.seal.ensures.unbegun c.seal.ensures.limit c.self.invariant

pub invariant_of-self-2 : goal.invariant_of-self-2
invariant_of-self-2 c = sealed_fits _ c.self.inside.limit c.self.inside.writer c.in-Some.writer c.seal-2.new.self c.in-Some.is c.seal-2.ensures.stored
    c.seal-2.ensures.unbegun c.seal-2.ensures.limit c.self.invariant
