use Rattle.std.proofs.Common.{ℕ, subst}
use Rattle.sctp_association.proofs.outbound.Outbound.put_lost.Goals as goal
use Rattle.sctp_association.specs.Congested.{Resends, path_of}

pub returns-clause-again : goal.returns-clause-again
returns-clause-again c =
    subst (λ (n : ℕ). Resends c.args.now c.args.self.now.rto c.args.self.now.is_fast n (path_of c.args.self.now) (path_of c.put_marked.new.self))
    c.flight-flight.ensures c.put_marked.ensures.again
