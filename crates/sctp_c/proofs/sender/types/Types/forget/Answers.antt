use Rattle.std.proofs.Common.{subst, sym}
use Rattle.sctp_c.specs.Types.{Up}
use Rattle.sctp_c.proofs.Noted.{up-remove}
use Rattle.sctp_c.proofs.sender.types.Types.forget.Goals as goal

pub invariant_of-self : goal.invariant_of-self
invariant_of-self c = subst Up (sym c.remove.ensures.items) (up-remove c.self.inside.rows.items c.args.place c.self.invariant)
