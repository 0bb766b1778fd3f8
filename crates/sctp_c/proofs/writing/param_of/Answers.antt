use Rattle.std.proofs.Common.{sym, ◌∙◌, arith}
use Rattle.sctp_c.proofs.OwnParams.{own_not_read}
use Rattle.sctp_c.proofs.writing.param_of.Goals as goal

pub returns-then-is_own-clause-only : goal.returns-then-is_own-clause-only
returns-then-is_own-clause-only c p reads short =
    absurd (own_not_read c.args.typ c.args.value.now p (omega arith) (sym c.is_own.ensures ∙ c.if-is_own.true) reads)
