use Rattle.std.proofs.Common.{rules}
use Rattle.std.proofs.lemmas.Result.{err_from_is_err_and}
use Rattle.sctp_datagram.proofs.Walk.{counted_there, counted_told}
use Rattle.sctp_datagram.proofs.datagram.Datagram.open.Goals as goal

pub returns-in_err-left-clause-only : goal.returns-in_err-left-clause-only
returns-in_err-left-clause-only g c = λ rows accepted told.
    let p = err_from_is_err_and c.from_residual-in_err-left.result c.from_residual-in_err-left.ensures.1 in
    rw (p.1, p.2) (c.in_err-left.ensures.only rows told)

pub invariant_of-result : goal.invariant_of-result
invariant_of-result g c = (search rules, counted_there c.args.raw.now c.in_ok-left.left c.in_ok-left.ensures.found)

pub returns-clause-all : goal.returns-clause-all
returns-clause-all g c = counted_told c.args.raw.now c.in_ok-left.left c.in_ok-left.ensures.found
