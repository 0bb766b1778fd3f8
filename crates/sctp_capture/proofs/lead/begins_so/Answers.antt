use Rattle.std.proofs.Common.{sym, arith}
use Rattle.std.proofs.lemmas.Grind.{common_steps}
use Rattle.sctp_capture.proofs.Leads.{short_line, other_byte, all_bytes}
use Rattle.sctp_capture.proofs.lead.begins_so.Goals as goal

pub returns-then-line-pattern-clause-is : goal.returns-then-line-pattern-clause-is
returns-then-line-pattern-clause-is c = sym (short_line c.args.pattern.now c.args.line.now (omega (arith, c.if-line-pattern.true)))

pub returns-then-not-fits-clause-is : goal.returns-then-not-fits-clause-is
returns-then-not-fits-clause-is c =
    sym (other_byte c.args.pattern.now c.args.line.now c.loop-i.i (omega (arith, c.loop-i-test.true))
    (omega (arith, c.loop-i-test.true, c.if-line-pattern.false)) (grind (arith, common_steps)))

pub returns-clause-is : goal.returns-clause-is
returns-clause-is c =
    sym (all_bytes c.args.pattern.now c.args.line.now (omega (arith, c.if-line-pattern.false))
    (λ k lt. c.loop-i.invariant k (omega (arith, lt, c.loop-i-test.false))))
