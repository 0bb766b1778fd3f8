use Rattle.std.proofs.Common.{◌≡◌, ◌+◌, ◌-◌, true, false, length, sym, ap, Err, ◌∙◌, arith}
use Rattle.std.proofs.lemmas.Result.{err_from_is_err_and}
use Rattle.sctp_handshake.specs.ParamTypes as types
use Rattle.sctp_handshake.specs.InitValues.{place, noted, said_from}
use Rattle.sctp_handshake.proofs.InitSteps.{said_over, said_ended, said_broken, said_next, said_none, init_of_long}
use Rattle.sctp_handshake.proofs.init_value.Said.read_init.Goals as goal

pub returns-in_err-param : goal.returns-in_err-param
returns-in_err-param c =
    let p = err_from_is_err_and c.from_residual.result c.from_residual.ensures.1 in
    let value = c.args.value.now in
    let broken = said_broken value c.loop-seen.at c.loop-seen.said (length value - c.loop-seen._seen) (omega arith) (omega arith)
    c.in_err-param.ensures.param.0 in
    let rest = init_of_long value (omega arith) in
    rw (p.1, p.2) (ap Err c.in_err-param.ensures.param.1 ∙ sym broken ∙ c.loop-seen.invariant.same ∙ sym rest)

pub returns-after-loop-seen : goal.returns-after-loop-seen
returns-after-loop-seen c =
    sym (said_none c.args.value.now c.loop-seen.at (length c.args.value.now - c.loop-seen._seen) c.loop-seen.said (omega arith))
    ∙ c.loop-seen.invariant.same ∙ sym (init_of_long c.args.value.now (omega arith))

pub returns-then-value-at-lt4 : goal.returns-then-value-at-lt4
returns-then-value-at-lt4 c =
    sym (said_over c.args.value.now c.loop-seen.at c.loop-seen.said (length c.args.value.now - c.loop-seen._seen) (omega arith))
    ∙ c.loop-seen.invariant.same ∙ sym (init_of_long c.args.value.now (omega arith))

pub returns-then-ends_at : goal.returns-then-ends_at
returns-then-ends_at c =
    let value = c.args.value.now in
    let here = c.in_ok-param.ensures.param in
    let ends : types.ends_at (place value c.loop-seen.at).typ ≡ true = cc (here.1, c.ends_at.ensures, c.if-ends_at.true) in
    sym (said_ended value c.loop-seen.at c.loop-seen.said (length value - c.loop-seen._seen) (omega arith) here.0 ends)
    ∙ c.loop-seen.invariant.same ∙ sym (init_of_long value (omega arith))

pub loop-seen-preserved : goal.loop-seen-preserved
loop-seen-preserved c =
    let value = c.args.value.now in
    let at = c.loop-seen.at in
    let said = c.loop-seen.said in
    let n = length value - (c.loop-seen._seen + 1) in
    let here = c.in_ok-param.ensures.param in
    let goes : types.ends_at (place value at).typ ≡ false = cc (here.1, c.ends_at.ensures, c.if-ends_at.false) in
    let next = said_next value at said c.loop-seen._seen c.loop-seen-test.true (omega arith) here.0 goes in
    record {
      within = c.in_ok-param.ensures.within.1;
      same = ap (λ s. said_from n value c.in_ok-param.param.next s) c.note.ensures ∙ ap (λ q. said_from n value q.next (noted value q said)) here.1
          ∙ sym next ∙ c.loop-seen.invariant.same;
    }
