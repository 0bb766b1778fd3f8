use Rattle.std.proofs.Common.{◌≡◌, ◌+◌, ◌-◌, true, false, length, Some, sym, ap, ◌∙◌, arith}
use Rattle.sctp_handshake.specs.ParamTypes as types
use Rattle.sctp_handshake.specs.InitValues.{place, report, told_from}
use Rattle.sctp_handshake.proofs.InitSteps.{told_here, told_ended, told_next}
use Rattle.sctp_handshake.proofs.init_value.Reported.first_from.Goals as goal

pub returns-then-is_told : goal.returns-then-is_told
returns-then-is_told c =
    let value = c.args.value.now in
    let here = c.in-Ok.ensures.param in
    let told : types.is_told (place value c.loop-seen.at).typ ≡ true = cc (here.1, c.is_told.ensures, c.if-is_told.true) in
    ap Some (c.report.ensures ∙ ap (λ p. report value c.loop-seen.at p) here.1)
    ∙ sym (told_here value c.loop-seen.at (length value - c.loop-seen._seen) (omega arith) here.0 told) ∙ c.loop-seen.invariant

pub returns-then-ends_at : goal.returns-then-ends_at
returns-then-ends_at c =
    let value = c.args.value.now in
    let here = c.in-Ok.ensures.param in
    let told : types.is_told (place value c.loop-seen.at).typ ≡ false = cc (here.1, c.is_told.ensures, c.if-is_told.false) in
    let ends : types.ends_at (place value c.loop-seen.at).typ ≡ true = cc (here.1, c.ends_at.ensures, c.if-ends_at.true) in
    sym (told_ended value c.loop-seen.at (length value - c.loop-seen._seen) here.0 told ends) ∙ c.loop-seen.invariant

pub loop-seen-preserved : goal.loop-seen-preserved
loop-seen-preserved c =
    let value = c.args.value.now in
    let here = c.in-Ok.ensures.param in
    let told : types.is_told (place value c.loop-seen.at).typ ≡ false = cc (here.1, c.is_told.ensures, c.if-is_told.false) in
    let goes : types.ends_at (place value c.loop-seen.at).typ ≡ false = cc (here.1, c.ends_at.ensures, c.if-ends_at.false) in
    ap (λ p. told_from (length value - (c.loop-seen._seen + 1)) value p.next) here.1
    ∙ sym (told_next value c.loop-seen.at c.loop-seen._seen c.loop-seen-test.true here.0 told goes) ∙ c.loop-seen.invariant
