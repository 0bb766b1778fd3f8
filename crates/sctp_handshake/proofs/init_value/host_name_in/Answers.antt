use Rattle.std.proofs.Common.{◌≡◌, ◌+◌, ◌-◌, true, false, length, Some, sym, ap, ◌∙◌, arith, rules}
use Rattle.std.specs.Prelude.{◌==◌}
use Rattle.sctp_handshake.specs.ParamTypes as types
use Rattle.sctp_handshake.specs.InitValues.{host_name_from, is_param, place}
use Rattle.sctp_handshake.proofs.InitSteps.{host_broken, host_here, host_ended, host_next}
use Rattle.sctp_handshake.proofs.init_value.host_name_in.Goals as goal

pub returns-then-param-eq-HOST_NAME_ADDRESS-clause-place : goal.returns-then-param-eq-HOST_NAME_ADDRESS-clause-place
returns-then-param-eq-HOST_NAME_ADDRESS-clause-place c =
    let value = c.args.value.now in
    let here = c.in-Ok.ensures.param in
    let host : ((place value c.loop-seen.at).typ == 11) ≡ true = search rules in
    ap Some here.1 ∙ sym (host_here value c.loop-seen.at (length value - c.loop-seen._seen) (omega arith) here.0 host) ∙ c.loop-seen.invariant

pub returns-then-ends_at-clause-place : goal.returns-then-ends_at-clause-place
returns-then-ends_at-clause-place c =
    let value = c.args.value.now in
    let here = c.in-Ok.ensures.param in
    let host : ((place value c.loop-seen.at).typ == 11) ≡ false = search rules in
    let ends : types.ends_at (place value c.loop-seen.at).typ ≡ true = cc (here.1, c.ends_at.ensures, c.if-ends_at.true) in
    sym (host_ended value c.loop-seen.at (length value - c.loop-seen._seen) here.0 host ends) ∙ c.loop-seen.invariant

pub returns-in_default-clause-place : goal.returns-in_default-clause-place
returns-in_default-clause-place c =
    let value = c.args.value.now in
    let broken : is_param value c.loop-seen.at ≡ false = search rules in
    sym (host_broken value c.loop-seen.at (length value - c.loop-seen._seen) broken) ∙ c.loop-seen.invariant

pub loop-seen-preserved : goal.loop-seen-preserved
loop-seen-preserved c =
    let value = c.args.value.now in
    let here = c.in-Ok.ensures.param in
    let host : ((place value c.loop-seen.at).typ == 11) ≡ false = search rules in
    let goes : types.ends_at (place value c.loop-seen.at).typ ≡ false = cc (here.1, c.ends_at.ensures, c.if-ends_at.false) in
    ap (λ p. host_name_from (length value - (c.loop-seen._seen + 1)) value p.next) here.1
    ∙ sym (host_next value c.loop-seen.at c.loop-seen._seen c.loop-seen-test.true here.0 host goes) ∙ c.loop-seen.invariant
