use Rattle.sctp_association.proofs.Telling.{end_then, to_same}
use Rattle.std.proofs.Common.{ap, arith, drop, eq-eqb, false, length, refl, subst, sym, take, true, ◌-◌, ◌≡◌, ◌∙◌}
use Rattle.std.proofs.lemmas.Bool.{ne_eqb}
use Rattle.std.specs.Prelude.{◌==◌, ◌&&◌, ◌||◌}
use Rattle.sctp_association.proofs.Reconfigs.{end_none, end_second, param_missing, param_over, params_end, params_next, params_over}
use Rattle.sctp_association.specs.Reconfigs.{ParamOn, ParamsOn, is_end}
use Rattle.sctp_datagram.specs.Params.{TellsParam}
use Rattle.sctp_util.proofs.Cases.{and-none}
use Rattle.sctp_association.proofs.Arrived.{came_same, came_then, param_came}
use Rattle.sctp_association.proofs.Carrying.{place_within}
use Rattle.sctp_association.proofs.Cut.{cut_whole}
use Rattle.sctp_association.proofs.Known.{kept_then, rest_same, rest_then}
use Rattle.sctp_association.proofs.Partly.{err_of, param_part_next, param_part_stop}
use Rattle.sctp_association.specs.Partly.{ParamPart}
use Rattle.sctp_association.proofs.association.Association.take_reconfig.Goals as goal
use Rattle.sctp_association.proofs.association.Association.take_reconfig.Goals.{else-is_request-via-else-is_request}
use Rattle.sctp_association.proofs.association.Association.take_reconfig.Goals.{else-is_request-via-then-is_request+else-has_request}
use Rattle.sctp_association.proofs.association.Association.take_reconfig.Goals.{else-has_request-2, else-loop-done-test, then-has_request-2}
use Rattle.sctp_association.proofs.association.Association.take_reconfig.Goals.{then-loop-done-test+else-at-len+in-Ok+then-is_request+then-has_request}
use Rattle.sctp_association.proofs.association.Association.take_reconfig.Goals.{then-loop-done-test+else-at-len+in_default, then-loop-done-test+then-at-len}
use Rattle.sctp_association.proofs.association.Association.take_reconfig.Goals.{then-end-len-via-else-end-len+then-chunk-end, then-end-len-via-then-end-len}

pub returns-then-not-takes_sacks-clause-came : goal.returns-then-not-takes_sacks-clause-came
returns-then-not-takes_sacks-clause-came c = came_same _ _ _ refl

pub returns-then-end-len-clause-came : goal.returns-then-end-len-clause-came
returns-then-end-len-clause-came c = came_same _ _ _ refl

pub loop-done-init : goal.loop-done-init
loop-done-init c = record {
  came = came_same _ _ _ refl;
  kept = record {
    config = refl;
    key = refl;
    machine = refl;
    owes = λ t e. e;
    sending = (λ e. e, λ e. e);
  };
  tells = to_same;
  rest = rest_same _;
  made = λ new h. record { each = h };
  part = λ new h. h;
}

pub returns-in_err-raw-clause-came : goal.returns-in_err-raw-clause-came
returns-in_err-raw-clause-came c = came_same _ _ _ refl

pub returns-clause-came : goal.returns-clause-came
returns-clause-came c = c.loop-done.invariant.came

-- a parameter of the chunk came
pub returns-in_default-take_param-clause-came : goal.returns-in_default-take_param-clause-came
returns-in_default-take_param-clause-came c =
    let cut = cut_whole _ _ c.requires.place c.in_ok-raw.raw _ c.in_ok-raw.ensures.ok c.saturating_add-end.ensures (omega (arith, c.len.ensures)) in
    came_then _ _ _ _ c.loop-done.invariant.came (param_came _ _ c.requires.own c.requires.typ _ _ cut _ _ c.take_param.ensures.came)

pub loop-done-preserved : goal.loop-done-preserved
loop-done-preserved c =
    let cut = cut_whole _ _ c.requires.place c.in_ok-raw.raw _ c.in_ok-raw.ensures.ok c.saturating_add-end.ensures (omega (arith, c.len.ensures)) in
    let p = c.in-Ok.place in
    let has = c.loop-done.has_request in
    let raw = take c.args.chunk.length (drop c.args.chunk.at c.args.datagram.now) in
    let tells : TellsParam raw c.loop-done.at p =
    subst (λ l. TellsParam l c.loop-done.at p) (c.as_slice.ensures ∙ cut) c.in-Ok.ensures.read in
    let followed : ParamOn p.typ raw c.loop-done.at c.args.now c.loop-done.self c.take_param.new.self =
    subst (λ l. ParamOn p.typ l c.loop-done.at c.args.now c.loop-done.self c.take_param.new.self) cut c.in-Ok-take_param.ensures.made in
    let goes : ((p.typ == 13) && has) ≡ false = elim c.else-is_request.branch [
      | else-is_request-via-then-is_request+else-has_request w ↦ ap (λ b. (p.typ == 13) && b) w.if-has_request.false ∙ and-none (p.typ == 13)
      | else-is_request-via-else-is_request w ↦ ap (λ b. b && has) (ne_eqb p.typ 13 w.if-is_request.false)
    ] in
    let later : c.if-has_request-2.has_request ≡ (has || (p.typ == 13)) = elim c.if-has_request-2.branch [
      | then-has_request-2 w ↦ w.has_request-is ∙ w.if-has_request-2.true ∙ sym (ap (λ b. b || (p.typ == 13)) w.if-has_request-2.true)
      | else-has_request-2 w ↦ w.has_request-is ∙ sym (ap (λ b. b || (p.typ == 13)) w.if-has_request-2.false)
    ] in
    record {
      came = came_then _ _ _ _ c.loop-done.invariant.came (param_came _ _ c.requires.own c.requires.typ _ _ cut _ _ c.take_param.ensures.came);
      kept = kept_then _ _ _ c.loop-done.invariant.kept c.take_param.ensures.kept;
      tells = end_then c.loop-done.invariant.tells c.take_param.ensures.tells;
      rest = rest_then _ _ _ c.loop-done.invariant.rest c.take_param.ensures.rest;
      made = λ new h. c.loop-done.invariant.made new (params_next raw c.loop-done.at has p tells c.args.now 2 c.loop-done._done c.loop-done-test.true goes
          c.loop-done.self c.take_param.new.self followed c.if-has_request-2.has_request later new h);
      part = λ new h. c.loop-done.invariant.part new (param_part_next raw c.loop-done.at has p tells c.args.now 2 c.loop-done._done c.loop-done-test.true goes
          c.loop-done.self c.take_param.new.self followed c.if-has_request-2.has_request later new h);
    }

pub returns-in_default-take_param-clause-tells : goal.returns-in_default-take_param-clause-tells
returns-in_default-take_param-clause-tells c = end_then c.loop-done.invariant.tells c.take_param.ensures.tells

-- its bytes are there
pub returns-then-end-len-clause-expected : goal.returns-then-end-len-clause-expected
returns-then-end-len-clause-expected c =
    let within = place_within _ _ c.requires.place in
    absurd (elim c.then-end-len.branch [
      | then-end-len-via-then-end-len w ↦ omega (arith, within, c.saturating_add-end.ensures, c.len.ensures.value, c.len.ensures.bound, w.if-end-len.true)
      | then-end-len-via-else-end-len+then-chunk-end w ↦
          omega (arith, within, c.saturating_add-end.ensures, c.len.ensures.value, c.len.ensures.bound, w.if-chunk-end.true)
    ])

pub returns-clause-reconfig : goal.returns-clause-reconfig
returns-clause-reconfig c =
    let cut = cut_whole _ _ c.requires.place c.in_ok-raw.raw _ c.in_ok-raw.ensures.ok c.saturating_add-end.ensures (omega (arith, c.len.ensures)) in
    let raw = take c.args.chunk.length (drop c.args.chunk.at c.args.datagram.now) in
    let at = c.loop-done.at in
    let has = c.loop-done.has_request in
    let ends : is_end raw at has ≡ true → ParamsOn (2 - c.loop-done._done) raw at has c.args.now c.loop-done.self c.loop-done.self =
    params_end raw at (2 - c.loop-done._done) has c.args.now c.loop-done.self in
    c.loop-done.invariant.made c.loop-done.self (elim c.loop-done-test.branch [
      | else-loop-done-test w ↦ params_over (2 - c.loop-done._done) raw at has c.args.now c.loop-done.self (omega arith)
      | then-loop-done-test+then-at-len w ↦ ends (end_none raw at has (param_over raw at
          (omega (arith, ap (λ l. length l) cut, w.len-in-loop-done.ensures.value, w.if-at-len.true))))
      | then-loop-done-test+else-at-len+in_default w ↦ ends (end_none raw at has
          (param_missing raw at w.as_slice.result.now (w.as_slice.ensures ∙ cut) w.param_at.result w.in_default.not-Ok w.param_at.ensures.fault))
      | then-loop-done-test+else-at-len+in-Ok+then-is_request+then-has_request w ↦ ends (end_second raw at has w.in-Ok.place
          (subst (λ l. TellsParam l at w.in-Ok.place) (w.as_slice.ensures ∙ cut) w.in-Ok.ensures.read) (eq-eqb _ _ w.if-is_request.true) w.if-has_request.true)
    ])

-- ## Where memory is wanting

pub returns-in_default-take_param-clause-part : goal.returns-in_default-take_param-clause-part
returns-in_default-take_param-clause-part c is =
    let cut = cut_whole _ _ c.requires.place c.in_ok-raw.raw _ c.in_ok-raw.ensures.ok c.saturating_add-end.ensures (omega (arith, c.len.ensures)) in
    let p = c.in-Ok.place in
    let has = c.loop-done.has_request in
    let raw = take c.args.chunk.length (drop c.args.chunk.at c.args.datagram.now) in
    let tells : TellsParam raw c.loop-done.at p =
    subst (λ l. TellsParam l c.loop-done.at p) (c.as_slice.ensures ∙ cut) c.in-Ok.ensures.read in
    let part : ParamPart (drop c.loop-done.at raw) c.loop-done.self c.take_param.new.self =
    subst (λ l. ParamPart (drop c.loop-done.at l) c.loop-done.self c.take_param.new.self) cut
    (err_of c.take_param.result c.in_default-take_param.not-Ok c.take_param.ensures.part) in
    let goes : ((p.typ == 13) && has) ≡ false = elim c.else-is_request.branch [
      | else-is_request-via-then-is_request+else-has_request w ↦ ap (λ b. (p.typ == 13) && b) w.if-has_request.false ∙ and-none (p.typ == 13)
      | else-is_request-via-else-is_request w ↦ ap (λ b. b && has) (ne_eqb p.typ 13 w.if-is_request.false)
    ] in
    c.loop-done.invariant.part c.take_param.new.self (param_part_stop raw c.loop-done.at has p tells c.args.now 2 c.loop-done._done c.loop-done-test.true goes
    c.loop-done.self c.take_param.new.self part)
