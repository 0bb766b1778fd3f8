use Rattle.sctp_association.proofs.Telling.{end_then, to_same}
use Rattle.std.proofs.Common.{ap, arith, get_or, length, refl, rules, subst, sym, true, ◌<◌, ◌≡◌, ◌∙◌, []}
use Rattle.std.proofs.lemmas.Bool.Decides.{nat_tests}
use Rattle.std.proofs.lemmas.List.{nil_from_length}
use Rattle.std.proofs.lemmas.List.Elements.{Contains-get_or}
use Rattle.std.specs.Prelude.{Contains}
use Rattle.sctp_params.specs.ResetRequest.{reset_request_of}
use Rattle.sctp_association.proofs.Arrived.{all_reset, one_reset}
use Rattle.sctp_association.proofs.Arriving.{follows_same, follows_then}
use Rattle.sctp_association.proofs.Known.{kept_then, rest_same, rest_then}
use Rattle.sctp_association.proofs.Reconfigs.{each_over, each_step, each_stop, listed_all, listed_some, progress_other, wrong_result}
use Rattle.sctp_association.specs.Reconfigs.{ResetsEach, result_with}
use Rattle.sctp_params.specs.declared.param.param_reconfig_response.ReconfigResult.TheVariants.{InProgress, SuccessPerformed}
use Rattle.sctp_association.proofs.First.{on_err}
use Rattle.sctp_association.proofs.Partly.{err_map, part_none, part_some, part_step, part_stop}
use Rattle.sctp_association.specs.Partly.{ResetsPart}
use Rattle.sctp_association.proofs.association.Association.perform.Goals as goal
use Rattle.sctp_association.proofs.association.Association.perform.Goals.{in-SuccessPerformed, in_default}

pub returns-then-is_empty-clause-came : goal.returns-then-is_empty-clause-came
returns-then-is_empty-clause-came c =
    let streams = c.args.request.now.stream_identifiers in
    let none : streams.items ≡ [] = nil_from_length streams.items (grind (arith, nat_tests, streams.ok.0, c.is_empty.ensures, c.if-is_empty.true)) in
    all_reset (reset_request_of c.args.request.now) _ refl _ _
    (ap (λ o. o.sender) c.perform_all.ensures.outbound) _ _ none c.perform_all.ensures.received

pub loop-stream-init : goal.loop-stream-init
loop-stream-init c = record {
  came = follows_same _ _ _ _ refl;
  kept = record {
    config = refl;
    key = refl;
    machine = refl;
    owes = λ t e. e;
    sending = (λ e. e, λ e. e);
  };
  tells = to_same;
  rest = rest_same _;
  each = λ outcome new h. h;
  part = λ new h. h;
}

pub loop-stream-preserved : goal.loop-stream-preserved
loop-stream-preserved c =
    let xs = c.deref-stream-items.result.now in
    let at = c.loop-stream.stream-index in
    let lt : at < length xs = search rules in
    let same : xs ≡ c.args.request.now.stream_identifiers.items = search rules in
    let named = subst (λ l. Contains l (get_or xs at 0)) same (Contains-get_or xs at 0 lt) in
    record {
      came = follows_then _ _ _ _ _ c.loop-stream.invariant.came
          (one_reset (reset_request_of c.args.request.now) _ refl _ _
          (ap (λ o. o.sender) c.perform_one.ensures.outbound) _ _ _ named c.perform_one.ensures.received);
      kept = kept_then _ _ _ c.loop-stream.invariant.kept c.perform_one.ensures.kept;
      tells = end_then c.loop-stream.invariant.tells c.perform_one.ensures.tells;
      rest = rest_then _ _ _ c.loop-stream.invariant.rest c.perform_one.ensures.rest;
      each = elim c.match-branch-2.branch [
        | in-SuccessPerformed w ↦ λ outcome new h. c.loop-stream.invariant.each outcome new
            (each_step _ _ _ _ _ _ lt c.in_ok-wrong.wrong _ _ c.in_ok-wrong.ensures.one (λ e. progress_other (sym e ∙ w.in-SuccessPerformed.is))
            (w.outcome-is ∙ sym (ap (result_with true c.loop-stream.outcome) w.in-SuccessPerformed.is)) outcome new h)
        | in_default w ↦ λ outcome new h. c.loop-stream.invariant.each outcome new
            (each_step _ _ _ _ _ _ lt c.in_ok-wrong.wrong _ _ c.in_ok-wrong.ensures.one w.in_default.not-InProgress
            (w.outcome-is ∙ sym (wrong_result c.loop-stream.outcome c.in_ok-wrong.wrong w.in_default.not-SuccessPerformed)) outcome new h)
      ];
      part = elim c.match-branch-2.branch [
        | in-SuccessPerformed w ↦ λ new h. c.loop-stream.invariant.part new
            (part_step _ _ _ _ lt _ c.in_ok-wrong.wrong _ c.in_ok-wrong.ensures.one (λ e. progress_other (sym e ∙ w.in-SuccessPerformed.is)) new h)
        | in_default w ↦ λ new h. c.loop-stream.invariant.part new
            (part_step _ _ _ _ lt _ c.in_ok-wrong.wrong _ c.in_ok-wrong.ensures.one w.in_default.not-InProgress new h)
      ];
    }

pub returns-in_err-wrong-clause-came : goal.returns-in_err-wrong-clause-came
returns-in_err-wrong-clause-came c =
    let xs = c.deref-stream-items.result.now in
    let at = c.loop-stream.stream-index in
    let lt : at < length xs = search rules in
    let same : xs ≡ c.args.request.now.stream_identifiers.items = search rules in
    let named = subst (λ l. Contains l (get_or xs at 0)) same (Contains-get_or xs at 0 lt) in
    follows_then _ _ _ _ _ c.loop-stream.invariant.came
    (one_reset (reset_request_of c.args.request.now) _ refl _ _
    (ap (λ o. o.sender) c.perform_one.ensures.outbound) _ _ _ named c.perform_one.ensures.received)

pub returns-in-InProgress-clause-came : goal.returns-in-InProgress-clause-came
returns-in-InProgress-clause-came c =
    let xs = c.deref-stream-items.result.now in
    let at = c.loop-stream.stream-index in
    let lt : at < length xs = search rules in
    let same : xs ≡ c.args.request.now.stream_identifiers.items = search rules in
    let named = subst (λ l. Contains l (get_or xs at 0)) same (Contains-get_or xs at 0 lt) in
    follows_then _ _ _ _ _ c.loop-stream.invariant.came
    (one_reset (reset_request_of c.args.request.now) _ refl _ _
    (ap (λ o. o.sender) c.perform_one.ensures.outbound) _ _ _ named c.perform_one.ensures.received)

pub returns-clause-came : goal.returns-clause-came
returns-clause-came c = c.loop-stream.invariant.came

pub returns-then-is_empty-clause-listed : goal.returns-then-is_empty-clause-listed
returns-then-is_empty-clause-listed c =
    let streams = c.args.request.now.stream_identifiers in
    let none : streams.items ≡ [] = nil_from_length streams.items (grind (arith, nat_tests, streams.ok.0, c.is_empty.ensures, c.if-is_empty.true)) in
    listed_all c.perform_all.result c.args.request.now.sender_last_tsn streams.items c.args.self.now _ none c.perform_all.ensures.each

pub returns-in-InProgress-clause-listed : goal.returns-in-InProgress-clause-listed
returns-in-InProgress-clause-listed c =
    let streams = c.args.request.now.stream_identifiers in
    let some : 0 < length streams.items = grind (arith, nat_tests, streams.ok.0, c.is_empty.ensures, c.if-is_empty.false) in
    let all = c.loop-stream.invariant.each InProgress c.perform_one.new.self
    (each_stop _ _ _ _ _ _ c.loop-stream-test.true c.in_ok-wrong.wrong _ c.in_ok-wrong.ensures.one c.in-InProgress.is) in
    listed_some c.args.request.now.sender_last_tsn streams.items InProgress c.args.self.now c.perform_one.new.self some
    (subst (λ l. ResetsEach c.args.request.now.sender_last_tsn true l SuccessPerformed InProgress c.args.self.now c.perform_one.new.self)
    c.deref-stream-items.ensures.value all)

pub returns-clause-listed : goal.returns-clause-listed
returns-clause-listed c =
    let streams = c.args.request.now.stream_identifiers in
    let some : 0 < length streams.items = grind (arith, nat_tests, streams.ok.0, c.is_empty.ensures, c.if-is_empty.false) in
    let all = c.loop-stream.invariant.each c.loop-stream.outcome c.loop-stream.self (each_over _ _ _ _ _ _ c.loop-stream-test.false) in
    listed_some c.args.request.now.sender_last_tsn streams.items c.loop-stream.outcome c.args.self.now c.loop-stream.self some
    (subst (λ l. ResetsEach c.args.request.now.sender_last_tsn true l SuccessPerformed c.loop-stream.outcome c.args.self.now c.loop-stream.self)
    c.deref-stream-items.ensures.value all)

-- ## Where memory is wanting

pub returns-then-is_empty-clause-part : goal.returns-then-is_empty-clause-part
returns-then-is_empty-clause-part c =
    let streams = c.args.request.now.stream_identifiers in
    let none : streams.items ≡ [] = nil_from_length streams.items (grind (arith, nat_tests, streams.ok.0, c.is_empty.ensures, c.if-is_empty.true)) in
    err_map c.perform_all.result (part_none c.args.request.now.sender_last_tsn streams.items c.args.self.now c.perform_all.new.self none)
    c.perform_all.ensures.part

pub returns-in_err-wrong-clause-part : goal.returns-in_err-wrong-clause-part
returns-in_err-wrong-clause-part c =
    let streams = c.args.request.now.stream_identifiers in
    let some : 0 < length streams.items = grind (arith, nat_tests, streams.ok.0, c.is_empty.ensures, c.if-is_empty.false) in
    let all = c.loop-stream.invariant.part c.perform_one.new.self
    (part_stop _ _ _ _ c.loop-stream-test.true _ c.perform_one.new.self c.in_err-wrong.ensures.cut) in
    on_err _ (part_some c.args.request.now.sender_last_tsn streams.items c.args.self.now c.perform_one.new.self some
    (subst (λ l. ResetsPart c.args.request.now.sender_last_tsn true l c.args.self.now c.perform_one.new.self) c.deref-stream-items.ensures.value all))
