use Rattle.std.proofs.Common.{ap, arith, drop, inl, refl, subst, ◌≡◌, ◌∙◌}
use Rattle.std.proofs.lemmas.List.{take_rest}
use Rattle.sctp_association.proofs.Known.{rest_same}
use Rattle.sctp_association.proofs.Telling.{to_same}
use Rattle.sctp_association.specs.Halves.{receiver_of}
use Rattle.sctp_association.proofs.Arriving.{follows_same}
use Rattle.sctp_association.proofs.Arrived.{param_follows_of, responded_of}
use Rattle.sctp_association.proofs.Reconfigs.{kind_other, none_left, read_none, read_some}
use Rattle.sctp_params.specs.declared.param.param_kind.ParamKind.TheVariants.{OutgoingResetRequest, ReconfigResponse}
use Rattle.sctp_params.specs.ParamKind.{ReadsParam, parameter_of}
use Rattle.std.proofs.Common.{inr}
use Rattle.sctp_association.proofs.First.{on_err}
use Rattle.sctp_association.proofs.Partly.{err_map}
use Rattle.sctp_params.specs.ResetRequest.{reset_request_of}
use Rattle.sctp_association.proofs.association.Association.follow_param.Goals as goal

pub returns-then-at-len-clause-came : goal.returns-then-at-len-clause-came
returns-then-at-len-clause-came c = follows_same _ _ _ _ refl

pub returns-in_err-rest-clause-came : goal.returns-in_err-rest-clause-came
returns-in_err-rest-clause-came c = follows_same _ _ _ _ refl

pub returns-in-Err-clause-came : goal.returns-in-Err-clause-came
returns-in-Err-clause-came c = follows_same _ _ _ _ refl

pub returns-in-OutgoingResetRequest-clause-came : goal.returns-in-OutgoingResetRequest-clause-came
returns-in-OutgoingResetRequest-clause-came c =
    let cut : c.in_ok-rest.rest ≡ drop c.args.at c.args.raw.now = c.in_ok-rest.ensures.ok ∙ take_rest c.args.raw.now c.args.at in
    let is = c.in-OutgoingResetRequest.is in
    let reads = subst (λ p. ReadsParam c.in_ok-rest.rest (parameter_of p)) is c.in-Ok.ensures.found in
    param_follows_of _ _ (parameter_of (OutgoingResetRequest c.in-OutgoingResetRequest.request)) cut reads _ _ c.take_request.ensures.came

pub returns-in-ReconfigResponse-clause-came : goal.returns-in-ReconfigResponse-clause-came
returns-in-ReconfigResponse-clause-came c =
    let cut : c.in_ok-rest.rest ≡ drop c.args.at c.args.raw.now = c.in_ok-rest.ensures.ok ∙ take_rest c.args.raw.now c.args.at in
    let is = c.in-ReconfigResponse.is in
    let reads = subst (λ p. ReadsParam c.in_ok-rest.rest (parameter_of p)) is c.in-Ok.ensures.found in
    responded_of _ _ c.in-ReconfigResponse.response cut reads _ _ (ap receiver_of c.take_response.ensures.inbound) _ _ c.take_response.ensures.hearing

pub returns-then-at-len-clause-made : goal.returns-then-at-len-clause-made
returns-then-at-len-clause-made c =
    none_left c.args.raw.now c.args.at c.args.now c.args.self.now (omega (arith, c.len.ensures.value, c.if-at-len.true))

pub returns-in-Err-clause-made : goal.returns-in-Err-clause-made
returns-in-Err-clause-made c =
    let cut : c.in_ok-rest.rest ≡ drop c.args.at c.args.raw.now = c.in_ok-rest.ensures.ok ∙ take_rest c.args.raw.now c.args.at in
    read_none c.in_ok-rest.rest c.args.raw.now c.args.at c.args.now c.args.self.now c.args.self.now cut c.unless_memory.result c.in-Err.e
    c.unless_memory.ensures c.in-Err.ensures.only refl

-- a parameter of another kind
pub returns : goal.returns
returns c =
    let cut : c.in_ok-rest.rest ≡ drop c.args.at c.args.raw.now = c.in_ok-rest.ensures.ok ∙ take_rest c.args.raw.now c.args.at in
    record {
      tells = to_same;
      came = follows_same _ _ _ _ refl;
      kept = record { config = refl; key = refl; machine = refl; owes = λ t e. e; sending = (λ e. e, λ e. e) };
      rest = rest_same _;
      part = tt;
      made = inl (
        parameter_of c.in-Ok.param,
        subst (λ l. ReadsParam l (parameter_of c.in-Ok.param)) cut c.in-Ok.ensures.found,
        kind_other c.in-Ok.param c.args.now c.args.self.now c.args.self.now refl c.in_default.not-OutgoingResetRequest c.in_default.not-ReconfigResponse,
      );
    }

pub returns-in-OutgoingResetRequest-clause-made : goal.returns-in-OutgoingResetRequest-clause-made
returns-in-OutgoingResetRequest-clause-made c =
    let cut : c.in_ok-rest.rest ≡ drop c.args.at c.args.raw.now = c.in_ok-rest.ensures.ok ∙ take_rest c.args.raw.now c.args.at in
    let reads = subst (λ p. ReadsParam c.in_ok-rest.rest (parameter_of p)) c.in-OutgoingResetRequest.is c.in-Ok.ensures.found in
    read_some c.in_ok-rest.rest c.args.raw.now c.args.at c.args.now c.args.self.now c.take_request.new.self cut c.take_request.result
    (parameter_of (OutgoingResetRequest c.in-OutgoingResetRequest.request)) reads c.take_request.ensures.made

pub returns-in-ReconfigResponse-clause-made : goal.returns-in-ReconfigResponse-clause-made
returns-in-ReconfigResponse-clause-made c =
    let cut : c.in_ok-rest.rest ≡ drop c.args.at c.args.raw.now = c.in_ok-rest.ensures.ok ∙ take_rest c.args.raw.now c.args.at in
    let reads = subst (λ p. ReadsParam c.in_ok-rest.rest (parameter_of p)) c.in-ReconfigResponse.is c.in-Ok.ensures.found in
    read_some c.in_ok-rest.rest c.args.raw.now c.args.at c.args.now c.args.self.now c.take_response.new.self cut c.take_response.result
    (parameter_of (ReconfigResponse c.in-ReconfigResponse.response)) reads c.take_response.ensures.made

-- ## Where memory is wanting

pub returns-in_err-rest-clause-part : goal.returns-in_err-rest-clause-part
returns-in_err-rest-clause-part c = on_err _ (inl refl)

pub returns-in-Err-clause-part : goal.returns-in-Err-clause-part
returns-in-Err-clause-part c = on_err _ (inl refl)

pub returns-in-OutgoingResetRequest-clause-part : goal.returns-in-OutgoingResetRequest-clause-part
returns-in-OutgoingResetRequest-clause-part c =
    let cut : c.in_ok-rest.rest ≡ drop c.args.at c.args.raw.now = c.in_ok-rest.ensures.ok ∙ take_rest c.args.raw.now c.args.at in
    let reads = subst (λ p. ReadsParam c.in_ok-rest.rest (parameter_of p)) c.in-OutgoingResetRequest.is c.in-Ok.ensures.found in
    err_map c.take_request.result (λ h. inr (inl (
      reset_request_of c.in-OutgoingResetRequest.request,
      subst (λ l. ReadsParam l (parameter_of (OutgoingResetRequest c.in-OutgoingResetRequest.request))) cut reads,
      h,
    ))) c.take_request.ensures.part

pub returns-in-ReconfigResponse-clause-part : goal.returns-in-ReconfigResponse-clause-part
returns-in-ReconfigResponse-clause-part c =
    let cut : c.in_ok-rest.rest ≡ drop c.args.at c.args.raw.now = c.in_ok-rest.ensures.ok ∙ take_rest c.args.raw.now c.args.at in
    let reads = subst (λ p. ReadsParam c.in_ok-rest.rest (parameter_of p)) c.in-ReconfigResponse.is c.in-Ok.ensures.found in
    on_err c.take_response.result (inr (inr (
      c.in-ReconfigResponse.response,
      subst (λ l. ReadsParam l (parameter_of (ReconfigResponse c.in-ReconfigResponse.response))) cut reads,
      record { hearing = c.take_response.ensures.hearing; inbound = c.take_response.ensures.inbound },
    )))
