use Rattle.std.proofs.Common.{◌≡◌, ◌∷◌, ◌++◌, [], List, length, arith, ap, inl, inr}
use Rattle.std.specs.Prelude.{map}
use Rattle.std.proofs.lemmas.Result.{err_from_is_err_and}
use Rattle.std.proofs.lemmas.List.{map-append}
use Rattle.sctp_params.specs.Param.{Parameter, ReadsBack}
use Rattle.sctp_params.specs.ParamKind.{IsReadAs, ReadsParam, parameter_of}
use Rattle.sctp_params.specs.ParamFraming.{after_param}
use Rattle.sctp_util.proofs.Walks.{walks_none, walks_next, walks_step}
use Rattle.sctp_params.proofs.ParamOne.{no_param}
use Rattle.sctp_chunks.specs.Params.{ReadBack, ParamsFault}
use Rattle.sctp_chunks.proofs.One.{params_one}
use Rattle.sctp_chunks.proofs.chunk.params.read_params.Goals as goal

one_more : (ps : List Parameter) (p : Parameter) → ReadBack ps → ReadsBack IsReadAs p → ReadBack (ps ++ p ∷ [])
one_more [] p all last = (last, tt)
one_more (q ∷ ps) p all last = (all.0, one_more ps p all.1 last)

pub walk-init : goal.walk-init
walk-init c = record { walk = rw c.new-params.ensures.items (walks_none ReadsParam after_param c.args.raw); again = rw c.new-params.ensures.items tt }

pub walk-preserved : goal.walk-preserved
walk-preserved c =
    let next = walks_next ReadsParam after_param c.args.raw (map parameter_of c.walk.params.items) c.walk.rest
    (parameter_of c.in_ok-param.param) c.walk.invariant.walk c.in_ok-param.ensures.found in
    let backs = one_more (map parameter_of c.walk.params.items) (parameter_of c.in_ok-param.param) c.walk.invariant.again c.in_ok-param.ensures.again in
    record {
      walk = rw (c.in_ok-push.ensures.items, map-append, c.advance.ensures, c.in_ok-param.ensures.after) next;
      again = rw (c.in_ok-push.ensures.items, map-append) backs;
    }

pub returns-in_err-param-clause-only : goal.returns-in_err-param-clause-only
returns-in_err-param-clause-only c = λ ps whole.
    let p = err_from_is_err_and c.from_residual.result c.from_residual.ensures.1 in
    let more : (c.walk.rest ≡ whole.rest → ⊥) = λ e. omega (arith, ap length e, whole.ended) in
    let next = walks_step ReadsParam after_param c.args.raw (map parameter_of c.walk.params.items) ps c.walk.rest whole.rest
    (no_param whole.rest whole.ended) more c.walk.invariant.walk whole.walk in
    rw (p.1, p.2) (c.in_err-param.ensures.only next.0 next.1)

pub returns-in_err-param-clause-fault : goal.returns-in_err-param-clause-fault
unfolding ParamsFault
returns-in_err-param-clause-fault c =
    let p = err_from_is_err_and c.from_residual.result c.from_residual.ensures.1 in
    rw (p.1, p.2) (elim c.in_err-param.ensures.fault [
      | inl memory ↦ inl memory
      | inr fault ↦ inr (map parameter_of c.walk.params.items, c.walk.rest, c.walk.invariant.walk, omega arith, fault)
    ])

pub returns-clause-only : goal.returns-clause-only
returns-clause-only c = λ ps whole.
    params_one c.args.raw (map parameter_of c.walk.params.items) ps (record { rest = c.walk.rest; walk = c.walk.invariant.walk; ended = omega arith }) whole
