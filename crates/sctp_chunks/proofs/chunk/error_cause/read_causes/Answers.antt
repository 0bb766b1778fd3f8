use Rattle.std.proofs.Common.{◌≡◌, length, arith, ap, inl, inr}
use Rattle.std.proofs.lemmas.Result.{err_from_is_err_and}
use Rattle.sctp_util.proofs.Walks.{walks_none, walks_next, walks_step}
use Rattle.sctp_chunks.specs.ErrorCause.{ReadsCause, after_cause}
use Rattle.sctp_chunks.specs.Fault.{CausesFault}
use Rattle.sctp_chunks.proofs.One.{no_cause, causes_one}
use Rattle.sctp_chunks.proofs.chunk.error_cause.read_causes.Goals as goal

pub walk-init : goal.walk-init
walk-init c = rw c.new-causes.ensures.items (walks_none ReadsCause after_cause c.args.raw)

pub walk-preserved : goal.walk-preserved
walk-preserved c =
    let next = walks_next ReadsCause after_cause c.args.raw c.walk.causes.items c.walk.rest c.in_ok-cause.cause c.walk.invariant c.in_ok-cause.ensures.found in
    rw (c.in_ok-push.ensures.items, c.advance.ensures, c.in_ok-cause.ensures.after) next

pub returns-in_err-cause-clause-only : goal.returns-in_err-cause-clause-only
returns-in_err-cause-clause-only c = λ cs whole.
    let p = err_from_is_err_and c.from_residual.result c.from_residual.ensures.1 in
    let more : (c.walk.rest ≡ whole.rest → ⊥) = λ e. omega (arith, ap length e, whole.ended) in
    let next = walks_step ReadsCause after_cause c.args.raw c.walk.causes.items cs c.walk.rest whole.rest
    (no_cause whole.rest whole.ended) more c.walk.invariant whole.walk in
    rw (p.1, p.2) (c.in_err-cause.ensures.only next.0 next.1)

pub returns-in_err-cause-clause-fault : goal.returns-in_err-cause-clause-fault
unfolding CausesFault
returns-in_err-cause-clause-fault c =
    let p = err_from_is_err_and c.from_residual.result c.from_residual.ensures.1 in
    rw (p.1, p.2) (elim c.in_err-cause.ensures.fault [
      | inl memory ↦ inl memory
      | inr fault ↦ inr (c.walk.causes.items, c.walk.rest, c.walk.invariant, omega arith, fault.0, fault.1)
    ])

pub returns-clause-only : goal.returns-clause-only
returns-clause-only c =
    λ cs whole. causes_one c.args.raw c.walk.causes.items cs (record { rest = c.walk.rest; walk = c.walk.invariant; ended = omega arith }) whole
