-- When the RTO doubles, and what is counted, as timers run out one after another.
use Rattle.std.proofs.Common.{◌≡◌, ℕ, Bool, true, false, Option, refl, ap, ◌∙◌}
use Rattle.std.specs.Prelude.{◌&&◌, ◌||◌, not}
use Rattle.sctp_association.specs.BackOff.{IsAsIdle, counted_where, counts_once, doubled_where, failures_after, failures_behind, is_awaited, is_unanswered}
use Rattle.sctp_association.specs.BackOff.{rto_after, rto_behind, t3_fails}
use Rattle.sctp_association.specs.Still.{heartbeat_in}
use Rattle.sctp_association.specs.declared.association.Association.{Association}
use Rattle.sctp_association.specs.declared.outbound.Outbound.{Outbound}
use Rattle.sctp_path.specs.declared.failures.Failures.{Failures}
use Rattle.sctp_path.specs.declared.heartbeat.Heartbeat.{Heartbeat}
use Rattle.sctp_path.specs.Rto.{Timeout, after_back_off}
use Rattle.sctp_path.specs.Timers.{is_due, is_passed, one_more}
use Rattle.sctp_reset.specs.Own.{has_failed}
use Rattle.sctp_reset.specs.Requests.{Requests}

-- what comes by a flag, where that is known
chosen : {X : Type 0} (t : Bool) (f : Bool → X) (x : X) → (t ≡ false → x ≡ f false) → (t ≡ true → x ≡ f true) → x ≡ f t
chosen true f x waits runs = runs refl
chosen false f x waits runs = waits refl

-- it is not answered alike where requests, HEARTBEATs and the state are alike
pub unanswered_same : (now rto : ℕ) (a b : Association) → b.requests ≡ a.requests → b.heartbeat ≡ a.heartbeat
    → IsAsIdle a.machine.state b.machine.state → is_unanswered now rto b ≡ is_unanswered now rto a
unanswered_same now rto a b requests heartbeat state =
    ap (λ (q : Requests). has_failed now q.under_way || (is_due now (heartbeat_in b.machine.state rto b.heartbeat) && is_awaited b.heartbeat)) requests
    ∙ (ap (λ (h : Option Heartbeat). has_failed now a.requests.under_way || (is_due now (heartbeat_in b.machine.state rto h) && is_awaited h)) heartbeat
    ∙ ap (λ (at : Option ℕ). has_failed now a.requests.under_way || (is_due now at && is_awaited a.heartbeat)) (state rto a.heartbeat))

-- the timer of the state ran out, or not, and then T3-rtx did, or not
module _ (now : ℕ) (old : Association) (mid out : Outbound) (r : Bool) (same : mid ≡ record old.outbound { rto = mid.rto })
    (rto : mid.rto ≡ doubled_where (is_due now old.control.at) old.outbound.rto)
    (waits : is_due now mid.timer.at ≡ false → (r ≡ false) × (out ≡ record mid { timer = out.timer }))
    (counted : is_due now mid.timer.at ≡ true → (out.failures ≡ one_more mid.failures) × (r ≡ is_passed out.failures))
    (backed : is_due now mid.timer.at ≡ true → out.rto ≡ after_back_off mid.rto) where
  at-same : mid.timer.at ≡ old.outbound.timer.at
  at-same = ap (λ (o : Outbound). o.timer.at) same

  pub behind_rto : out.rto ≡ rto_behind now old
  behind_rto = chosen (is_due now mid.timer.at) (λ t. doubled_where t mid.rto) out.rto (λ is. ap (λ (o : Outbound). o.rto) (waits is).1) backed
      ∙ (ap (λ (at : Option ℕ). doubled_where (is_due now at) mid.rto) at-same
      ∙ ap (λ (t : Timeout). doubled_where (is_due now old.outbound.timer.at) t) rto)

  failures-behind : out.failures ≡ failures_behind now old
  failures-behind =
      chosen (is_due now mid.timer.at) (λ t. counted_where t mid.failures) out.failures (λ is. ap (λ (o : Outbound). o.failures) (waits is).1)
      (λ is. (counted is).0)
      ∙ (ap (λ (at : Option ℕ). counted_where (is_due now at) mid.failures) at-same
      ∙ ap (λ (o : Outbound). counted_where (is_due now old.outbound.timer.at) o.failures) same)

  fails-behind : r ≡ t3_fails now old
  fails-behind = chosen (is_due now mid.timer.at) (λ t. t && is_passed out.failures) r (λ is. (waits is).0) (λ is. (counted is).1)
      ∙ (ap (λ (at : Option ℕ). is_due now at && is_passed out.failures) at-same
      ∙ ap (λ (f : Failures). is_due now old.outbound.timer.at && is_passed f) failures-behind)

  once : not r && is_unanswered now out.rto.rto old ≡ counts_once now old
  once = ap (λ (b : Bool). not b && is_unanswered now out.rto.rto old) fails-behind
      ∙ ap (λ (t : Timeout). not (t3_fails now old) && is_unanswered now t.rto old) behind_rto

  pub rto_is : (x : Timeout) (u : Bool) → x ≡ doubled_where u out.rto → u ≡ not r && is_unanswered now out.rto.rto old → x ≡ rto_after now old
  rto_is x u is by = is ∙ (ap (λ (b : Bool). doubled_where b out.rto) (by ∙ once)
      ∙ ap (λ (t : Timeout). doubled_where (counts_once now old) t) behind_rto)

  pub failures_is : (x : Failures) (u : Bool) → x ≡ counted_where u out.failures → u ≡ not r && is_unanswered now out.rto.rto old
      → x ≡ failures_after now old
  failures_is x u is by = is ∙ (ap (λ (b : Bool). counted_where b out.failures) (by ∙ once)
      ∙ ap (λ (f : Failures). counted_where (counts_once now old) f) failures-behind)

-- the RTO that doubles keeps its limits
pub doubled_limits : (b : Bool) (t : Timeout) → (doubled_where b t).limits ≡ t.limits
doubled_limits true t = refl
doubled_limits false t = refl
