use Rattle.sctp_association.proofs.association.Association.handle_timeout.Goals.{then-time_out-via-then-time_out}
use Rattle.sctp_association.proofs.association.Association.handle_timeout.Goals.{then-time_out-via-else-time_out+then-has_failed}
use Rattle.sctp_association.specs.Telling.{TellsEnd}
use Rattle.std.proofs.Common.{Bool, ap, false, inl, inr, refl, sym, ◌≡◌, ◌∙◌}
use Rattle.std.specs.Prelude.{◌&&◌, not}
use Rattle.sctp_association.proofs.Again.{is_again}
use Rattle.sctp_association.proofs.BackOff.{behind_rto, doubled_limits, failures_is, rto_is, unanswered_same}
use Rattle.sctp_association.specs.Beginnings.{KeepsPeer}
use Rattle.sctp_path.specs.Rto.{Timeout}
use Rattle.sctp_association.specs.BackOff.{is_unanswered}
use Rattle.sctp_association.specs.declared.association.Association.{Association}
use Rattle.sctp_association.proofs.Kept.{same_later}
use Rattle.sctp_association.proofs.Known.{keeps_by, keeps_then, knows_same, owes_same, within_by}
use Rattle.sctp_association.proofs.Lasting.{counted_most, expires_over, t3_most, timed_lasts}
use Rattle.sctp_association.specs.declared.outbound.Outbound.{Outbound}
use Rattle.sctp_path.specs.Timers.{is_due}
use Rattle.sctp_association.proofs.Telling.{end_same, tells_kept, tells_peer, tells_then}
use Rattle.sctp_association.proofs.association.Association.handle_timeout.Goals as goal

-- the machine, what is due, and the limits of what is sent stay
still_timed : (a b : Association) → b.config ≡ a.config → b.key ≡ a.key → b.machine ≡ a.machine → b.due ≡ a.due
    → b.outbound.failures.most ≡ a.outbound.failures.most → b.outbound.rto.limits ≡ a.outbound.rto.limits → KeepsPeer a b
still_timed a b config key machine due most limits =
    keeps_by a b a.machine (knows_same a.machine a.machine refl) config key machine (owes_same a b due) (within_by a b config most limits)

pub returns-then-time_out-clause-tells : goal.returns-then-time_out-clause-tells
returns-then-time_out-clause-tells c =
    let ran = c.time_out_control.ensures in
    let failed = c.fail.ensures in
    let same : c.then-time_out.self.machine ≡ c.time_out_control.new.self.machine = elim c.then-time_out.branch [
      | then-time_out-via-then-time_out w ↦ ap (λ (x : Association). x.machine) w.self-is
      | then-time_out-via-else-time_out+then-has_failed w ↦ ap (λ (x : Association). x.machine) (w.self-is ∙ w.has_failed.ensures.rest)
    ] in
    let end : TellsEnd c.time_out_control.new.self c.then-time_out.self = elim c.then-time_out.branch [
      | then-time_out-via-then-time_out w ↦ end_same _ _ w.self-is
      | then-time_out-via-else-time_out+then-has_failed w ↦ end_same _ _ (w.self-is ∙ w.has_failed.ensures.rest)
    ] in
    tells_then _ _ _ (tells_peer _ _ ran.peer ran.tells)
    (tells_then _ c.then-time_out.self _ (tells_kept _ _ (knows_same _ _ same) end) (tells_peer _ _ failed.peer failed.tells))

pub returns-then-time_out-clause-left : goal.returns-then-time_out-clause-left
returns-then-time_out-clause-left c =
    let out = c.time_out_control.ensures.outbound in
    let t3 : c.time_out.new.self.failures.most ≡ c.time_out_control.new.self.outbound.failures.most =
    t3_most (is_due c.args.now c.time_out_control.new.self.outbound.timer.at) _ _
    (λ is. ap (λ (o : Outbound). o.failures) (c.time_out.ensures.waits is).1) (λ is. (c.time_out.ensures.counted is).0) in
    let behind : c.then-time_out.self.outbound.failures.most ≡ c.time_out.new.self.failures.most = elim c.then-time_out.branch [
      | then-time_out-via-then-time_out w ↦ ap (λ (x : Association). x.outbound.failures.most) w.self-is
      | then-time_out-via-else-time_out+then-has_failed w ↦ ap (λ (x : Association). x.outbound.failures.most) w.self-is
          ∙ counted_most _ _ w.has_failed.ensures.counted
    ] in
    expires_over _ c.args.self.now c.fail.new.self c.if-self.false c.fail.ensures.over
    (ap (λ (o : Outbound). o.failures.most) c.fail.ensures.outbound ∙ behind ∙ t3 ∙ ap (λ (o : Outbound). o.failures.most) out)

pub returns-else-has_failed-clause-left : goal.returns-else-has_failed-clause-left
returns-else-has_failed-clause-left c =
    let out = c.time_out_control.ensures.outbound in
    let rest = c.has_failed.ensures.rest in
    timed_lasts c.args.now c.args.self.now c.time_out_control.new.self c.has_failed.new.self c.time_out.new.self.failures c.if-self.false
    (c.time_out_control.ensures.left c.if-self.false) (ap (λ (o : Outbound). o.failures) out) (ap (λ (o : Outbound). o.timer) out)
    (ap (λ (x : Association). x.is_over) rest) (ap (λ (x : Association). x.machine) rest) c.time_out.ensures.more c.has_failed.ensures.more
    (λ is. ap (λ (o : Outbound). o.failures) (c.time_out.ensures.waits is).1)
    (λ is. let counted = c.time_out.ensures.counted is in (counted.0, sym counted.1 ∙ c.if-time_out.false)) c.has_failed.ensures.counted

pub returns-then-time_out-clause-backs_off : goal.returns-then-time_out-clause-backs_off
returns-then-time_out-clause-backs_off c _ _ =
    let ran = c.time_out_control.ensures in
    let old = c.args.self.now in
    let out = c.time_out.new.self in
    let fact = rto_is c.args.now old c.time_out_control.new.self.outbound out c.time_out.result ran.outbound ran.rto c.time_out.ensures.waits
    c.time_out.ensures.counted (λ is. (c.time_out.ensures.backed_off is).0) c.fail.new.self.outbound.rto in
    elim c.then-time_out.branch [
      | then-time_out-via-then-time_out w ↦ fact false
          (ap (λ (o : Outbound). o.rto) c.fail.ensures.outbound ∙ ap (λ (x : Association). x.outbound.rto) w.self-is)
          (ap (λ (b : Bool). not b && is_unanswered c.args.now out.rto.rto old) (sym w.if-time_out.true))
      | then-time_out-via-else-time_out+then-has_failed w ↦ fact
          (is_unanswered c.args.now out.rto.rto (record c.time_out_control.new.self { outbound = out }))
          (ap (λ (o : Outbound). o.rto) c.fail.ensures.outbound
          ∙ (ap (λ (x : Association). x.outbound.rto) w.self-is ∙ w.has_failed.ensures.backs_off))
          (unanswered_same c.args.now out.rto.rto old (record c.time_out_control.new.self { outbound = out }) ran.requests ran.heartbeat ran.state
          ∙ ap (λ (b : Bool). not b && is_unanswered c.args.now out.rto.rto old) (sym w.if-time_out.false))
    ]

pub returns-then-time_out-clause-fails : goal.returns-then-time_out-clause-fails
returns-then-time_out-clause-fails c _ _ =
    let ran = c.time_out_control.ensures in
    let old = c.args.self.now in
    let out = c.time_out.new.self in
    let fact = failures_is c.args.now old c.time_out_control.new.self.outbound out c.time_out.result ran.outbound ran.rto c.time_out.ensures.waits
    c.time_out.ensures.counted (λ is. (c.time_out.ensures.backed_off is).0) c.fail.new.self.outbound.failures in
    elim c.then-time_out.branch [
      | then-time_out-via-then-time_out w ↦ fact false
          (ap (λ (o : Outbound). o.failures) c.fail.ensures.outbound ∙ ap (λ (x : Association). x.outbound.failures) w.self-is)
          (ap (λ (b : Bool). not b && is_unanswered c.args.now out.rto.rto old) (sym w.if-time_out.true))
      | then-time_out-via-else-time_out+then-has_failed w ↦ fact
          (is_unanswered c.args.now out.rto.rto (record c.time_out_control.new.self { outbound = out }))
          (ap (λ (o : Outbound). o.failures) c.fail.ensures.outbound
          ∙ (ap (λ (x : Association). x.outbound.failures) w.self-is ∙ w.has_failed.ensures.fails))
          (unanswered_same c.args.now out.rto.rto old (record c.time_out_control.new.self { outbound = out }) ran.requests ran.heartbeat ran.state
          ∙ ap (λ (b : Bool). not b && is_unanswered c.args.now out.rto.rto old) (sym w.if-time_out.false))
    ]

pub returns-else-has_failed-clause-backs_off : goal.returns-else-has_failed-clause-backs_off
returns-else-has_failed-clause-backs_off c _ _ =
    let ran = c.time_out_control.ensures in
    let old = c.args.self.now in
    let out = c.time_out.new.self in
    rto_is c.args.now old c.time_out_control.new.self.outbound out c.time_out.result ran.outbound ran.rto c.time_out.ensures.waits
    c.time_out.ensures.counted (λ is. (c.time_out.ensures.backed_off is).0) c.has_failed.new.self.outbound.rto
    (is_unanswered c.args.now out.rto.rto (record c.time_out_control.new.self { outbound = out })) c.has_failed.ensures.backs_off
    (unanswered_same c.args.now out.rto.rto old (record c.time_out_control.new.self { outbound = out }) ran.requests ran.heartbeat ran.state
    ∙ ap (λ (b : Bool). not b && is_unanswered c.args.now out.rto.rto old) (sym c.if-time_out.false))

pub returns-else-has_failed-clause-fails : goal.returns-else-has_failed-clause-fails
returns-else-has_failed-clause-fails c _ _ =
    let ran = c.time_out_control.ensures in
    let old = c.args.self.now in
    let out = c.time_out.new.self in
    failures_is c.args.now old c.time_out_control.new.self.outbound out c.time_out.result ran.outbound ran.rto c.time_out.ensures.waits
    c.time_out.ensures.counted (λ is. (c.time_out.ensures.backed_off is).0) c.has_failed.new.self.outbound.failures
    (is_unanswered c.args.now out.rto.rto (record c.time_out_control.new.self { outbound = out })) c.has_failed.ensures.fails
    (unanswered_same c.args.now out.rto.rto old (record c.time_out_control.new.self { outbound = out }) ran.requests ran.heartbeat ran.state
    ∙ ap (λ (b : Bool). not b && is_unanswered c.args.now out.rto.rto old) (sym c.if-time_out.false))

-- ## The receiving half

pub returns-then-time_out-clause-inbound : goal.returns-then-time_out-clause-inbound
returns-then-time_out-clause-inbound c =
    let same : c.then-time_out.self.inbound ≡ c.time_out_control.new.self.inbound = elim c.then-time_out.branch [
      | then-time_out-via-then-time_out w ↦ ap (λ (x : Association). x.inbound) w.self-is
      | then-time_out-via-else-time_out+then-has_failed w ↦ ap (λ (x : Association). x.inbound) (w.self-is ∙ w.has_failed.ensures.rest)
    ] in
    c.fail.ensures.inbound ∙ same ∙ c.time_out_control.ensures.inbound

-- ## What stays

pub returns-then-time_out-clause-peer : goal.returns-then-time_out-clause-peer
returns-then-time_out-clause-peer c =
    let ran = c.time_out_control.new.self in
    let end = c.then-time_out.self in
    let limits = c.time_out.ensures.limits in
    let still : KeepsPeer ran end = elim c.then-time_out.branch [
      | then-time_out-via-then-time_out w ↦ still_timed ran end (ap (λ (x : Association). x.config) w.self-is) (ap (λ (x : Association). x.key) w.self-is)
          (ap (λ (x : Association). x.machine) w.self-is) (ap (λ (x : Association). x.due) w.self-is)
          (ap (λ (x : Association). x.outbound.failures.most) w.self-is ∙ limits.0) (ap (λ (x : Association). x.outbound.rto.limits) w.self-is ∙ limits.1)
      | then-time_out-via-else-time_out+then-has_failed w ↦
          let rest = w.self-is ∙ w.has_failed.ensures.rest in
          still_timed ran end (ap (λ (x : Association). x.config) rest) (ap (λ (x : Association). x.key) rest) (ap (λ (x : Association). x.machine) rest)
          (ap (λ (x : Association). x.due) rest)
          (ap (λ (x : Association). x.outbound.failures.most) w.self-is ∙ counted_most _ _ w.has_failed.ensures.counted ∙ limits.0)
          (ap (λ (x : Association). x.outbound.rto.limits) w.self-is ∙ ap (λ (t : Timeout). t.limits) w.has_failed.ensures.backs_off
          ∙ doubled_limits _ _ ∙ limits.1)
    ] in
    keeps_then _ end _ (keeps_then _ ran end c.time_out_control.ensures.peer still) c.fail.ensures.peer

pub returns-else-has_failed-clause-peer : goal.returns-else-has_failed-clause-peer
returns-else-has_failed-clause-peer c =
    let ran = c.time_out_control.new.self in
    let limits = c.time_out.ensures.limits in
    let rest = c.has_failed.ensures.rest in
    keeps_then _ ran _ c.time_out_control.ensures.peer (still_timed ran c.has_failed.new.self (ap (λ (x : Association). x.config) rest)
    (ap (λ (x : Association). x.key) rest) (ap (λ (x : Association). x.machine) rest) (ap (λ (x : Association). x.due) rest)
    (counted_most _ _ c.has_failed.ensures.counted ∙ limits.0)
    (ap (λ (t : Timeout). t.limits) c.has_failed.ensures.backs_off ∙ doubled_limits _ _ ∙ limits.1))

-- ## What is due again

pub returns-then-time_out-clause-again : goal.returns-then-time_out-clause-again
returns-then-time_out-clause-again c _ _ = inl c.fail.ensures.over

pub returns-else-has_failed-clause-again : goal.returns-else-has_failed-clause-again
returns-else-has_failed-clause-again c _ _ =
    let ran = c.time_out_control.ensures in
    let old = c.args.self.now in
    let out = c.time_out.new.self in
    let rto = behind_rto c.args.now old c.time_out_control.new.self.outbound out c.time_out.result ran.outbound ran.rto c.time_out.ensures.waits
    c.time_out.ensures.counted (λ is. (c.time_out.ensures.backed_off is).0) in
    let rest = c.has_failed.ensures.rest in
    elim ran.again [
      | inl over ↦ inl (ap (λ (x : Association). x.is_over) rest ∙ over)
      | inr runs ↦ inr (is_again c.args.now old c.time_out_control.new.self c.has_failed.new.self out runs
          (rest ∙ same_later c.time_out_control.new.self _ _ _ _ ∙ ap (λ (o : Outbound). record c.time_out_control.new.self {
            outbound = o;
            requests = c.has_failed.new.self.requests;
            heartbeat = c.has_failed.new.self.heartbeat;
          }) (sym (ap (λ (x : Association). x.outbound) rest)))
          ran.requests ran.heartbeat ran.state rto c.has_failed.ensures.requests c.has_failed.ensures.heartbeat)
    ]
