use Rattle.std.proofs.Common.{◌≡◌, ◌⊎◌, inl, inr, ap, false, subst, sym, true, ◌∙◌}
use Rattle.sctp_association.proofs.Again.{Ran, doubled_by, ran_not, ran_out, runs_or_over}
use Rattle.sctp_association.proofs.association.Association.time_out_control.Goals as goal
use Rattle.sctp_association.proofs.association.Association.time_out_control.Goals.{else-is_due, then-is_due}
use Rattle.sctp_association.specs.BackOff.{doubled_where}
use Rattle.sctp_association.specs.declared.association.Association.{Association}
use Rattle.sctp_path.specs.Timers.{is_due}

pub returns-clause-again : goal.returns-clause-again
returns-clause-again c =
    let old = c.args.self.now in
    let first : (c.if-is_due.self.is_over ≡ true) ⊎ Ran c.args.now old c.if-is_due.self = elim c.if-is_due.branch [
      | then-is_due w ↦ subst (λ (x : Association). (x.is_over ≡ true) ⊎ Ran c.args.now old x) (sym w.self-is)
          (elim w.run_out.ensures.again [
            | inl over ↦ inl over
            | inr out ↦ inr (ran_out c.args.now old w.run_out.new.self (sym c.is_due.ensures ∙ w.if-is_due.true) out)
          ])
      | else-is_due w ↦ inr (ran_not c.args.now old c.if-is_due.self (sym c.is_due.ensures ∙ w.if-is_due.false) w.self-is)
    ] in
    let rto : c.if-is_due.self.outbound.rto ≡ doubled_where (is_due c.args.now old.control.at) old.outbound.rto = elim c.if-is_due.branch [
      | then-is_due w ↦ doubled_by _ true _ _ (sym c.is_due.ensures ∙ w.if-is_due.true)
          (ap (λ (x : Association). x.outbound.rto) w.self-is ∙ w.run_out.ensures.rto)
      | else-is_due w ↦ doubled_by _ false _ _ (sym c.is_due.ensures ∙ w.if-is_due.false) (ap (λ (x : Association). x.outbound.rto) w.self-is)
    ] in
    runs_or_over c.args.now old c.if-is_due.self c.start_control.new.self c.run_guard.new.self c.start_control.ensures.rest c.run_guard.ensures.rest
    c.start_control.ensures.runs c.run_guard.ensures.guard rto first
