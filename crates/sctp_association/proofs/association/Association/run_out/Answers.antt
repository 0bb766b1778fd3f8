use Rattle.std.proofs.Common.{ap, inl, inr, refl, sym, ◌∙◌}
use Rattle.sctp_association.proofs.Again.{owed_again}
use Rattle.sctp_association.proofs.Kept.{same_run_out}
use Rattle.sctp_association.proofs.Known.{keeps_by, knows_timed}
use Rattle.sctp_association.proofs.Lasting.{expires_run_out, timed_left}
use Rattle.sctp_path.specs.Rto.{Timeout}
use Rattle.sctp_association.proofs.association.Association.run_out.Goals as goal

pub returns-else-is_some-clause-left : goal.returns-else-is_some-clause-left
returns-else-is_some-clause-left c going =
    expires_run_out c.args.self.now _ going refl refl
    (timed_left c.args.self.now.machine _ _ c.timed_out-answer.ensures (sym c.is_some.ensures ∙ c.if-is_some.false))

pub returns-else-is_some-clause-peer : goal.returns-else-is_some-clause-peer
returns-else-is_some-clause-peer c =
    keeps_by _ _ _ (knows_timed _ _ _ c.timed_out-answer.ensures) refl refl refl c.owe_again.ensures.kept
    (λ e. e, λ e. ap (λ (t : Timeout). t.limits) c.backed_off.ensures ∙ e)

-- ## What is due again

pub returns-then-is_some-clause-again : goal.returns-then-is_some-clause-again
returns-then-is_some-clause-again c = inl c.end.ensures.over

pub returns-else-is_some-clause-again : goal.returns-else-is_some-clause-again
returns-else-is_some-clause-again c = inr (record {
  machine = c.timed_out-answer.ensures.machine;
  due = owed_again c.args.self.now.machine _ _ _ _ c.timed_out-answer.ensures c.owe_again.ensures.due;
  control = c.stop.ensures;
  rest = same_run_out c.args.self.now _ _ _ _ _;
})
