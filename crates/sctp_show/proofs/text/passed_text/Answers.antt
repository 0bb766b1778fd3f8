use Rattle.std.proofs.lemmas.Result.{IfOk-weaker}
use Rattle.sctp_show.proofs.text.passed_text.Goals as goal

pub returns-clause-shown : goal.returns-clause-shown
returns-clause-shown c = IfOk-weaker c.shown_text.result _ _ (λ t is. λ passes. is) c.shown_text.ensures
