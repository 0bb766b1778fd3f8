use Rattle.sctp_delivery.proofs.PlainLaws as laws
use Rattle.sctp_delivery.proofs.PlainRuns as runs
use Rattle.sctp_delivery.proofs.laws.returns.whatever_comes_back_sacks_tell_what_came.Goals as goal

pub returns : goal.returns
returns c = record {
  back = laws.none-refused-back;
  refused = runs.none-refused;
  reported = runs.report-came;
  told = runs.each-tells;
  came = runs.acknowledged-came;
  left = runs.left-came;
  once = runs.none-taken-twice;
}
