use Rattle.sctp_delivery.proofs.DiscardRuns as runs
use Rattle.sctp_delivery.proofs.laws.discards.whatever_is_dropped_sacks_tell_what_came.Goals as goal

pub returns : goal.returns
returns c = record {
  can = runs.all-can;
  refused = runs.none-refused;
  reported = runs.report-came;
  told = runs.each-tells;
  came = runs.acknowledged-came;
  released = runs.released-came;
  left = runs.left-came;
  passed = runs.pass-abandoned;
  stays = runs.stays-acknowledged;
  all = runs.all-leaves;
  once = runs.none-taken-twice;
}
