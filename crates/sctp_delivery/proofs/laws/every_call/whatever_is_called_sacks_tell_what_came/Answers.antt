use Rattle.sctp_delivery.proofs.EveryRecent as recent
use Rattle.sctp_delivery.proofs.EveryRuns as runs
use Rattle.sctp_delivery.proofs.laws.every_call.whatever_is_called_sacks_tell_what_came.Goals as goal

pub returns : goal.returns
returns c = record {
  can = runs.all-can;
  refused = runs.none-refused;
  reported = runs.report-arrived;
  told = runs.each-tells;
  came = runs.acknowledged-arrived;
  released = runs.released-arrived;
  left = runs.left-arrived;
  passed = runs.pass-abandoned;
  stays = runs.stays-acknowledged;
  all = runs.all-leaves;
  once = runs.none-taken-twice;
  read = runs.none-read-twice;
  can_recent = recent.can;
  refused_recent = recent.none-refused;
  once_recent = recent.taken;
  read_recent = recent.read;
}
