use Rattle.sctp_delivery.proofs.SackLaws as laws
use Rattle.sctp_delivery.proofs.sacks.what_a_sack_reports_came.Goals as goal

pub returns : goal.returns
returns c = laws.report-given
