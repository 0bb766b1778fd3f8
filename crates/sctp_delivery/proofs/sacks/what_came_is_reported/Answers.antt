use Rattle.sctp_delivery.proofs.SackLaws as laws
use Rattle.sctp_delivery.proofs.sacks.what_came_is_reported.Goals as goal

pub returns : goal.returns
returns c = record { next = laws.all-answered; each = laws.each-tells }
