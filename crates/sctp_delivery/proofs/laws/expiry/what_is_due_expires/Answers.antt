use Rattle.sctp_delivery.proofs.ExpiryLaws as expiry_laws
use Rattle.sctp_delivery.proofs.laws.expiry.what_is_due_expires.Goals as goal

pub returns : goal.returns
returns c = expiry_laws.each-due-expires
