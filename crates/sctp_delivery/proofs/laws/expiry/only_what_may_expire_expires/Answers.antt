use Rattle.sctp_delivery.proofs.ExpiryLaws as expiry_laws
use Rattle.sctp_delivery.proofs.laws.expiry.only_what_may_expire_expires.Goals as goal

pub returns : goal.returns
returns c = expiry_laws.only-due
