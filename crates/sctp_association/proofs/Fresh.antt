-- The tag of an INIT.
use Rattle.std.proofs.Common.{ℕ, ◌<◌, List}
use Rattle.std.proofs.Math.Nat.{le-max_right}
use Rattle.sctp_association.specs.Fresh.{fresh_tag}
use Rattle.sctp_handshake.specs.declared.offer.Offer.{Offer}

-- it is not 0
pub fresh_some : (key : List ℕ) (now : ℕ) (offer : Offer) → 0 < fresh_tag key now offer
fresh_some key now offer = le-max_right _ 1
