-- What an INIT or an INIT ACK says of its sender (RFC 9260 3.3.2, 3.3.3).
use Rattle.std.specs.Prelude.{Bool, ◌||◌, ◌==◌, nat_lt, if◌then◌else◌, Option, Some, None}
use Rattle.sctp_handshake.specs.declared.offer.Offer.{Offer}
use Rattle.sctp_handshake.specs.declared.offer.OfferFault.{OfferFault}
use Rattle.sctp_handshake.specs.declared.offer.OfferFault.TheVariants.{NoTag, NoStreams, SmallWindow}

abbrev pub has_no_streams : Offer → Bool
has_no_streams o = (o.outbound_streams == 0) || (o.inbound_streams == 0)

-- the first fault of an offer
abbrev pub offer_fault : Offer → Option OfferFault
offer_fault o =
    if o.tag == 0 then Some NoTag else (if has_no_streams o then Some NoStreams
    else (if nat_lt o.window 1500 then Some SmallWindow else None))
