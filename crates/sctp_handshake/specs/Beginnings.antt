-- How an association begins: INIT and INIT ACK (RFC 9260 5.1, 5.2).
use Rattle.std.specs.Prelude.{ℕ, min, Option, Some, None}
use Rattle.sctp_handshake.specs.declared.answer.AbortCause.TheVariants.{InvalidMandatoryParameter}
use Rattle.sctp_handshake.specs.declared.answer.Reply.{Reply}
use Rattle.sctp_handshake.specs.declared.answer.Reply.TheVariants as reply
use Rattle.sctp_handshake.specs.declared.answer.Told.TheVariants as told
use Rattle.sctp_handshake.specs.declared.machine.Machine.{Machine}
use Rattle.sctp_handshake.specs.declared.offer.Offer.{Offer}
use Rattle.sctp_handshake.specs.declared.offer.OfferFault.{OfferFault}
use Rattle.sctp_handshake.specs.declared.offer.OfferFault.TheVariants.{NoTag, NoStreams, SmallWindow}
use Rattle.sctp_handshake.specs.declared.state.State.{State}
use Rattle.sctp_handshake.specs.declared.state.State.TheVariants.{Closed, CookieWait, CookieEchoed, Established}
use Rattle.sctp_handshake.specs.declared.state.State.TheVariants.{ShutdownPending, ShutdownSent, ShutdownReceived, ShutdownAckSent}
use Rattle.sctp_handshake.specs.declared.ticket.TieTags.{TieTags}
use Rattle.sctp_handshake.specs.Answers.{replied, both}
use Rattle.sctp_handshake.specs.Machines.{Step, dropped, answered, failed, into, closed, tie_tags_of}
use Rattle.sctp_handshake.specs.Offers.{offer_fault}

-- ## `connect` (RFC 9260 5.1 A)

abbrev pub on_connect : Machine → Step
on_connect m = record { machine = into CookieWait m; answer = replied reply.Init }

-- ## `init`: it never changes anything

-- the offer with a new tag: all else is copied (RFC 9260 5.2.2)
abbrev pub renewed : ℕ → Offer → Offer
renewed tag own = record own { tag = tag }

-- the offer to one who takes fewer streams (RFC 9260 3.3.3: not more than the MIS of the INIT)
abbrev pub fitted : Offer → Offer → Offer
fitted peer own =
    record own { outbound_streams = min own.outbound_streams peer.inbound_streams }

abbrev pub init_ack_of : Offer → Offer → Option TieTags → Option Reply
init_ack_of own peer tie_tags =
    Some (reply.InitAck (record { own = fitted peer own; peer = peer; tie_tags = tie_tags }))

-- Where an association stands, its tags tie the new one to it (RFC 9260 5.2.2); one that is being set up keeps its tag (5.2.1).
abbrev pub init_row : State → Offer → ℕ → Machine → Option Reply
init_row Closed peer tag m = init_ack_of (renewed tag m.own) peer None
init_row CookieWait peer tag m = init_ack_of m.own peer None
init_row CookieEchoed peer tag m = init_ack_of m.own peer (tie_tags_of m)
init_row Established peer tag m = init_ack_of (renewed tag m.own) peer (tie_tags_of m)
init_row ShutdownPending peer tag m = init_ack_of (renewed tag m.own) peer (tie_tags_of m)
init_row ShutdownSent peer tag m = init_ack_of (renewed tag m.own) peer (tie_tags_of m)
init_row ShutdownReceived peer tag m = init_ack_of (renewed tag m.own) peer (tie_tags_of m)
-- (RFC 9260 9.2)
init_row ShutdownAckSent peer tag m = Some reply.ShutdownAck

-- an offer without a tag is dropped, another that can't stand is answered by an ABORT (RFC 9260 3.3.2)
abbrev pub init_checked : Option OfferFault → Offer → ℕ → Machine → Option Reply
init_checked None peer tag m = init_row m.state peer tag m
init_checked (Some NoTag) peer tag m = None
init_checked (Some NoStreams) peer tag m = Some (reply.Abort InvalidMandatoryParameter)
init_checked (Some SmallWindow) peer tag m = Some (reply.Abort InvalidMandatoryParameter)

abbrev pub init_reply : Offer → ℕ → Machine → Option Reply
init_reply peer tag m = init_checked (offer_fault peer) peer tag m

-- ## `init_ack` (RFC 9260 5.1 C)

-- the association is ended where the offer has no tag or no streams; a small window leaves it as it is (RFC 9260 3.3.3)
abbrev pub init_ack_checked : Option OfferFault → Offer → Machine → Step
init_ack_checked None peer m = record {
  machine = record (into CookieEchoed m) { peer = Some peer };
  answer = replied reply.CookieEcho;
}
init_ack_checked (Some NoTag) peer m = failed m
init_ack_checked (Some NoStreams) peer m = record {
  machine = closed m;
  answer = both (reply.Abort InvalidMandatoryParameter) told.Failed;
}
init_ack_checked (Some SmallWindow) peer m = answered (reply.Abort InvalidMandatoryParameter) m

-- it is expected in one state only (RFC 9260 5.2.3)
abbrev pub init_ack_row : State → Offer → Machine → Step
init_ack_row Closed peer m = dropped m
init_ack_row CookieWait peer m = init_ack_checked (offer_fault peer) peer m
init_ack_row CookieEchoed peer m = dropped m
init_ack_row Established peer m = dropped m
init_ack_row ShutdownPending peer m = dropped m
init_ack_row ShutdownSent peer m = dropped m
init_ack_row ShutdownReceived peer m = dropped m
init_ack_row ShutdownAckSent peer m = dropped m

abbrev pub on_init_ack : Offer → Machine → Step
on_init_ack peer m = init_ack_row m.state peer m
