-- Exchanges worked by hand from RFC 9260, against the definitions.
use Rattle.std.proofs.Common.{◌≡◌, ℕ, true, false, List, [], ◌∷◌, refl}
use Rattle.std.specs.Prelude.{Option, Some, None}
use Rattle.sctp_handshake.specs.declared.answer.AbortCause.TheVariants.{InvalidMandatoryParameter, UserInitiatedAbort}
use Rattle.sctp_handshake.specs.declared.answer.Reply.TheVariants as reply
use Rattle.sctp_handshake.specs.declared.answer.Told.TheVariants as told
use Rattle.sctp_handshake.specs.declared.machine.Machine.{Machine}
use Rattle.sctp_handshake.specs.declared.offer.Offer.{Offer}
use Rattle.sctp_handshake.specs.declared.state.State.{State}
use Rattle.sctp_handshake.specs.declared.state.State.TheVariants.{Closed, CookieWait, CookieEchoed, Established}
use Rattle.sctp_handshake.specs.declared.state.State.TheVariants.{ShutdownPending, ShutdownSent, ShutdownReceived, ShutdownAckSent}
use Rattle.sctp_handshake.specs.declared.ticket.Ticket.{Ticket}
use Rattle.sctp_handshake.specs.declared.ticket.TieTags.{TieTags}
use Rattle.sctp_handshake.specs.Answers.{silent, replied, noticed, both}
use Rattle.sctp_handshake.specs.Beginnings.{init_reply}
use Rattle.sctp_handshake.specs.Histories.{Input, connect, init_ack, cookie_echo, cookie_ack, stale_cookie, shutdown_asked, drained, shutdown, shutdown_ack}
use Rattle.sctp_handshake.specs.Histories.{shutdown_complete, abort, abort_asked, timed_out, packet_arrived, after, answers_to}
use Rattle.sctp_handshake.specs.Machines.{new_machine}

-- ## Two endpoints

abbrev offer : ℕ → ℕ → Offer
offer tag tsn = record {
  tag = tag;
  window = 2000;
  outbound_streams = 10;
  inbound_streams = 8;
  first_tsn = tsn;
  forward_tsn = true;
  reconfig = true;
  zero_checksum = false;
}

-- as an INIT ACK has it, whose receiver takes 8 streams
abbrev fitted_offer : ℕ → ℕ → Offer
fitted_offer tag tsn = record (offer tag tsn) { outbound_streams = 8 }

abbrev endpoint : ℕ → ℕ → Machine
endpoint tag tsn = new_machine (offer tag tsn) (record { max_init_retransmits = 2; association_max_retrans = 2 })

abbrev a : Machine
a = endpoint 11 100

abbrev z : Machine
z = endpoint 22 200

-- the tag that is drawn for an INIT which comes
abbrev fresh : ℕ
fresh = 33

abbrev tie : ℕ → ℕ → Option TieTags
tie own peer = Some (record { own = own; peer = peer })

-- Z has no association yet, and answers the INIT of A
abbrev ticket : Ticket
ticket = record { own = fitted_offer 33 200; peer = offer 11 100; tie_tags = None }

-- ## 5.1.6: an example of normal establishment

establishment_a : answers_to (connect ∷ init_ack (fitted_offer 33 200) ∷ cookie_ack ∷ []) a
    ≡ replied reply.Init ∷ replied reply.CookieEcho ∷ noticed told.Connected ∷ []
establishment_a = refl

establishment_z_init : init_reply (offer 11 100) fresh z ≡ Some (reply.InitAck ticket)
establishment_z_init = refl

establishment_z : answers_to (cookie_echo ticket false ∷ []) z ≡ both reply.CookieAck told.Connected ∷ []
establishment_z = refl

-- A and Z when the association stands
abbrev a_up : Machine
a_up = after (connect ∷ init_ack (fitted_offer 33 200) ∷ cookie_ack ∷ []) a

abbrev z_up : Machine
z_up = after (cookie_echo ticket false ∷ []) z

established_a : a_up ≡ record a { state = Established; peer = Some (fitted_offer 33 200) }
established_a = refl

established_z : z_up ≡ record z { state = Established; own = fitted_offer 33 200; peer = Some (offer 11 100) }
established_z = refl

-- a COOKIE ACK that was lost: the COOKIE ECHO comes again, though it is old by now (5.2.4 D)
repeat_z : answers_to (cookie_echo ticket true ∷ []) z_up ≡ replied reply.CookieAck ∷ []
repeat_z = refl

-- a cookie that is too old (5.1.5)
stale_z : answers_to (cookie_echo ticket true ∷ []) z ≡ replied reply.StaleCookie ∷ []
stale_z = refl

stale_z_closed : after (cookie_echo ticket true ∷ []) z ≡ z
stale_z_closed = refl

-- ## 3.3.2, 3.3.3: offers that can't stand

no_tag : init_reply (offer 0 100) fresh z ≡ None
no_tag = refl

no_streams : init_reply (record (offer 11 100) { inbound_streams = 0 }) fresh z ≡ Some (reply.Abort InvalidMandatoryParameter)
no_streams = refl

small_window : init_reply (record (offer 11 100) { window = 1499 }) fresh z_up ≡ Some (reply.Abort InvalidMandatoryParameter)
small_window = refl

no_tag_ack : answers_to (connect ∷ init_ack (offer 0 300) ∷ []) a ≡ replied reply.Init ∷ noticed told.Failed ∷ []
no_tag_ack = refl

small_window_ack : after (connect ∷ init_ack (record (offer 22 200) { window = 1499 }) ∷ []) a ≡ after (connect ∷ []) a
small_window_ack = refl

-- ## 5.2.1: both begin at once

abbrev a_waits : Machine
a_waits = after (connect ∷ []) a

-- each answers the INIT of the other with the tag of its own INIT
abbrev ticket_a : Ticket
ticket_a = record { own = fitted_offer 11 100; peer = offer 22 200; tie_tags = None }

both_init : init_reply (offer 22 200) fresh a_waits ≡ Some (reply.InitAck ticket_a)
both_init = refl

-- each echoes the cookie of the other, and then gets its own
both_begin : answers_to (init_ack (fitted_offer 22 200) ∷ cookie_echo ticket_a false ∷ cookie_ack ∷ []) a_waits
    ≡ replied reply.CookieEcho ∷ both reply.CookieAck told.Connected ∷ silent ∷ []
both_begin = refl

-- the own cookie comes before the INIT ACK: row B, with a peer that is not known yet
own_cookie_first : answers_to (cookie_echo ticket_a false ∷ init_ack (fitted_offer 22 200) ∷ []) a_waits
    ≡ both reply.CookieAck told.Connected ∷ silent ∷ []
own_cookie_first = refl

-- an INIT that comes in COOKIE-ECHOED: the own tag stays, and both tags tie
echoed_init : init_reply (offer 44 400) fresh (after (init_ack (fitted_offer 22 200) ∷ []) a_waits)
    ≡ Some (reply.InitAck (record { own = fitted_offer 11 100; peer = offer 44 400; tie_tags = tie 11 22 }))
echoed_init = refl

-- ## 5.2.4: a cookie for an association that stands

-- row A: Z began anew, with tag 44; the INIT ACK of A has a fresh tag, and the tags of the association as tie-tags
abbrev restart_ticket : Ticket
restart_ticket = record { own = fitted_offer 33 100; peer = offer 44 400; tie_tags = tie 11 22 }

abbrev a_of_22 : Machine
a_of_22 = after (init_ack (fitted_offer 22 200) ∷ cookie_ack ∷ []) a_waits

restart_init : init_reply (offer 44 400) fresh a_of_22 ≡ Some (reply.InitAck restart_ticket)
restart_init = refl

restart : answers_to (cookie_echo restart_ticket false ∷ []) a_of_22 ≡ both reply.CookieAck told.Restarted ∷ []
restart = refl

restarted : after (cookie_echo restart_ticket false ∷ []) a_of_22
    ≡ record a { state = Established; own = fitted_offer 33 100; peer = Some (offer 44 400); has_restarted = true }
restarted = refl

-- row A with a stale cookie
restart_stale : answers_to (cookie_echo restart_ticket true ∷ []) a_of_22 ≡ replied reply.StaleCookie ∷ []
restart_stale = refl

-- not row A: the tie-tags are of an association that has ended
restart_not_matched : answers_to (cookie_echo (record restart_ticket { tie_tags = tie 11 55 }) false ∷ []) a_of_22 ≡ silent ∷ []
restart_not_matched = refl

-- row B: the peer sent another INIT since
collision : answers_to (cookie_echo ticket_a false ∷ []) (after (init_ack (fitted_offer 44 400) ∷ []) a_waits)
    ≡ both reply.CookieAck told.Connected ∷ []
collision = refl

collided : after (cookie_echo ticket_a false ∷ []) (after (init_ack (fitted_offer 44 400) ∷ []) a_waits)
    ≡ record a { state = Established; own = fitted_offer 11 100; peer = Some (offer 22 200) }
collided = refl

-- row C: the cookie of an earlier tag of this side comes late
late : answers_to (cookie_echo (record ticket_a { own = offer 10 90 }) false ∷ []) (after (init_ack (fitted_offer 22 200) ∷ []) a_waits)
    ≡ silent ∷ []
late = refl

-- an old cookie of the peer whose INIT was answered before, with another tag
old_cookie : answers_to (cookie_echo (record ticket { own = offer 32 290; peer = offer 10 90 }) false ∷ []) z_up ≡ silent ∷ []
old_cookie = refl

-- ## 5.2.6: the cookie was stale

retry : answers_to (stale_cookie 12 ∷ init_ack (fitted_offer 22 200) ∷ cookie_ack ∷ []) (after (init_ack (fitted_offer 22 200) ∷ []) a_waits)
    ≡ replied reply.Init ∷ replied reply.CookieEcho ∷ noticed told.Connected ∷ []
retry = refl

-- the new INIT has the fresh tag
anew : after (stale_cookie 12 ∷ []) (after (init_ack (fitted_offer 22 200) ∷ []) a_waits) ≡ record a_waits { own = offer 12 100; stale = 1 }
anew = refl

-- Z stands with tags 33 and 11, its COOKIE ACKs were lost, and A begins again with tag 12: row A
anew_init : init_reply (offer 12 100) 34 z_up
    ≡ Some (reply.InitAck (record { own = fitted_offer 34 200; peer = offer 12 100; tie_tags = tie 33 11 }))
anew_init = refl

anew_restarts : answers_to (cookie_echo (record { own = fitted_offer 34 200; peer = offer 12 100; tie_tags = tie 33 11 }) false ∷ []) z_up
    ≡ both reply.CookieAck told.Restarted ∷ []
anew_restarts = refl

-- with the earlier tag no row took the cookie
not_anew : answers_to (cookie_echo (record { own = fitted_offer 34 200; peer = offer 11 100; tie_tags = tie 33 11 }) false ∷ []) z_up ≡ silent ∷ []
not_anew = refl

stale_for_ever : answers_to (
    init_ack (offer 22 200) ∷ stale_cookie 12 ∷ init_ack (offer 22 200) ∷ stale_cookie 13 ∷ init_ack (offer 22 200) ∷ stale_cookie 14 ∷ []
    ) a_waits
    ≡ replied reply.CookieEcho ∷ replied reply.Init ∷ replied reply.CookieEcho ∷ replied reply.Init ∷ replied reply.CookieEcho ∷ noticed told.Failed ∷ []
stale_for_ever = refl

-- ## 4, notes 2 and 3: no answer comes

unanswered_init : answers_to (connect ∷ timed_out ∷ timed_out ∷ timed_out ∷ []) a
    ≡ replied reply.Init ∷ replied reply.Init ∷ replied reply.Init ∷ noticed told.Failed ∷ []
unanswered_init = refl

unanswered_cookie : answers_to (timed_out ∷ init_ack (offer 22 200) ∷ timed_out ∷ timed_out ∷ timed_out ∷ []) a_waits
    ≡ replied reply.Init ∷ replied reply.CookieEcho ∷ replied reply.CookieEcho ∷ replied reply.CookieEcho ∷ noticed told.Failed ∷ []
unanswered_cookie = refl

-- ## 9.2: a shutdown

shutdown_a : answers_to (shutdown_asked ∷ drained ∷ shutdown_ack ∷ []) a_up
    ≡ silent ∷ replied reply.Shutdown ∷ both (reply.ShutdownComplete false) told.Closed ∷ []
shutdown_a = refl

shutdown_z : answers_to (shutdown ∷ shutdown_asked ∷ drained ∷ shutdown_complete ∷ []) z_up
    ≡ noticed told.ShutdownBegun ∷ silent ∷ replied reply.ShutdownAck ∷ noticed told.Closed ∷ []
shutdown_z = refl

shut_down : after (shutdown_asked ∷ drained ∷ shutdown_ack ∷ []) a_up ≡ a
shut_down = refl

-- both at once: each answers the other's SHUTDOWN, and the first SHUTDOWN ACK ends it
both_shut_down : answers_to (shutdown_asked ∷ drained ∷ shutdown ∷ shutdown_ack ∷ []) a_up
    ≡ silent ∷ replied reply.Shutdown ∷ replied reply.ShutdownAck ∷ both (reply.ShutdownComplete false) told.Closed ∷ []
both_shut_down = refl

-- the other asks while data waits here still
asked_first : answers_to (shutdown_asked ∷ shutdown ∷ drained ∷ shutdown_complete ∷ []) a_up
    ≡ silent ∷ noticed told.ShutdownBegun ∷ replied reply.ShutdownAck ∷ noticed told.Closed ∷ []
asked_first = refl

-- DATA in SHUTDOWN-SENT is answered by a SHUTDOWN at once, and the count begins anew
data_in_shutdown : answers_to (shutdown_asked ∷ drained ∷ timed_out ∷ timed_out ∷ packet_arrived true ∷ timed_out ∷ timed_out ∷ timed_out ∷ []) a_up
    ≡ silent ∷ replied reply.Shutdown ∷ replied reply.Shutdown ∷ replied reply.Shutdown ∷ replied reply.Shutdown ∷ replied reply.Shutdown ∷ replied
    reply.Shutdown
    ∷ noticed told.Failed ∷ []
data_in_shutdown = refl

-- the SHUTDOWN COMPLETE was lost, and the peer begins anew: Z sends its SHUTDOWN ACK again, which A takes as out of the blue, and goes on (8.5.1 E)
abbrev z_ends : Machine
z_ends = after (shutdown ∷ drained ∷ []) z_up

lost_complete_z : init_reply (offer 44 400) fresh z_ends ≡ Some reply.ShutdownAck
lost_complete_z = refl

lost_complete_a : answers_to (shutdown_ack ∷ timed_out ∷ []) a_waits ≡ replied (reply.ShutdownComplete true) ∷ replied reply.Init ∷ []
lost_complete_a = refl

lost_complete_end : (after (shutdown_complete ∷ []) z_ends).state ≡ Closed
lost_complete_end = refl

-- a cookie from before it (5.2.4 A in SHUTDOWN-ACK-SENT)
cookie_while_shutting_down : answers_to (cookie_echo (record { own = offer 66 600; peer = offer 44 400; tie_tags = tie 33 11 }) false ∷ []) z_ends
    ≡ replied reply.CookieWhileShuttingDown ∷ []
cookie_while_shutting_down = refl

-- ## 9.1: aborts

abort_up : answers_to (abort ∷ abort ∷ []) a_up ≡ noticed told.Failed ∷ silent ∷ []
abort_up = refl

abort_by_user : answers_to (abort_asked ∷ abort_asked ∷ []) a_up ≡ both (reply.Abort UserInitiatedAbort) told.Closed ∷ silent ∷ []
abort_by_user = refl

-- ## 4: the figure, each arrow

abbrev ends_in : State → List Input → Machine → Type 0
ends_in s is m = (after is m).state ≡ s

figure : ends_in CookieWait (connect ∷ []) a
    × ends_in Established (cookie_echo ticket false ∷ []) z
    × ends_in CookieEchoed (init_ack (offer 22 200) ∷ []) a_waits
    × ends_in Established (cookie_ack ∷ []) (after (init_ack (offer 22 200) ∷ []) a_waits)
    × ends_in ShutdownPending (shutdown_asked ∷ []) a_up
    × ends_in ShutdownReceived (shutdown ∷ []) a_up
    × ends_in ShutdownSent (drained ∷ []) (after (shutdown_asked ∷ []) a_up)
    × ends_in ShutdownAckSent (drained ∷ []) (after (shutdown ∷ []) a_up)
    × ends_in ShutdownAckSent (shutdown ∷ []) (after (shutdown_asked ∷ drained ∷ []) a_up)
    × ends_in Closed (shutdown_ack ∷ []) (after (shutdown_asked ∷ drained ∷ []) a_up)
    × ends_in Closed (shutdown_complete ∷ []) (after (shutdown ∷ drained ∷ []) a_up)
    × ends_in Closed (shutdown_ack ∷ []) (after (shutdown ∷ drained ∷ []) a_up)
    × ends_in Closed (abort ∷ []) a_waits
    × ends_in Closed (abort_asked ∷ []) a_up
figure = (refl, refl, refl, refl, refl, refl, refl, refl, refl, refl, refl, refl, refl, refl)
