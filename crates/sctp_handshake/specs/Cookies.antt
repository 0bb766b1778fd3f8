-- How an association stands: COOKIE ECHO and COOKIE ACK (RFC 9260 5.1 D and E, 5.2.4 to 5.2.6).
use Rattle.std.specs.Prelude.{ℕ, ◌+◌, Bool, true, false, ◌&&◌, ◌==◌, nat_lt, is_none, if◌then◌else◌, Option, Some, None}
use Rattle.sctp_handshake.specs.declared.answer.Reply.TheVariants as reply
use Rattle.sctp_handshake.specs.declared.answer.Told.TheVariants as told
use Rattle.sctp_handshake.specs.declared.machine.cookies.CookieRow.{CookieRow}
use Rattle.sctp_handshake.specs.declared.machine.cookies.CookieRow.TheVariants.{First, Restart, Collision, Late, Repeat, Unlisted}
use Rattle.sctp_handshake.specs.declared.machine.Machine.{Machine}
use Rattle.sctp_handshake.specs.declared.offer.Offer.{Offer}
use Rattle.sctp_handshake.specs.declared.state.State.{State}
use Rattle.sctp_handshake.specs.declared.state.State.TheVariants.{Closed, CookieWait, CookieEchoed, Established}
use Rattle.sctp_handshake.specs.declared.state.State.TheVariants.{ShutdownPending, ShutdownSent, ShutdownReceived, ShutdownAckSent}
use Rattle.sctp_handshake.specs.declared.ticket.Ticket.{Ticket}
use Rattle.sctp_handshake.specs.declared.ticket.TieTags.{TieTags}
use Rattle.sctp_handshake.specs.Answers.{replied, noticed, both}
use Rattle.sctp_handshake.specs.Machines.{Step, dropped, answered, failed, tie_tags_of}

-- ## The table of RFC 9260 5.2.4

abbrev pub has_tag : ℕ → Option Offer → Bool
has_tag tag None = false
has_tag tag (Some o) = tag == o.tag

-- both tie-tags are known, and match
abbrev pub are_tie_tags : Option TieTags → Option TieTags → Bool
are_tie_tags None b = false
are_tie_tags (Some a) None = false
are_tie_tags (Some a) (Some b) = (a.own == b.own) && (a.peer == b.peer)

-- the row by which tags match (M), or do not match or are not known (X, 0): Local Tag, Peer's Tag, and then the tie-tags
abbrev pub row_by : Bool → Bool → Bool → Bool → CookieRow
row_by true true matched absent = Repeat
row_by true false matched absent = Collision
row_by false true matched true = Late
row_by false true matched false = Unlisted
row_by false false true absent = Restart
row_by false false false absent = Unlisted

abbrev pub row_in : State → Ticket → Machine → CookieRow
row_in Closed t m = First
row_in _ t m = row_by (t.own.tag == m.own.tag) (has_tag t.peer.tag m.peer)
    (are_tie_tags t.tie_tags (tie_tags_of m)) (is_none t.tie_tags)

abbrev pub row_of : Ticket → Machine → CookieRow
row_of t m = row_in m.state t m

-- ## What a row does

-- the association is that of the ticket
abbrev pub established_by : Ticket → Machine → Machine
established_by t m =
    record m { state = Established; own = t.own; peer = Some t.peer; attempts = 0; stale = 0 }

-- the association stands that was being set up
abbrev pub established : Machine → Machine
established m = record m { state = Established; attempts = 0; stale = 0 }

abbrev pub begins : Ticket → Machine → Step
begins ticket m = record {
  machine = established_by ticket m;
  answer = both reply.CookieAck told.Connected;
}

-- it begins anew
abbrev pub restarts : Ticket → Machine → Step
restarts ticket m = record {
  machine = record (established_by ticket m) { has_restarted = true };
  answer = both reply.CookieAck told.Restarted;
}

-- The association begins, or begins anew. Rows A and B do the same: RFC 9260 has the state entered and the peer's tag taken, and dcSCTP and
-- usrsctp take all of the ticket. In ShutdownAckSent it goes on ending, for row B too, as in usrsctp.
abbrev pub renewal_row : State → Ticket → Machine → Step
renewal_row Closed t m = begins t m
renewal_row CookieWait t m = begins t m
renewal_row CookieEchoed t m = begins t m
renewal_row Established t m = restarts t m
renewal_row ShutdownPending t m = restarts t m
renewal_row ShutdownSent t m = restarts t m
renewal_row ShutdownReceived t m = restarts t m
renewal_row ShutdownAckSent t m = answered reply.CookieWhileShuttingDown m

-- row D: the own association stands now, or the COOKIE ACK was lost
abbrev pub repeat_row : State → Machine → Step
repeat_row Closed m = answered reply.CookieAck m
repeat_row CookieWait m = answered reply.CookieAck m
repeat_row CookieEchoed m =
    record { machine = established m; answer = both reply.CookieAck told.Connected }
repeat_row Established m = answered reply.CookieAck m
repeat_row ShutdownPending m = answered reply.CookieAck m
repeat_row ShutdownSent m = answered reply.CookieAck m
repeat_row ShutdownReceived m = answered reply.CookieAck m
repeat_row ShutdownAckSent m = answered reply.CookieAck m

abbrev pub unless_stale : Bool → Machine → Step → Step
unless_stale true m s = answered reply.StaleCookie m
unless_stale false m s = s

-- a stale cookie is one still where both tags match (RFC 9260 5.2.4)
abbrev pub cookie_step : CookieRow → Ticket → Bool → Machine → Step
cookie_step First t stale m = unless_stale stale m (renewal_row m.state t m)
cookie_step Restart t stale m = unless_stale stale m (renewal_row m.state t m)
cookie_step Collision t stale m = unless_stale stale m (renewal_row m.state t m)
cookie_step Late t stale m = unless_stale stale m (dropped m)
cookie_step Repeat t stale m = repeat_row m.state m
cookie_step Unlisted t stale m = unless_stale stale m (dropped m)

abbrev pub on_cookie_echo : Ticket → Bool → Machine → Step
on_cookie_echo t stale m = cookie_step (row_of t m) t stale m

-- ## `cookie_ack` (RFC 9260 5.1 E, 5.2.5)

abbrev pub cookie_ack_row : State → Machine → Step
cookie_ack_row Closed m = dropped m
cookie_ack_row CookieWait m = dropped m
cookie_ack_row CookieEchoed m =
    record { machine = established m; answer = noticed told.Connected }
cookie_ack_row Established m = dropped m
cookie_ack_row ShutdownPending m = dropped m
cookie_ack_row ShutdownSent m = dropped m
cookie_ack_row ShutdownReceived m = dropped m
cookie_ack_row ShutdownAckSent m = dropped m

abbrev pub on_cookie_ack : Machine → Step
on_cookie_ack m = cookie_ack_row m.state m

-- ## `stale_cookie` (RFC 9260 5.2.6)

-- What this side offers, with a fresh tag. The peer may have an association with the earlier one, whose COOKIE ACK was lost: by row A of 5.2.4 a cookie
-- with the fresh tag begins that anew, and no row takes one with the earlier tag.
abbrev pub offered_anew : (fresh : ℕ) → Machine → Offer
offered_anew fresh m = record m.own { tag = fresh }

abbrev pub begun_again : (fresh : ℕ) → Machine → Step
begun_again fresh m = record {
  machine = record m {
    state = CookieWait;
    own = offered_anew fresh m;
    peer = None;
    attempts = 0;
    stale = m.stale + 1;
  };
  answer = replied reply.Init;
}

-- the handshake begins again, as often as an INIT may be sent again
abbrev pub retried : (fresh : ℕ) → Machine → Step
retried fresh m =
    if nat_lt m.stale m.limits.max_init_retransmits then begun_again fresh m else failed m

abbrev pub stale_cookie_row : State → (fresh : ℕ) → Machine → Step
stale_cookie_row Closed fresh m = dropped m
stale_cookie_row CookieWait fresh m = dropped m
stale_cookie_row CookieEchoed fresh m = retried fresh m
stale_cookie_row Established fresh m = dropped m
stale_cookie_row ShutdownPending fresh m = dropped m
stale_cookie_row ShutdownSent fresh m = dropped m
stale_cookie_row ShutdownReceived fresh m = dropped m
stale_cookie_row ShutdownAckSent fresh m = dropped m

abbrev pub on_stale_cookie : (fresh : ℕ) → Machine → Step
on_stale_cookie fresh m = stale_cookie_row m.state fresh m
