-- What each input keeps.
use Rattle.std.proofs.Common.{◌≡◌, ℕ, Bool, true, false, List, [], ◌∷◌, refl}
use Rattle.std.specs.Prelude.{◌≢◌, Option, Some, None, is_some, if◌then◌else◌, nat_lt}
use Rattle.sctp_handshake.specs.declared.answer.Reply.{Reply}
use Rattle.sctp_handshake.specs.declared.machine.cookies.CookieRow.{CookieRow}
use Rattle.sctp_handshake.specs.declared.machine.cookies.CookieRow.TheVariants.{First, Restart, Collision, Late, Repeat, Unlisted}
use Rattle.sctp_handshake.specs.declared.machine.Machine.{Machine}
use Rattle.sctp_handshake.specs.declared.offer.Offer.{Offer}
use Rattle.sctp_handshake.specs.declared.offer.OfferFault.{OfferFault}
use Rattle.sctp_handshake.specs.declared.offer.OfferFault.TheVariants.{NoTag, NoStreams, SmallWindow}
use Rattle.sctp_handshake.specs.declared.state.State.{State}
use Rattle.sctp_handshake.specs.declared.state.State.TheVariants.{Closed, CookieWait, CookieEchoed, Established}
use Rattle.sctp_handshake.specs.declared.state.State.TheVariants.{ShutdownPending, ShutdownSent, ShutdownReceived, ShutdownAckSent}
use Rattle.sctp_handshake.specs.declared.ticket.Ticket.{Ticket}
use Rattle.sctp_handshake.specs.Beginnings.{init_ack_checked, init_ack_row}
use Rattle.sctp_handshake.specs.Cookies.{row_of, renewal_row, repeat_row, unless_stale, cookie_step, cookie_ack_row, begun_again, stale_cookie_row}
use Rattle.sctp_handshake.specs.Endings.{shutdown_asked_row, drained_row, shutdown_row, shutdown_ack_row, shutdown_complete_row, abort_row, abort_asked_row}
use Rattle.sctp_handshake.specs.Histories.{Input, connect, init_ack, cookie_echo, cookie_ack, stale_cookie, shutdown_asked, drained, shutdown, shutdown_ack}
use Rattle.sctp_handshake.specs.Histories.{shutdown_complete, abort, abort_asked, timed_out, packet_arrived, connect_row, on, after}
use Rattle.sctp_handshake.specs.Laws.{IsNoCookie, AreNoCookies}
use Rattle.sctp_handshake.specs.Machines.{Step, failed, KnowsPeer, knows_peer}
use Rattle.sctp_handshake.specs.Offers.{offer_fault}
use Rattle.sctp_handshake.specs.Timeouts.{sent_again, again, timed_out_row, packet_arrived_row}

-- either step of a choice
choice : (P : Machine → Type 0) (b : Bool) (s t : Step) → P s.machine → P t.machine → P (if b then s else t).machine
choice P true s t h g = h
choice P false s t h g = g

unless : (P : Machine → Type 0) (stale : Bool) (m : Machine) (s : Step) → P m → P s.machine → P (unless_stale stale m s).machine
unless P true m s h g = h
unless P false m s h g = g

-- ## The peer is known

module _ (m : Machine) (h : KnowsPeer m) where
  again_valid : (most : ℕ) (r : Reply) → KnowsPeer (again most r m).machine
  again_valid most r = choice KnowsPeer (nat_lt m.attempts most) (sent_again r m) (failed m) h refl

  connect_valid : (s : State) → is_some m.peer ≡ knows_peer s → KnowsPeer (connect_row s m).machine
  connect_valid Closed e = e
  connect_valid _ e = h

  init_ack_checked_valid : (f : Option OfferFault) (peer : Offer) → KnowsPeer (init_ack_checked f peer m).machine
  init_ack_checked_valid None peer = refl
  init_ack_checked_valid (Some NoTag) peer = refl
  init_ack_checked_valid (Some NoStreams) peer = refl
  init_ack_checked_valid (Some SmallWindow) peer = h

  init_ack_valid : (s : State) (peer : Offer) → KnowsPeer (init_ack_row s peer m).machine
  init_ack_valid CookieWait peer = init_ack_checked_valid (offer_fault peer) peer
  init_ack_valid _ peer = h

  renewal_valid : (s : State) (t : Ticket) → KnowsPeer (renewal_row s t m).machine
  renewal_valid ShutdownAckSent t = h
  renewal_valid _ t = refl

  repeat_valid : (s : State) → is_some m.peer ≡ knows_peer s → KnowsPeer (repeat_row s m).machine
  repeat_valid CookieEchoed e = e
  repeat_valid _ e = h

  cookie_valid : (r : CookieRow) (t : Ticket) (stale : Bool) → KnowsPeer (cookie_step r t stale m).machine
  cookie_valid First t stale = unless KnowsPeer stale m _ h (renewal_valid m.state t)
  cookie_valid Restart t stale = unless KnowsPeer stale m _ h (renewal_valid m.state t)
  cookie_valid Collision t stale = unless KnowsPeer stale m _ h (renewal_valid m.state t)
  cookie_valid Late t stale = unless KnowsPeer stale m _ h h
  cookie_valid Repeat t stale = repeat_valid m.state h
  cookie_valid Unlisted t stale = unless KnowsPeer stale m _ h h

  cookie_ack_valid : (s : State) → is_some m.peer ≡ knows_peer s → KnowsPeer (cookie_ack_row s m).machine
  cookie_ack_valid CookieEchoed e = e
  cookie_ack_valid _ e = h

  stale_cookie_valid : (fresh : ℕ) (s : State) → KnowsPeer (stale_cookie_row s fresh m).machine
  stale_cookie_valid fresh CookieEchoed = choice KnowsPeer (nat_lt m.stale m.limits.max_init_retransmits) (begun_again fresh m) (failed m) refl refl
  stale_cookie_valid fresh _ = h

  shutdown_asked_valid : (s : State) → is_some m.peer ≡ knows_peer s → KnowsPeer (shutdown_asked_row s m).machine
  shutdown_asked_valid CookieWait e = refl
  shutdown_asked_valid Established e = e
  shutdown_asked_valid _ e = h

  drained_valid : (s : State) → is_some m.peer ≡ knows_peer s → KnowsPeer (drained_row s m).machine
  drained_valid ShutdownPending e = e
  drained_valid ShutdownReceived e = e
  drained_valid _ e = h

  shutdown_valid : (s : State) → is_some m.peer ≡ knows_peer s → KnowsPeer (shutdown_row s m).machine
  shutdown_valid Established e = e
  shutdown_valid ShutdownPending e = e
  shutdown_valid ShutdownSent e = e
  shutdown_valid _ e = h

  shutdown_ack_valid : (s : State) → KnowsPeer (shutdown_ack_row s m).machine
  shutdown_ack_valid ShutdownSent = refl
  shutdown_ack_valid ShutdownAckSent = refl
  shutdown_ack_valid _ = h

  shutdown_complete_valid : (s : State) → KnowsPeer (shutdown_complete_row s m).machine
  shutdown_complete_valid ShutdownAckSent = refl
  shutdown_complete_valid _ = h

  abort_valid : (s : State) → KnowsPeer (abort_row s m).machine
  abort_valid Closed = h
  abort_valid _ = refl

  abort_asked_valid : (s : State) → KnowsPeer (abort_asked_row s m).machine
  abort_asked_valid Closed = h
  abort_asked_valid _ = refl

  timed_out_valid : (s : State) → KnowsPeer (timed_out_row s m).machine
  timed_out_valid CookieWait = again_valid _ _
  timed_out_valid CookieEchoed = again_valid _ _
  timed_out_valid ShutdownSent = again_valid _ _
  timed_out_valid ShutdownAckSent = again_valid _ _
  timed_out_valid _ = h

  packet_arrived_valid : (s : State) (has_data : Bool) → KnowsPeer (packet_arrived_row s has_data m).machine
  packet_arrived_valid ShutdownSent has_data = h
  packet_arrived_valid _ has_data = h

  on_valid : (i : Input) → KnowsPeer (on i m).machine
  on_valid connect = connect_valid m.state h
  on_valid (init_ack peer) = init_ack_valid m.state peer
  on_valid (cookie_echo t stale) = cookie_valid (row_of t m) t stale
  on_valid cookie_ack = cookie_ack_valid m.state h
  on_valid (stale_cookie fresh) = stale_cookie_valid fresh m.state
  on_valid shutdown_asked = shutdown_asked_valid m.state h
  on_valid drained = drained_valid m.state h
  on_valid shutdown = shutdown_valid m.state h
  on_valid shutdown_ack = shutdown_ack_valid m.state
  on_valid shutdown_complete = shutdown_complete_valid m.state
  on_valid abort = abort_valid m.state
  on_valid abort_asked = abort_asked_valid m.state
  on_valid timed_out = timed_out_valid m.state
  on_valid (packet_arrived has_data) = packet_arrived_valid m.state has_data

pub after_valid : (is : List Input) (m : Machine) → KnowsPeer m → KnowsPeer (after is m)
after_valid [] m h = h
after_valid (i ∷ is) m h = after_valid is (on i m).machine (on_valid m h i)

-- ## Only a cookie makes an association stand

abbrev IsDown : Machine → Type 0
IsDown m = m.state ≢ Established

module _ (m : Machine) (h : IsDown m) where
  again_down : (most : ℕ) (r : Reply) → IsDown (again most r m).machine
  again_down most r = choice IsDown (nat_lt m.attempts most) (sent_again r m) (failed m) h (λ e. cc)

  connect_down : (s : State) → IsDown (connect_row s m).machine
  connect_down Closed = λ e. cc
  connect_down _ = h

  init_ack_checked_down : (f : Option OfferFault) (peer : Offer) → IsDown (init_ack_checked f peer m).machine
  init_ack_checked_down None peer = λ e. cc
  init_ack_checked_down (Some NoTag) peer = λ e. cc
  init_ack_checked_down (Some NoStreams) peer = λ e. cc
  init_ack_checked_down (Some SmallWindow) peer = h

  init_ack_down : (s : State) (peer : Offer) → IsDown (init_ack_row s peer m).machine
  init_ack_down CookieWait peer = init_ack_checked_down (offer_fault peer) peer
  init_ack_down _ peer = h

  stale_cookie_down : (fresh : ℕ) (s : State) → IsDown (stale_cookie_row s fresh m).machine
  stale_cookie_down fresh CookieEchoed = choice IsDown (nat_lt m.stale m.limits.max_init_retransmits) (begun_again fresh m) (failed m) (λ e. cc) (λ e. cc)
  stale_cookie_down fresh _ = h

  shutdown_asked_down : (s : State) → IsDown (shutdown_asked_row s m).machine
  shutdown_asked_down CookieWait = λ e. cc
  shutdown_asked_down Established = λ e. cc
  shutdown_asked_down _ = h

  drained_down : (s : State) → IsDown (drained_row s m).machine
  drained_down ShutdownPending = λ e. cc
  drained_down ShutdownReceived = λ e. cc
  drained_down _ = h

  shutdown_down : (s : State) → IsDown (shutdown_row s m).machine
  shutdown_down Established = λ e. cc
  shutdown_down ShutdownPending = λ e. cc
  shutdown_down ShutdownSent = λ e. cc
  shutdown_down _ = h

  shutdown_ack_down : (s : State) → IsDown (shutdown_ack_row s m).machine
  shutdown_ack_down ShutdownSent = λ e. cc
  shutdown_ack_down ShutdownAckSent = λ e. cc
  shutdown_ack_down _ = h

  shutdown_complete_down : (s : State) → IsDown (shutdown_complete_row s m).machine
  shutdown_complete_down ShutdownAckSent = λ e. cc
  shutdown_complete_down _ = h

  abort_down : (s : State) → IsDown (abort_row s m).machine
  abort_down Closed = h
  abort_down _ = λ e. cc

  abort_asked_down : (s : State) → IsDown (abort_asked_row s m).machine
  abort_asked_down Closed = h
  abort_asked_down _ = λ e. cc

  timed_out_down : (s : State) → IsDown (timed_out_row s m).machine
  timed_out_down CookieWait = again_down _ _
  timed_out_down CookieEchoed = again_down _ _
  timed_out_down ShutdownSent = again_down _ _
  timed_out_down ShutdownAckSent = again_down _ _
  timed_out_down _ = h

  packet_arrived_down : (s : State) (has_data : Bool) → IsDown (packet_arrived_row s has_data m).machine
  packet_arrived_down ShutdownSent has_data = h
  packet_arrived_down _ has_data = h

  on_down : (i : Input) → IsNoCookie i → IsDown (on i m).machine
  on_down connect n = connect_down m.state
  on_down (init_ack peer) n = init_ack_down m.state peer
  on_down (cookie_echo t stale) n = absurd n
  on_down cookie_ack n = absurd n
  on_down (stale_cookie fresh) n = stale_cookie_down fresh m.state
  on_down shutdown_asked n = shutdown_asked_down m.state
  on_down drained n = drained_down m.state
  on_down shutdown n = shutdown_down m.state
  on_down shutdown_ack n = shutdown_ack_down m.state
  on_down shutdown_complete n = shutdown_complete_down m.state
  on_down abort n = abort_down m.state
  on_down abort_asked n = abort_asked_down m.state
  on_down timed_out n = timed_out_down m.state
  on_down (packet_arrived has_data) n = packet_arrived_down m.state has_data

pub after_down : (is : List Input) (m : Machine) → AreNoCookies is → IsDown m → IsDown (after is m)
after_down [] m n h = h
after_down (i ∷ is) m n h = after_down is (on i m).machine n.1 (on_down m h i n.0)
