-- What waits to be told stays: from one call to the next, and where nothing that is told changes.
use Rattle.std.proofs.Common.{◌≡◌, ◌⊎◌, inl, inr, ℕ, zero, suc, ◌<◌, ◌≤◌, take, Bool, true, false, List, [], ◌∷◌, length, Option, Some, None, refl, ap, sym}
use Rattle.std.proofs.Common.{arith}
use Rattle.std.proofs.Common.{subst, ◌∙◌}
use Rattle.std.proofs.lemmas.Bool.{cases_lt, false≢true}
use Rattle.std.specs.Prelude.{find, is_some, if◌then◌else◌, ◌==◌}
use Rattle.sctp_association.proofs.Known.{knows_same}
use Rattle.sctp_association.specs.Beginnings.{KeepsPeer, KnowsNoMore, is_standing}
use Rattle.sctp_association.specs.declared.association.Association.{Association}
use Rattle.sctp_association.specs.declared.due.Due.{Due}
use Rattle.sctp_association.specs.declared.event.Ending.{Ending}
use Rattle.sctp_association.specs.declared.event.Events.{Events}
use Rattle.sctp_association.specs.declared.event.Rooms.{Rooms}
use Rattle.sctp_association.specs.declared.inbound.Inbound.{Inbound}
use Rattle.sctp_association.specs.Halves.{HalvesAlike, receiver_of, sides_of}
use Rattle.sctp_association.specs.Kept.{IsKept, IsUnmoved}
use Rattle.sctp_association.specs.Packets.{Transmits}
use Rattle.sctp_association.specs.Reads.{message_in}
use Rattle.sctp_association.specs.Rooms.{without}
use Rattle.sctp_association.specs.Runs.{AcksBy, ReportsIn, Runs, reported_by}
use Rattle.sctp_association.specs.StreamSet.{is_in}
use Rattle.sctp_association.proofs.Rooms.{place_kept, rooms_alike, rooms_then}
use Rattle.sctp_association.specs.Telling.{KeepsEvents, KeepsRooms, NotesReadable, PassesOn, Stays, Tells, TellsEnd, TellsIn, TellsTo, opened_in, passed_on}
use Rattle.sctp_data.specs.SelectiveAck.{Sack}
use Rattle.sctp_delivery.specs.ReceiverCalls.{ReceiverCall, forgets, makes_sack}
use Rattle.sctp_handshake.specs.Beginnings.{init_ack_checked, init_ack_row, on_connect, on_init_ack}
use Rattle.sctp_handshake.specs.Cookies.{cookie_ack_row, cookie_step, on_cookie_ack, on_cookie_echo, renewal_row, repeat_row, restarts, row_of, unless_stale}
use Rattle.sctp_handshake.specs.Machines.{Step, Takes}
use Rattle.sctp_handshake.specs.Offers.{offer_fault}
use Rattle.sctp_handshake.specs.declared.answer.Answer.{Answer}
use Rattle.sctp_handshake.specs.declared.answer.Told.{Told}
use Rattle.sctp_handshake.specs.declared.answer.Told.TheVariants as told
use Rattle.sctp_handshake.specs.declared.machine.Machine.{Machine}
use Rattle.sctp_handshake.specs.declared.machine.cookies.CookieRow.{CookieRow}
use Rattle.sctp_handshake.specs.declared.machine.cookies.CookieRow.TheVariants.{First, Restart, Collision, Late, Repeat, Unlisted}
use Rattle.sctp_handshake.specs.declared.offer.Offer.{Offer}
use Rattle.sctp_handshake.specs.declared.offer.OfferFault.{OfferFault}
use Rattle.sctp_handshake.specs.declared.offer.OfferFault.TheVariants.{NoTag, NoStreams, SmallWindow}
use Rattle.sctp_handshake.specs.declared.state.State.{State}
use Rattle.sctp_handshake.specs.declared.state.State.TheVariants.{Closed, CookieWait, CookieEchoed, Established}
use Rattle.sctp_handshake.specs.declared.state.State.TheVariants.{ShutdownPending, ShutdownSent, ShutdownReceived, ShutdownAckSent}
use Rattle.sctp_handshake.specs.declared.ticket.Ticket.{Ticket}
use Rattle.sctp_receiver.specs.declared.receiver.inbound_streams.InboundStream.{InboundStream}
use Rattle.sctp_receiver.specs.Receiver.{Reception, at_first, is_open, message_of, stream_of}
use Rattle.sctp_receiver.specs.Inbound.{has_number}
use Rattle.sctp_receiver.specs.declared.receiver.limits.Limits.{Limits}

-- ## Events

pub kept_same : (e f : Events) → f ≡ e → KeepsEvents e f
kept_same e f is = subst (KeepsEvents e) (sym is) (record {
  connected = λ h. h;
  restarted = λ h. h;
  shutdown = λ h. h;
  closed = λ h. h;
  peer_error = λ h. h;
  low = λ s h. h;
  reset_by_us = λ s h. h;
  reset_refused = λ s h. h;
  reset_by_peer = λ s h. h;
  too_long = λ s h. h;
  rooms = rooms_alike e e refl refl refl refl refl refl;
})

pub kept_then : (e f g : Events) → KeepsEvents e f → KeepsEvents f g → KeepsEvents e g
kept_then e f g h k = record {
  connected = λ w. k.connected (h.connected w);
  restarted = λ w. k.restarted (h.restarted w);
  shutdown = λ w. k.shutdown (h.shutdown w);
  closed = λ w. k.closed (h.closed w);
  peer_error = λ w. k.peer_error (h.peer_error w);
  low = λ s w. k.low s (h.low s w);
  reset_by_us = λ s w. k.reset_by_us s (h.reset_by_us s w);
  reset_refused = λ s w. k.reset_refused s (h.reset_refused s w);
  reset_by_peer = λ s w. k.reset_by_peer s (h.reset_by_peer s w);
  too_long = λ s w. k.too_long s (h.too_long s w);
  rooms = rooms_then e f g h.rooms k.rooms;
}

kept-closed : (e : Events) (x : Ending) → KeepsEvents e (record e { closed = Some x })
kept-closed e x = record {
  connected = λ h. h;
  restarted = λ h. h;
  shutdown = λ h. h;
  closed = λ h. refl;
  peer_error = λ h. h;
  low = λ s h. h;
  reset_by_us = λ s h. h;
  reset_refused = λ s h. h;
  reset_by_peer = λ s h. h;
  too_long = λ s h. h;
  rooms = rooms_alike e _ refl refl refl refl refl refl;
}

kept-connected : (e : Events) → KeepsEvents e (record e { connected = true })
kept-connected e = record {
  connected = λ h. refl;
  restarted = λ h. h;
  shutdown = λ h. h;
  closed = λ h. h;
  peer_error = λ h. h;
  low = λ s h. h;
  reset_by_us = λ s h. h;
  reset_refused = λ s h. h;
  reset_by_peer = λ s h. h;
  too_long = λ s h. h;
  rooms = rooms_alike e _ refl refl refl refl refl refl;
}

kept-restarted : (e : Events) → KeepsEvents e (record e { restarted = true })
kept-restarted e = record {
  connected = λ h. h;
  restarted = λ h. refl;
  shutdown = λ h. h;
  closed = λ h. h;
  peer_error = λ h. h;
  low = λ s h. h;
  reset_by_us = λ s h. h;
  reset_refused = λ s h. h;
  reset_by_peer = λ s h. h;
  too_long = λ s h. h;
  rooms = rooms_alike e _ refl refl refl refl refl refl;
}

kept-shutdown : (e : Events) → KeepsEvents e (record e { shutdown = true })
kept-shutdown e = record {
  connected = λ h. h;
  restarted = λ h. h;
  shutdown = λ h. refl;
  closed = λ h. h;
  peer_error = λ h. h;
  low = λ s h. h;
  reset_by_us = λ s h. h;
  reset_refused = λ s h. h;
  reset_by_peer = λ s h. h;
  too_long = λ s h. h;
  rooms = rooms_alike e _ refl refl refl refl refl refl;
}

kept-error : (e : Events) (code : ℕ) → KeepsEvents e (record e { peer_error = Some code })
kept-error e code = record {
  connected = λ h. h;
  restarted = λ h. h;
  shutdown = λ h. h;
  closed = λ h. h;
  peer_error = λ h. refl;
  low = λ s h. h;
  reset_by_us = λ s h. h;
  reset_refused = λ s h. h;
  reset_by_peer = λ s h. h;
  too_long = λ s h. h;
  rooms = rooms_alike e _ refl refl refl refl refl refl;
}

-- ## Streams with a message to read

-- the open streams
abbrev streams-of : Option Reception → List InboundStream
streams-of None = []
streams-of (Some r) = r.streams

abbrev pub streams_in : Option Inbound → List InboundStream
streams_in i = streams-of (receiver_of i)

opened-is : (s : ℕ) (i : Option Inbound) → opened_in s i ≡ is_some (find (has_number s) (streams_in i))
opened-is s None = refl
opened-is s (Some i) = refl

message-is : (s : ℕ) (i : Option Inbound) → message_in s i ≡ message_of (find (has_number s) (streams_in i))
message-is s None = refl
message-is s (Some i) = refl

module _ (i j : Option Inbound) (same : streams_in j ≡ streams_in i) where
  opened-same : (s : ℕ) → opened_in s j ≡ opened_in s i
  opened-same s = opened-is s j ∙ ap (λ l. is_some (find (has_number s) l)) same ∙ sym (opened-is s i)

  message-same : (s : ℕ) → message_in s j ≡ message_in s i
  message-same s = message-is s j ∙ ap (λ l. message_of (find (has_number s) l)) same ∙ sym (message-is s i)

-- where a stream is not open nothing can be read on it
message-none : (o : Option InboundStream) → is_some o ≡ false → is_some (message_of o) ≡ true → ⊥
message-none None e w = absurd (false≢true w)
message-none (Some l) e w = absurd (false≢true (sym e))

unopened : (s : ℕ) (i : Option Inbound) → opened_in s i ≡ false → is_some (message_in s i) ≡ true → ⊥
unopened s None e w = absurd (false≢true w)
unopened s (Some i) e w = message-none (stream_of s i.receiver) e w

-- where no stream opens, and the same messages can be read
module _ (i : Option Inbound) (e : Events) (j : Option Inbound) (f : Events) where
  notes-by : ((s : ℕ) → opened_in s j ≡ true → opened_in s i ≡ true) → ((s : ℕ) → message_in s j ≡ message_in s i) → f.readable ≡ e.readable
      → KeepsRooms e f → NotesReadable i e j f
  notes-by more same is rooms = record {
    places = λ h s o. place_kept s e f rooms (h s (more s o));
    noted = λ h s n w. subst (λ (l : List Bool). is_in s l ≡ true) (sym is) (n (sym (ap is_some (same s)) ∙ w));
  }

  notes-alike : streams_in j ≡ streams_in i → f.readable ≡ e.readable → KeepsRooms e f → NotesReadable i e j f
  notes-alike same is rooms = notes-by (λ s o. sym (opened-same i j same s) ∙ o) (message-same i j same) is rooms

  -- where no stream is open nothing can be read
  pub notes_none : ((s : ℕ) → opened_in s j ≡ false) → NotesReadable i e j f
  notes_none none = record {
    places = λ h s o. absurd (false≢true (sym (none s) ∙ o));
    noted = λ h s n w. absurd (unopened s j (none s) w);
  }

  in-alike : streams_in j ≡ streams_in i → f ≡ e → TellsIn i e j f
  in-alike same is =
      let kept = kept_same e f is in
      record { kept = kept; readable = notes-alike same (ap (λ (x : Events). x.readable) is) kept.rooms }

pub in_then : (i : Option Inbound) (e : Events) (j : Option Inbound) (f : Events) (k : Option Inbound) (g : Events) → TellsIn i e j f → TellsIn j f k g
    → TellsIn i e k g
in_then i e j f k g a b = record {
  kept = kept_then e f g a.kept b.kept;
  readable = record {
    places = λ h. b.readable.places (a.readable.places h);
    noted = λ h s n. b.readable.noted (a.readable.places h) s (a.readable.noted h s n);
  };
}

-- ## An association, its state machine apart

module _ (i : Option Inbound) (e : Events) (x : Bool) (j : Option Inbound) (f : Events) (y : Bool) where
  -- nothing ends
  going : TellsIn i e j f → y ≡ x → TellsTo i e x j f y
  going h over = record {
    events = h;
    over = λ was. over ∙ was;
    ended = λ was is. absurd (false≢true (sym was ∙ sym over ∙ is));
  }

  pub to_alike : streams_in j ≡ streams_in i → f ≡ e → y ≡ x → TellsTo i e x j f y
  to_alike same is over = going (in-alike i e j f same is) over

  -- nothing of the receiving half changes, and events that wait stay
  pub to_kept : streams_in j ≡ streams_in i → KeepsEvents e f → f.readable ≡ e.readable → y ≡ x → TellsTo i e x j f y
  to_kept same kept is over = going (record { kept = kept; readable = notes-alike i e j f same is kept.rooms }) over

  -- it ends
  pub to_over : (how : Ending) → streams_in j ≡ streams_in i → f ≡ record e { closed = Some how } → y ≡ true → TellsTo i e x j f y
  to_over how same is over =
      let kept = subst (KeepsEvents e) (sym is) (kept-closed e how) in
      record {
        events = record {
          kept = kept;
          readable = notes-alike i e j f same (ap (λ (v : Events). v.readable) is) kept.rooms;
        };
        over = λ was. over;
        ended = λ was now. ap (λ (v : Events). is_some v.closed) is;
      }

  -- and what follows
  module _ (k : Option Inbound) (g : Events) (z : Bool) (h : TellsTo i e x j f y) (l : TellsTo j f y k g z) where
    ended-then : x ≡ false → z ≡ true → (mid : Bool) → y ≡ mid → is_some g.closed ≡ true
    ended-then was now true is = l.events.kept.closed (h.ended was is)
    ended-then was now false is = l.ended is now

    pub to_then : TellsTo i e x k g z
    to_then = record {
      events = in_then i e j f k g h.events l.events;
      over = λ was. l.over (h.over was);
      ended = λ was now. ended-then was now y refl;
    }

-- something more waits to be told
module _ (i : Option Inbound) (e : Events) (x : Bool) where
  pub to_connected : TellsTo i e x i (record e { connected = true }) x
  to_connected = to_kept i e x i _ x refl (kept-connected e) refl refl

  pub to_restarted : TellsTo i e x i (record e { restarted = true }) x
  to_restarted = to_kept i e x i _ x refl (kept-restarted e) refl refl

  pub to_shutdown : TellsTo i e x i (record e { shutdown = true }) x
  to_shutdown = to_kept i e x i _ x refl (kept-shutdown e) refl refl

  pub to_error : (code : ℕ) → TellsTo i e x i (record e { peer_error = Some code }) x
  to_error code = to_kept i e x i _ x refl (kept-error e code) refl refl

  -- the receiving half goes, or is a new one
  pub to_none : TellsTo i e x None e x
  to_none = going i e x None e x (record { kept = kept_same e e refl; readable = notes_none i e None e (λ s. refl) }) refl

  pub to_new : (j : Inbound) (tsn max : ℕ) (l : Option Limits) → j.receiver ≡ at_first tsn max l → TellsTo i e x (Some j) e x
  to_new j tsn max l is = going i e x (Some j) e x (record {
    kept = kept_same e e refl;
    readable = notes_none i e (Some j) e (λ s. ap (is_open s) is);
  }) refl

-- the receiving half was called, where there is one
pub to_in : (o : Option Inbound) (i j : Inbound) (e f : Events) (x : Bool) → o ≡ Some i → TellsIn (Some i) e (Some j) f → TellsTo o e x (Some j) f x
to_in o i j e f x is h = subst (λ p. TellsTo p e x (Some j) f x) (sym is) (going (Some i) e x (Some j) f x h refl)

pub to_same : {i : Option Inbound} {e : Events} {x : Bool} → TellsTo i e x i e x
to_same {i} {e} {x} = to_alike i e x i e x refl refl refl

pub end_same : (a b : Association) → b ≡ a → TellsEnd a b
end_same a b is = to_alike a.inbound a.events a.is_over b.inbound b.events b.is_over (ap (λ (x : Association). streams_in x.inbound) is)
    (ap (λ (x : Association). x.events) is) (ap (λ (x : Association). x.is_over) is)

-- two steps of an association
pub end_then : {i : Option Inbound} {e : Events} {x : Bool} {j : Option Inbound} {f : Events} {y : Bool} {k : Option Inbound} {g : Events} {z : Bool}
    → TellsTo i e x j f y → TellsTo j f y k g z → TellsTo i e x k g z
end_then {i} {e} {x} {j} {f} {y} {k} {g} {z} h l = to_then i e x j f y k g z h l

-- ## What is put into a packet

-- a receiver that reports has the same streams
acks-streams : (c : ReceiverCall) (r s : Reception) → AcksBy c r s → s.streams ≡ r.streams
acks-streams (makes_sack credit bytes) r s m = ap (λ (x : Reception). x.streams) m.1.0
acks-streams forgets r s m = ap (λ (x : Reception). x.streams) m.1.0
acks-streams _ r s m = absurd (false≢true m.0)

runs-streams : (cs : List ReceiverCall) (ss : List Sack) (r s : Reception) → Runs AcksBy reported_by cs ss r s → s.streams ≡ r.streams
runs-streams [] ss r s h = ap (λ (x : Reception). x.streams) h.1
runs-streams (c ∷ cs) ss r s h = runs-streams cs h.later h.mid s h.rest ∙ acks-streams c r h.mid h.made

reports-streams : (ss : List Sack) (o p : Option Reception) → ReportsIn ss o p → streams-of p ≡ streams-of o
reports-streams ss None None h = refl
reports-streams ss (Some r) (Some s) h = runs-streams h.calls ss r s h.run
reports-streams ss None (Some s) h = absurd h
reports-streams ss (Some r) None h = absurd h

pub transmits_end : (k : Bool) (a b : Association) → Transmits k (sides_of a) (sides_of b) → IsUnmoved a b → TellsEnd a b
transmits_end k a b t u = to_alike a.inbound a.events a.is_over b.inbound b.events b.is_over
    (reports-streams t.sacks (receiver_of a.inbound) (receiver_of b.inbound) t.reported) u.events u.over

pub unmoved_end : (a b : Association) → HalvesAlike a b → IsUnmoved a b → TellsEnd a b
unmoved_end a b h u = to_alike a.inbound a.events a.is_over b.inbound b.events b.is_over (ap streams-of h.receiver) u.events u.over

-- ## The state machine

pub tells_kept : (a b : Association) → KnowsNoMore a.machine b.machine → TellsEnd a b → Tells a b
tells_kept a b k end = record {
  end = end;
  begun = λ e n. absurd (false≢true (sym e ∙ k.standing n));
  restarted = λ e n. absurd (false≢true (sym e ∙ sym k.restarted ∙ n));
}

pub tells_peer : (a b : Association) → KeepsPeer a b → TellsEnd a b → Tells a b
tells_peer a b k end = tells_kept a b k.machine end

pub tells_same : (a b : Association) → b ≡ a → Tells a b
tells_same a b is = tells_kept a b (knows_same a.machine b.machine (ap (λ (x : Association). x.machine) is)) (end_same a b is)

-- begun by one step, and kept by the next
begun-then : (a b c : Association) → Tells a b → Tells b c → is_standing a.machine.state ≡ false → is_standing c.machine.state ≡ true
    → (mid : Bool) → is_standing b.machine.state ≡ mid → c.events.connected ≡ true
begun-then a b c f g e n true is = g.end.events.kept.connected (f.begun e is)
begun-then a b c f g e n false is = g.begun is n

restarted-then : (a b c : Association) → Tells a b → Tells b c → a.machine.has_restarted ≡ false → c.machine.has_restarted ≡ true
    → (mid : Bool) → b.machine.has_restarted ≡ mid → c.events.restarted ≡ true
restarted-then a b c f g e n true is = g.end.events.kept.restarted (f.restarted e is)
restarted-then a b c f g e n false is = g.restarted is n

pub tells_then : (a b c : Association) → Tells a b → Tells b c → Tells a c
tells_then a b c f g = record {
  end = end_then f.end g.end;
  begun = λ e n. begun-then a b c f g e n (is_standing b.machine.state) refl;
  restarted = λ e n. restarted-then a b c f g e n b.machine.has_restarted refl;
}

-- ## What the state machine tells

-- an association stands, or has begun anew, only where that is told
record IsToldBy (m : Machine) (s : Step) : Type 0 where
  begun : is_standing m.state ≡ false → is_standing s.machine.state ≡ true → s.answer.told ≡ Some told.Connected
  restarted : m.has_restarted ≡ false → s.machine.has_restarted ≡ true → s.answer.told ≡ Some told.Restarted

-- none stands that did not before, and none begins anew
told-none : (m : Machine) (s : Step) → (is_standing s.machine.state ≡ true → is_standing m.state ≡ true)
    → s.machine.has_restarted ≡ m.has_restarted → IsToldBy m s
told-none m s stands same = record {
  begun = λ e n. absurd (false≢true (sym e ∙ stands n));
  restarted = λ e n. absurd (false≢true (sym e ∙ sym same ∙ n));
}

told-begins : (m n : Machine) (a : Answer) → n.has_restarted ≡ m.has_restarted → a.told ≡ Some told.Connected
    → IsToldBy m (record { machine = n; answer = a })
told-begins m n a same is = record { begun = λ e n. is; restarted = λ e n. absurd (false≢true (sym e ∙ sym same ∙ n)) }

told-restarts : (t : Ticket) (m : Machine) → is_standing m.state ≡ true → IsToldBy m (restarts t m)
told-restarts t m stands = record { begun = λ e n. absurd (false≢true (sym e ∙ stands)); restarted = λ e n. refl }

renewal-told : (s : State) (t : Ticket) (m : Machine) → m.state ≡ s → IsToldBy m (renewal_row s t m)
renewal-told Closed t m is = told-begins m _ _ refl refl
renewal-told CookieWait t m is = told-begins m _ _ refl refl
renewal-told CookieEchoed t m is = told-begins m _ _ refl refl
renewal-told Established t m is = told-restarts t m (ap is_standing is)
renewal-told ShutdownPending t m is = told-restarts t m (ap is_standing is)
renewal-told ShutdownSent t m is = told-restarts t m (ap is_standing is)
renewal-told ShutdownReceived t m is = told-restarts t m (ap is_standing is)
renewal-told ShutdownAckSent t m is = told-none m _ (λ e. e) refl

repeat-told : (s : State) (m : Machine) → IsToldBy m (repeat_row s m)
repeat-told CookieEchoed m = told-begins m _ _ refl refl
repeat-told _ m = told-none m _ (λ e. e) refl

unless-told : (stale : Bool) (m : Machine) (s : Step) → IsToldBy m s → IsToldBy m (unless_stale stale m s)
unless-told true m s t = told-none m _ (λ e. e) refl
unless-told false m s t = t

cookie-told : (r : CookieRow) (t : Ticket) (stale : Bool) (m : Machine) → IsToldBy m (cookie_step r t stale m)
cookie-told First t stale m = unless-told stale m _ (renewal-told m.state t m refl)
cookie-told Restart t stale m = unless-told stale m _ (renewal-told m.state t m refl)
cookie-told Collision t stale m = unless-told stale m _ (renewal-told m.state t m refl)
cookie-told Late t stale m = unless-told stale m _ (told-none m _ (λ e. e) refl)
cookie-told Repeat t stale m = repeat-told m.state m
cookie-told Unlisted t stale m = unless-told stale m _ (told-none m _ (λ e. e) refl)

ack-told : (s : State) (m : Machine) → IsToldBy m (cookie_ack_row s m)
ack-told CookieEchoed m = told-begins m _ _ refl refl
ack-told _ m = told-none m _ (λ e. e) refl

init-checked-told : (f : Option OfferFault) (peer : Offer) (m : Machine) → IsToldBy m (init_ack_checked f peer m)
init-checked-told None peer m = told-none m _ (λ e. absurd (false≢true e)) refl
init-checked-told (Some NoTag) peer m = told-none m _ (λ e. absurd (false≢true e)) refl
init-checked-told (Some NoStreams) peer m = told-none m _ (λ e. absurd (false≢true e)) refl
init-checked-told (Some SmallWindow) peer m = told-none m _ (λ e. e) refl

init-told : (s : State) (peer : Offer) (m : Machine) → IsToldBy m (init_ack_row s peer m)
init-told CookieWait peer m = init-checked-told (offer_fault peer) peer m
init-told _ peer m = told-none m _ (λ e. e) refl

pub passes_as : (t o : Told) (how : Ending) (a b : Association) → t ≡ o → PassesOn (Some o) how a b → PassesOn (Some t) how a b
passes_as t o how a b is p = subst (λ k. PassesOn (Some k) how a b) (sym is) p

pub passes_none : (t : Option Told) (how : Ending) (a b : Association) → t ≡ None → TellsEnd a b → b.events ≡ a.events
    → PassesOn t how a b
passes_none t how a b is end same = subst (λ k. PassesOn k how a b) (sym is) (record { end = end; told = same })

-- behind what the machine took
module _ (a b z : Association) (n : Machine) (x : Answer) (how : Ending) (moved : b.machine ≡ n) (end : TellsEnd a b) (on : PassesOn x.told how z b) where
  tells-by : (s : Step) → IsToldBy a.machine s → Takes s n x → Tells a b
  tells-by s t takes = record {
    end = end;
    begun = λ e stands. ap (λ (v : Events). v.connected) (on.told ∙ ap (λ o. passed_on o how z.events)
        (ap (λ k. k.told) takes.answer ∙ t.begun e (sym (ap (λ (k : Machine). is_standing k.state) (moved ∙ takes.machine)) ∙ stands)));
    restarted = λ e anew. ap (λ (v : Events). v.restarted) (on.told ∙ ap (λ o. passed_on o how z.events)
        (ap (λ k. k.told) takes.answer ∙ t.restarted e (sym (ap (λ (k : Machine). k.has_restarted) (moved ∙ takes.machine)) ∙ anew)));
  }

  pub tells_cookie : (t : Ticket) (stale : Bool) → Takes (on_cookie_echo t stale a.machine) n x → Tells a b
  tells_cookie t stale takes = tells-by _ (cookie-told (row_of t a.machine) t stale a.machine) takes

  pub tells_cookie_ack : Takes (on_cookie_ack a.machine) n x → Tells a b
  tells_cookie_ack takes = tells-by _ (ack-told a.machine.state a.machine) takes

  pub tells_init_ack : (peer : Offer) → Takes (on_init_ack peer a.machine) n x → Tells a b
  tells_init_ack peer takes = tells-by _ (init-told a.machine.state peer a.machine) takes

  pub tells_connect : Takes (on_connect a.machine) n x → Tells a b
  tells_connect takes = tells-by _ (told-none a.machine _ (λ e. absurd (false≢true e)) refl) takes

-- ## Sets of streams that wait

-- what is in the set without some room is in it
in-take : (k s : ℕ) (l : List Bool) → is_in s (take k l) ≡ true → is_in s l ≡ true
in-take zero s l h = absurd (false≢true h)
in-take (suc k) s [] h = absurd (false≢true h)
in-take (suc k) zero (x ∷ l) h = h
in-take (suc k) (suc s) (x ∷ l) h = in-take k s l h

-- some room is no more than all
cut-few : (k : ℕ) (l : List Bool) → length (take k l) ≤ length l
cut-few zero l = omega arith
cut-few (suc k) [] = omega arith
cut-few (suc k) (x ∷ l) = let fewer = cut-few k l in omega (arith, fewer)

-- room was made for them
pub without_keeps : (r : Rooms) (e f : Events) → without r f ≡ e → KeepsEvents e f
without_keeps r e f is = record {
  connected = λ h. ap (λ (x : Events). x.connected) is ∙ h;
  restarted = λ h. ap (λ (x : Events). x.restarted) is ∙ h;
  shutdown = λ h. ap (λ (x : Events). x.shutdown) is ∙ h;
  closed = λ h. ap (λ (x : Events). is_some x.closed) is ∙ h;
  peer_error = λ h. ap (λ (x : Events). is_some x.peer_error) is ∙ h;
  low = λ s h. in-take r.low s f.low (ap (λ (x : Events). is_in s x.low) is ∙ h);
  reset_by_us = λ s h. in-take r.reset_by_us s f.reset_by_us (ap (λ (x : Events). is_in s x.reset_by_us) is ∙ h);
  reset_refused = λ s h. in-take r.reset_refused s f.reset_refused (ap (λ (x : Events). is_in s x.reset_refused) is ∙ h);
  reset_by_peer = λ s h. ap (λ (x : Events). is_in s x.reset_by_peer) is ∙ h;
  too_long = λ s h. ap (λ (x : Events). is_in s x.too_long) is ∙ h;
  rooms = record {
    readable = omega (arith, ap (λ (x : Events). length x.readable) is);
    low = omega (arith, ap (λ (x : Events). length x.low) is, cut-few r.low f.low);
    reset_by_us = omega (arith, ap (λ (x : Events). length x.reset_by_us) is, cut-few r.reset_by_us f.reset_by_us);
    reset_refused = omega (arith, ap (λ (x : Events). length x.reset_refused) is, cut-few r.reset_refused f.reset_refused);
    reset_by_peer = omega (arith, ap (λ (x : Events). length x.reset_by_peer) is);
    too_long = omega (arith, ap (λ (x : Events). length x.too_long) is);
  };
}

pub without_end : (r : Rooms) (i : Option Inbound) (e f : Events) (x : Bool) → without r f ≡ e → TellsTo i e x i f x
without_end r i e f x is = to_kept i e x i f x refl (without_keeps r e f is) (ap (λ (v : Events). v.readable) is) refl

in-if : (b x : Bool) → x ≡ true → (if b then true else x) ≡ true
in-if true x h = refl
in-if false x h = h

-- one more is put into the set
pub stays_insert : (n : ℕ) (l m : List Bool) → (n < length l → (k : ℕ) → is_in k m ≡ (if k == n then true else is_in k l)) → (length l ≤ n → m ≡ l)
    → Stays l m
stays_insert n l m value full = by (cases_lt n (length l))
  where
    by : (n < length l) ⊎ (length l ≤ n) → Stays l m
    by (inl h) k w = value h k ∙ in-if (k == n) (is_in k l) w
    by (inr h) k w = ap (is_in k) (full h) ∙ w

kept-low : (e : Events) (m : List Bool) → Stays e.low m → length e.low ≤ length m → KeepsEvents e (record e { low = m })
kept-low e m h more = record {
  connected = λ w. w;
  restarted = λ w. w;
  shutdown = λ w. w;
  closed = λ w. w;
  peer_error = λ w. w;
  low = h;
  reset_by_us = λ s w. w;
  reset_refused = λ s w. w;
  reset_by_peer = λ s w. w;
  too_long = λ s w. w;
  rooms = record {
    readable = omega arith;
    low = more;
    reset_by_us = omega arith;
    reset_refused = omega arith;
    reset_by_peer = omega arith;
    too_long = omega arith;
  };
}

-- the low amounts are all that changed
pub low_only : (e f : Events) (m : List Bool) → f ≡ record e { low = m } → f ≡ record e { low = f.low }
low_only e f m is = is ∙ ap (λ l. record e { low = l }) (sym (ap (λ (x : Events). x.low) is))

kept-by-us : (e : Events) (m : List Bool) → Stays e.reset_by_us m → length e.reset_by_us ≤ length m → KeepsEvents e (record e { reset_by_us = m })
kept-by-us e m h more = record {
  connected = λ w. w;
  restarted = λ w. w;
  shutdown = λ w. w;
  closed = λ w. w;
  peer_error = λ w. w;
  low = λ s w. w;
  reset_by_us = h;
  reset_refused = λ s w. w;
  reset_by_peer = λ s w. w;
  too_long = λ s w. w;
  rooms = record {
    readable = omega arith;
    low = omega arith;
    reset_by_us = more;
    reset_refused = omega arith;
    reset_by_peer = omega arith;
    too_long = omega arith;
  };
}

kept-refused : (e : Events) (m : List Bool) → Stays e.reset_refused m → length e.reset_refused ≤ length m → KeepsEvents e (record e { reset_refused = m })
kept-refused e m h more = record {
  connected = λ w. w;
  restarted = λ w. w;
  shutdown = λ w. w;
  closed = λ w. w;
  peer_error = λ w. w;
  low = λ s w. w;
  reset_by_us = λ s w. w;
  reset_refused = h;
  reset_by_peer = λ s w. w;
  too_long = λ s w. w;
  rooms = record {
    readable = omega arith;
    low = omega arith;
    reset_by_us = omega arith;
    reset_refused = more;
    reset_by_peer = omega arith;
    too_long = omega arith;
  };
}

module _ (i : Option Inbound) (e : Events) (x : Bool) (m : List Bool) where
  pub to_low : Stays e.low m → length e.low ≤ length m → TellsTo i e x i (record e { low = m }) x
  to_low h more = to_kept i e x i _ x refl (kept-low e m h more) refl refl

  pub to_by_us : Stays e.reset_by_us m → length e.reset_by_us ≤ length m → TellsTo i e x i (record e { reset_by_us = m }) x
  to_by_us h more = to_kept i e x i _ x refl (kept-by-us e m h more) refl refl

  pub to_refused : Stays e.reset_refused m → length e.reset_refused ≤ length m → TellsTo i e x i (record e { reset_refused = m }) x
  to_refused h more = to_kept i e x i _ x refl (kept-refused e m h more) refl refl

-- ## One step

pub tells_still : (a b : Association) → IsKept a b → TellsEnd a b → Tells a b
tells_still a b k end = tells_kept a b (knows_same a.machine b.machine k.machine) end

-- nothing but what is due changes
pub tells_due : (a b : Association) (d : Due) → b ≡ record a { due = d } → Tells a b
tells_due a b d is = tells_kept a b (knows_same a.machine b.machine (ap (λ (x : Association). x.machine) is))
    (to_alike a.inbound a.events a.is_over b.inbound b.events b.is_over (ap (λ (x : Association). streams_in x.inbound) is)
    (ap (λ (x : Association). x.events) is) (ap (λ (x : Association). x.is_over) is))
