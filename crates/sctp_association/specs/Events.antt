-- What an association tells its user, once.
use Rattle.std.specs.Prelude.{◌≡◌, ◌⊎◌, ℕ, ◌==◌, ◌||◌, true, if◌then◌else◌, Option, Some}
use Rattle.sctp_association.specs.declared.event.Event.{Event}
use Rattle.sctp_association.specs.declared.event.Event.TheVariants as event
use Rattle.sctp_association.specs.declared.event.Events.{Events}
use Rattle.sctp_association.specs.StreamSet.{IsEmpty, is_in}

-- the event waits
abbrev pub Waits : Event → Events → Type 0
Waits event.Connected e = e.connected ≡ true
Waits event.Restarted e = e.restarted ≡ true
Waits (event.Readable s) e = is_in s e.readable ≡ true
Waits (event.BufferedAmountLow s) e = is_in s e.low ≡ true
Waits (event.ResetByUs s) e = is_in s e.reset_by_us ≡ true
Waits (event.ResetRefused s) e = is_in s e.reset_refused ≡ true
Waits (event.ResetByPeer s) e = is_in s e.reset_by_peer ≡ true
Waits (event.TooLong s) e = is_in s e.too_long ≡ true
Waits (event.PeerError c) e = e.peer_error ≡ Some c
Waits event.Shutdown e = e.shutdown ≡ true
Waits (event.Closed x) e = e.closed ≡ Some x

-- it waited, and waits no more
pub record IsTold (old new : Events) (v : Event) : Type 0 where
  pub waited : Waits v old
  pub told : Waits v new → ⊥

-- each other event that waited waits still
abbrev pub KeepsOthers : (old new : Events) → Option Event → Type 0
KeepsOthers old new told = (v : Event) → Waits v old → (told ≡ Some v) ⊎ Waits v new

-- none waits
abbrev pub NoneWaits : Events → Type 0
NoneWaits e = (v : Event) → Waits v e → ⊥

-- none waits that did not wait before
abbrev pub BringsNone : (old new : Events) → Type 0
BringsNone old new = (v : Event) → Waits v new → Waits v old

-- none waits that is of a stream
pub record NoneWaitsOfStream (e : Events) : Type 0 where
  pub readable : IsEmpty e.readable
  pub low : IsEmpty e.low
  pub reset_by_us : IsEmpty e.reset_by_us
  pub reset_refused : IsEmpty e.reset_refused
  pub reset_by_peer : IsEmpty e.reset_by_peer
  pub too_long : IsEmpty e.too_long

-- ## Which events a chunk brings

-- the old events, but those of the whole association as in the new ones: it begins, begins anew, shuts down, or ends
abbrev pub whole_from : (old new : Events) → Events
whole_from old new = record old {
  connected = new.connected;
  restarted = new.restarted;
  shutdown = new.shutdown;
  closed = new.closed;
}

-- the old ones, but of streams on which the peer writes: a message can be read, is too long, or the peer has reset the stream
abbrev pub peers_from : (old new : Events) → Events
peers_from old new = record old {
  readable = new.readable;
  too_long = new.too_long;
  reset_by_peer = new.reset_by_peer;
}

-- The old ones, but those that a chunk of this type may bring as in the new ones: of streams on which the peer writes by DATA and a FORWARD-TSN; a low
-- buffered amount by a SACK and a SHUTDOWN; an error of the peer by an ERROR; what becomes of resets by a RE-CONFIG. By DATA, a SACK and a FORWARD-TSN
-- this side may end the association. By an INIT ACK, ABORT, SHUTDOWN, SHUTDOWN-ACK, ERROR, COOKIE-ECHO, COOKIE-ACK and SHUTDOWN-COMPLETE the machine
-- tells what becomes of it. By another chunk none comes.
abbrev pub brought_at : (typ : ℕ) → (old new : Events) → Events
brought_at typ old new =
    if (typ == 0) || (typ == 192) then record (peers_from old new) { closed = new.closed }
    else (if typ == 3 then record old { closed = new.closed; low = new.low }
    else (if typ == 7 then record (whole_from old new) { low = new.low }
    else (if typ == 9 then record (whole_from old new) { peer_error = new.peer_error }
    else (if typ == 130 then record old {
      readable = new.readable;
      reset_by_us = new.reset_by_us;
      reset_refused = new.reset_refused;
      reset_by_peer = new.reset_by_peer;
    }
    else (if (typ == 2) || ((typ == 6) || ((typ == 8) || ((typ == 10) || ((typ == 11) || (typ == 14)))))
    then whole_from old new else old)))))
