-- The room of the sets of events stays.
use Rattle.std.proofs.Common.{◌≡◌, ℕ, ◌≤◌, Bool, List, length, Option, ap, arith}
use Rattle.sctp_association.specs.Telling.{HasPlace, HasPlaces, KeepsRooms}
use Rattle.sctp_association.specs.declared.event.Events.{Events}
use Rattle.sctp_association.specs.declared.inbound.Inbound.{Inbound}

at-least : (a b : List Bool) → b ≡ a → length a ≤ length b
at-least a b is = omega (arith, ap length is)

-- the same sets have the same room
pub rooms_alike : (e f : Events) → f.readable ≡ e.readable → f.low ≡ e.low → f.reset_by_us ≡ e.reset_by_us → f.reset_refused ≡ e.reset_refused
    → f.reset_by_peer ≡ e.reset_by_peer → f.too_long ≡ e.too_long → KeepsRooms e f
rooms_alike e f readable low us refused peer long = record {
  readable = at-least e.readable f.readable readable;
  low = at-least e.low f.low low;
  reset_by_us = at-least e.reset_by_us f.reset_by_us us;
  reset_refused = at-least e.reset_refused f.reset_refused refused;
  reset_by_peer = at-least e.reset_by_peer f.reset_by_peer peer;
  too_long = at-least e.too_long f.too_long long;
}

pub rooms_then : (e f g : Events) → KeepsRooms e f → KeepsRooms f g → KeepsRooms e g
rooms_then e f g h k = record {
  readable = omega (arith, h.readable, k.readable);
  low = omega (arith, h.low, k.low);
  reset_by_us = omega (arith, h.reset_by_us, k.reset_by_us);
  reset_refused = omega (arith, h.reset_refused, k.reset_refused);
  reset_by_peer = omega (arith, h.reset_by_peer, k.reset_by_peer);
  too_long = omega (arith, h.too_long, k.too_long);
}

-- a stream keeps its place
pub place_kept : (s : ℕ) (e f : Events) → KeepsRooms e f → HasPlace s e → HasPlace s f
place_kept s e f k h = record {
  readable = omega (arith, h.readable, k.readable);
  too_long = omega (arith, h.too_long, k.too_long);
  reset_by_peer = omega (arith, h.reset_by_peer, k.reset_by_peer);
}

pub places_kept : (i : Option Inbound) (e f : Events) → KeepsRooms e f → HasPlaces i e → HasPlaces i f
places_kept i e f k h s o = place_kept s e f k (h s o)
