-- What calls of the association leave of it.
use Rattle.std.proofs.Common.{◌≡◌, ℕ, Bool, Option, ap, arith, sym, ◌∙◌}
use Rattle.sctp_association.specs.Events.{BringsNone}
use Rattle.sctp_association.specs.Telling.{KeepsEvents, TellsIn}
use Rattle.sctp_association.specs.Waiting.{opened}
use Rattle.sctp_association.specs.declared.association.Association.{Association}
use Rattle.sctp_association.specs.declared.event.Events.{Events}
use Rattle.sctp_association.specs.declared.inbound.Inbound.{Inbound}
use Rattle.sctp_association.specs.declared.outbound.Outbound.{Outbound}
use Rattle.sctp_channels.specs.Sends.{IsModed, KeepsEach, SendsOnly}
use Rattle.sctp_data.specs.declared.chunk.chunk_payload_data.ReliabilityType.{ReliabilityType}
use Rattle.sctp_sender.specs.Sender.{Transmission, with_mode_on}

pub kept_more : (a b c : Events) → KeepsEvents a b → KeepsEvents b c → KeepsEvents a c
kept_more a b c x y = record {
  connected = λ h. y.connected (x.connected h);
  restarted = λ h. y.restarted (x.restarted h);
  shutdown = λ h. y.shutdown (x.shutdown h);
  closed = λ h. y.closed (x.closed h);
  peer_error = λ h. y.peer_error (x.peer_error h);
  low = λ s h. y.low s (x.low s h);
  reset_by_us = λ s h. y.reset_by_us s (x.reset_by_us s h);
  reset_refused = λ s h. y.reset_refused s (x.reset_refused s h);
  reset_by_peer = λ s h. y.reset_by_peer s (x.reset_by_peer s h);
  too_long = λ s h. y.too_long s (x.too_long s h);
  rooms = record {
    readable = omega (arith, x.rooms.readable, y.rooms.readable);
    low = omega (arith, x.rooms.low, y.rooms.low);
    reset_by_us = omega (arith, x.rooms.reset_by_us, y.rooms.reset_by_us);
    reset_refused = omega (arith, x.rooms.reset_refused, y.rooms.reset_refused);
    reset_by_peer = omega (arith, x.rooms.reset_by_peer, y.rooms.reset_by_peer);
    too_long = omega (arith, x.rooms.too_long, y.rooms.too_long);
  };
}

-- and of a receiving half, where a message can be read of a stream
tells_more : (i j k : Option Inbound) (a b c : Events) → TellsIn i a j b → TellsIn j b k c → TellsIn i a k c
tells_more i j k a b c x y = record {
  kept = kept_more a b c x.kept y.kept;
  readable = record {
    places = λ h. y.readable.places (x.readable.places h);
    noted = λ h s n. y.readable.noted (x.readable.places h) s (x.readable.noted h s n);
  };
}

pub each_more : (a b c : Association) → KeepsEach a b → KeepsEach b c → KeepsEach a c
each_more a b c x y = record {
  kept = tells_more a.inbound b.inbound c.inbound a.events b.events c.events x.kept y.kept;
  none = λ v h. x.none v (y.none v h);
}

pub sends_more : (a b c : Association) → SendsOnly a b → SendsOnly b c → SendsOnly a c
sends_more a b c x y = record {
  rest = y.rest ∙ ap (λ (z : Association). record z { outbound = c.outbound; events = c.events }) x.rest;
  sender = y.sender ∙ ap (λ (z : Outbound). record z { sender = c.outbound.sender }) x.sender;
  events = each_more a b c x.events y.events;
}

pub moded_of : (s : ℕ) (u : Bool) (r : ReliabilityType) (v : ℕ) (a b : Association)
    → b.outbound ≡ record a.outbound { sender = with_mode_on s u r v (opened s a.outbound.sender) }
    → b ≡ record a { outbound = b.outbound; events = b.events } → BringsNone a.events b.events → TellsIn a.inbound a.events b.inbound b.events
    → IsModed s u r v a b
moded_of s u r v a b mode rest none kept = record {
  mode = mode;
  only = record {
    rest = rest;
    sender = mode ∙ ap (λ (z : Transmission). record a.outbound { sender = z }) (sym (ap (λ (o : Outbound). o.sender) mode));
    events = record { kept = kept; none = none };
  };
}
