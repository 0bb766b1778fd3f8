-- The room that events have.
use Rattle.std.specs.Prelude.{take}
use Rattle.sctp_association.specs.declared.event.Events.{Events}
use Rattle.sctp_association.specs.declared.event.Rooms.{Rooms}

-- no more room than this
abbrev pub without : Rooms → Events → Events
without r e = record e {
  low = take r.low e.low;
  reset_by_us = take r.reset_by_us e.reset_by_us;
  reset_refused = take r.reset_refused e.reset_refused;
}
