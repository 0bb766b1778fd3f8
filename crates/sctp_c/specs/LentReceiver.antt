-- What a handle of a receiver lends: the value behind it.
use Rattle.std.specs.Borrow.{Lends, MutBor, Fml}
use Rattle.sctp_c.specs.declared.receiver.SctpReceiver.{SctpReceiver}
use Rattle.sctp_c.specs.contracts.receiver.SctpReceiver.{the_row}
use Rattle.sctp_receiver.specs.contracts.receiver.Receiver as Value

-- the handle once its value is w
abbrev pub with_value : SctpReceiver → Value.the_row.Denot → SctpReceiver
with_value h w = record { at = h.at; alloc = h.alloc; value = w }

-- once the borrow r ends, the value behind h is the last one written through r
abbrev pub lends_receiver : MutBor SctpReceiver → MutBor Value.the_row.Denot → Fml
lends_receiver h r = Lends the_row Value.the_row h r (with_value h.now)
