-- What a handle of a sender lends: the value behind it.
use Rattle.std.specs.Borrow.{Lends, MutBor, Fml}
use Rattle.sctp_c.specs.declared.sender.SctpSender.{SctpSender}
use Rattle.sctp_c.specs.contracts.sender.SctpSender.{the_row}
use Rattle.sctp_c.specs.contracts.sender.typed.TypedSender as Value

-- the handle once its value is w
abbrev pub with_value : SctpSender → Value.the_row.Denot → SctpSender
with_value h w = record { at = h.at; alloc = h.alloc; value = w }

-- once the borrow r ends, the value behind h is the last one written through r
abbrev pub lends_sender : MutBor SctpSender → MutBor Value.the_row.Denot → Fml
lends_sender h r = Lends the_row Value.the_row h r (with_value h.now)
