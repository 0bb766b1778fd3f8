-- What a handle of a sender owns: the same as a `Box<Sender>`.
use base.Fml.{Fml, ftrue}
use base.Stored.{Coded}
use denote.RawPtr.{Ptr}
use Rattle.std.specs.Prelude.{Option, None, Some}
use Rattle.std.specs.Coded.{coded_option}
use Rattle.std.specs.Box.Ownership.{box_owns}
use Rattle.std.specs.Global.{Global}
use Rattle.std_heap.specs.contracts.GlobalAllocator.TheImpl.{ghosts}
use Rattle.sctp_c.specs.contracts.sender.typed.TypedSender.{the_row}

abbrev pub sender_owns : Global → Ptr → the_row.Denot → Fml
sender_owns alloc = box_owns (ghosts.dealloc_token alloc) the_row

abbrev pub sender_coded : Coded the_row.Denot
sender_coded = the_row.coded

-- what the place of a new handle owns: nothing, or what the handle that was written there owns
abbrev pub new_sender_owns : Global → Ptr → Option the_row.Denot → Fml
new_sender_owns alloc p None = ftrue
new_sender_owns alloc p (Some x) = sender_owns alloc p x

abbrev pub new_sender_coded : Coded (Option the_row.Denot)
new_sender_coded = coded_option sender_coded
