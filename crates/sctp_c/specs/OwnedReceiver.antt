-- What a handle of a receiver owns: the same as a `Box<Receiver>`.
use base.Fml.{Fml, ftrue}
use base.Stored.{Coded}
use denote.RawPtr.{Ptr}
use Rattle.std.specs.Prelude.{Option, None, Some}
use Rattle.std.specs.Coded.{coded_option}
use Rattle.std.specs.Box.Ownership.{box_owns}
use Rattle.std.specs.Global.{Global}
use Rattle.std_heap.specs.contracts.GlobalAllocator.TheImpl.{ghosts}
use Rattle.sctp_receiver.specs.contracts.receiver.Receiver.{the_row}

abbrev pub receiver_owns : Global → Ptr → the_row.Denot → Fml
receiver_owns alloc = box_owns (ghosts.dealloc_token alloc) the_row

abbrev pub receiver_coded : Coded the_row.Denot
receiver_coded = the_row.coded

-- what the place of a new handle owns: nothing, or what the handle that was written there owns
abbrev pub new_receiver_owns : Global → Ptr → Option the_row.Denot → Fml
new_receiver_owns alloc p None = ftrue
new_receiver_owns alloc p (Some x) = receiver_owns alloc p x

abbrev pub new_receiver_coded : Coded (Option the_row.Denot)
new_receiver_coded = coded_option receiver_coded
