-- Why a message can't wait.
use Rattle.std.specs.Prelude.{◌≡◌, ◌⊎◌, ℕ, ◌-◌, Bool, nat_lt, if◌then◌else◌, Option, Some, None}
use Rattle.std.specs.Option.{option_map}
use Rattle.sctp_association.specs.declared.fault.Fault.{Fault}
use Rattle.sctp_association.specs.declared.fault.Fault.TheVariants as fault
use Rattle.sctp_outbound.specs.pending_queue.PendingQueue as pending
use Rattle.sctp_sender.specs.declared.sender.refusal.SenderRefusal.{SenderRefusal}
use Rattle.sctp_sender.specs.declared.sender.refusal.SenderRefusal.TheVariants as refusal
use Rattle.sctp_stream.specs.declared.outbound_stream.OutboundStream.{OutboundStream}
use Rattle.sctp_sender.specs.Sender.{Transmission, close_stream, is_open, open_stream, write_refusal}

abbrev pub fault_of : SenderRefusal → Fault
fault_of refusal.MessageTooLarge = fault.MessageTooLarge
fault_of refusal.QueueFull = fault.Full
fault_of _ = fault.OutOfMemory

-- a stream opens by its first message
abbrev pub opened : ℕ → Transmission → Transmission
opened stream t = if is_open stream t then t else open_stream stream t

abbrev pub closed_where : Bool → ℕ → Transmission → Transmission
closed_where was_opened stream t = if was_opened then close_stream stream t else t

-- a message has more bytes than there is room for, or the sender does not take it
abbrev pub waiting_fault : ℕ → ℕ → ℕ → Transmission → Option Fault
waiting_fault stream len most t =
    if nat_lt (most - pending.total_bytes t.flight.queue.pending) len then Some fault.Full
    else option_map fault_of (write_refusal stream len (opened stream t))

-- a call is refused for want of memory, or for what it asks
abbrev pub IsRefusal : Fault → Option Fault → Type 0
IsRefusal e asked = e ≡ fault.OutOfMemory ⊎ asked ≡ Some e

-- what is buffered on a stream: nothing where it is not open
abbrev pub amount_on : Option OutboundStream → ℕ
amount_on None = 0
amount_on (Some l) = l.buffered_amount
