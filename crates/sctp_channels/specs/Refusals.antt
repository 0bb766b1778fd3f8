-- Why calls are refused.
use Rattle.std.specs.Prelude.{◌≡◌, ℕ, true, false, List, Option, Some, None, is_some}
use Rattle.sctp_association.specs.declared.fault.Fault.{Fault}
use Rattle.sctp_association.specs.declared.fault.Fault.TheVariants as fault
use Rattle.sctp_channels.specs.Channels.{IsFull, channel_on, has_channel, takes_messages}
use Rattle.sctp_channels.specs.declared.channel.Channel.{Channel}
use Rattle.sctp_channels.specs.declared.channels.Refusal.{Refusal}
use Rattle.sctp_channels.specs.declared.channels.Refusal.TheVariants.{OutOfMemory, NoStream, InUse, NoChannel, NameTooLong, Association}
use Rattle.sctp_dcep.specs.Message.{write_refusal}
use Rattle.sctp_dcep.specs.declared.fault.Fault as dcep
use Rattle.sctp_dcep.specs.declared.message.Message.TheVariants as message
use Rattle.sctp_dcep.specs.declared.message.Open as request
use Rattle.sctp_dcep.specs.declared.side.Side.{Side}
use Rattle.sctp_dcep.specs.declared.fault.Fault.TheVariants as names

-- want of memory is one refusal, wherever it is
abbrev pub refusal_of : Fault → Refusal
refusal_of fault.OutOfMemory = OutOfMemory
refusal_of fault.WrongState = Association fault.WrongState
refusal_of fault.NoSuchStream = Association fault.NoSuchStream
refusal_of fault.MessageTooLarge = Association fault.MessageTooLarge
refusal_of fault.Full = Association fault.Full
refusal_of fault.Resetting = Association fault.Resetting
refusal_of fault.BadConfig = Association fault.BadConfig

abbrev pub refusal_of_name : dcep.Fault → Refusal
refusal_of_name names.OutOfMemory = OutOfMemory
refusal_of_name _ = NameTooLong

-- ## What each refusal says of the list, and of what is asked

-- of `open`
abbrev pub OpenRefused : Side → List Channel → request.Open → Refusal → Type 0
OpenRefused side list o OutOfMemory = Unit {0}
OpenRefused side list o NoStream = IsFull side list
OpenRefused side list o InUse = ⊥
OpenRefused side list o NoChannel = ⊥
OpenRefused side list o NameTooLong = is_some (write_refusal (message.Open o)) ≡ true
OpenRefused side list o (Association f) = Unit {0}

-- of `open_agreed`
abbrev pub AgreedRefused : ℕ → List Channel → Option Fault → Refusal → Type 0
AgreedRefused stream list asked OutOfMemory = Unit {0}
AgreedRefused stream list asked NoStream = ⊥
AgreedRefused stream list asked InUse = has_channel stream list ≡ true
AgreedRefused stream list asked NoChannel = ⊥
AgreedRefused stream list asked NameTooLong = ⊥
AgreedRefused stream list asked (Association f) = asked ≡ Some f

-- of `write`
abbrev pub WriteRefused : ℕ → List Channel → Option Fault → Refusal → Type 0
WriteRefused stream list asked OutOfMemory = Unit {0}
WriteRefused stream list asked NoStream = ⊥
WriteRefused stream list asked InUse = ⊥
WriteRefused stream list asked NoChannel = takes_messages (channel_on stream list) ≡ false
WriteRefused stream list asked NameTooLong = ⊥
WriteRefused stream list asked (Association f) = asked ≡ Some f

-- of `close`
abbrev pub CloseRefused : ℕ → List Channel → Refusal → Type 0
CloseRefused stream list OutOfMemory = Unit {0}
CloseRefused stream list NoStream = ⊥
CloseRefused stream list InUse = ⊥
CloseRefused stream list NoChannel = channel_on stream list ≡ None
CloseRefused stream list NameTooLong = ⊥
CloseRefused stream list (Association f) = Unit {0}

-- of a call that follows messages of RFC 8832: want of memory alone, or that too much waits for a DATA_CHANNEL_ACK
abbrev pub FollowRefused : Option Fault → Refusal → Type 0
FollowRefused asked OutOfMemory = Unit {0}
FollowRefused asked NoStream = ⊥
FollowRefused asked InUse = ⊥
FollowRefused asked NoChannel = ⊥
FollowRefused asked NameTooLong = ⊥
FollowRefused asked (Association f) = (f ≡ fault.Full) × (asked ≡ Some fault.Full)
