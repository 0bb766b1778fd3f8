-- Refusals of a receiver.
use Rattle.sctp_util.specs.declared.error.Error.{Error}
use Rattle.sctp_util.specs.declared.error.Error.TheVariants.{ErrInboundPacketTooLarge}
use Rattle.sctp_receiver.specs.declared.receiver.refusal.ReceiverRefusal.{ReceiverRefusal}
use Rattle.sctp_receiver.specs.declared.receiver.refusal.ReceiverRefusal.TheVariants.{MessageTooLarge, OutOfMemory}

abbrev pub receiver_refusal : Error → ReceiverRefusal
receiver_refusal ErrInboundPacketTooLarge = MessageTooLarge
receiver_refusal _ = OutOfMemory
