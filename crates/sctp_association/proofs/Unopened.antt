-- Of a stream that is not open no message is read.
use Rattle.std.proofs.Common.{◌≡◌, ℕ, false, None, ap, sym}
use Rattle.std.specs.Option.{option_map}
use Rattle.sctp_receiver.specs.Receiver.{Reception, is_open, message_of, message_on, stream_of}
use Rattle.sctp_reassembly.specs.reassembly_queue.ReassemblyQueue.{at_start}
use Rattle.sctp_association.proofs.Opened.{none-of}

pub nothing : (s : ℕ) (r : Reception) → is_open s r ≡ false → None ≡ option_map at_start (message_on s r)
nothing s r shut = ap (λ o. option_map at_start (message_of o)) (sym (none-of (stream_of s r) shut))
