use Rattle.std.proofs.Common.{◌≡◌, take}
use Rattle.sctp_receiver.specs.Receiver.{readable_streams}
use Rattle.sctp_receiver.proofs.receiver.inbound_streams.readable_each.Given as goal

abbrev pub invariant-loop-stream : goal.invariant-loop-stream
invariant-loop-stream l = l.numbers.items ≡ readable_streams (take l.stream-index l.streams)
