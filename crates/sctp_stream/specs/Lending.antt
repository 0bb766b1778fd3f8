-- A stream that lends its queue, or what its sender keeps.
use Rattle.std.specs.Borrow.{Lends, MutBor, Fml}
use Rattle.sctp_reassembly.specs.reassembly_queue.ReassemblyQueue.{ReassemblyState}
use Rattle.sctp_reassembly.specs.contracts.reassembly_queue.ReassemblyQueue as queue
use Rattle.sctp_stream.specs.declared.outbound_stream.OutboundStream.{OutboundStream}
use Rattle.sctp_stream.specs.declared.stream.StreamState.{StreamState}
use Rattle.sctp_stream.specs.contracts.outbound_stream.OutboundStream as outbound
use Rattle.sctp_stream.specs.contracts.stream.StreamState as stream

abbrev pub with_queue : StreamState → ReassemblyState → StreamState
with_queue s q = record s { reassembly_queue = q }

-- the stream ends with the last value of its queue
abbrev pub LendsQueue : MutBor StreamState → MutBor ReassemblyState → Fml
LendsQueue s r = Lends stream.the_row queue.the_row s r (with_queue s.now)

abbrev pub with_outbound : StreamState → OutboundStream → StreamState
with_outbound s o = record s { outbound = o }

-- the stream ends with the last value of that
abbrev pub LendsOutbound : MutBor StreamState → MutBor OutboundStream → Fml
LendsOutbound s r = Lends stream.the_row outbound.the_row s r (with_outbound s.now)
