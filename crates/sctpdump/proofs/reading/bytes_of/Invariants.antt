use Rattle.std.proofs.Common.{◌≡◌, take}
use Rattle.sctp_reassembly.specs.reassembly_queue.Fragments.{payload_of}
use Rattle.sctpdump.proofs.reading.bytes_of.Given as goal

abbrev pub invariant-loop-fragment : goal.invariant-loop-fragment
invariant-loop-fragment l = l.bytes.items ≡ payload_of (take l.fragment-index l.message.set.chunks)
