use Rattle.std.proofs.Common.{◌≡◌, ◌++◌}
use Rattle.std.specs.BTreeMap.{values}
use Rattle.sctp_follow.specs.Interleave.{payload_of}
use Rattle.sctp_follow.proofs.interleave.Whole.payload.Given as goal

abbrev pub invariant-loop-fragment : goal.invariant-loop-fragment
invariant-loop-fragment l = l.bytes.items ++ payload_of l.fragment-iterator ≡ payload_of (values l.self.fragments)
