use Rattle.std.proofs.Common.{◌≡◌, ◌-◌, length}
use Rattle.sctp_handshake.specs.InitValues.{host_name_from}
use Rattle.sctp_handshake.proofs.init_value.host_name_in.Given as goal

abbrev pub invariant-loop-seen : goal.invariant-loop-seen
invariant-loop-seen l = host_name_from (length l.value - l._seen) l.value l.at ≡ host_name_from (length l.value) l.value 16
