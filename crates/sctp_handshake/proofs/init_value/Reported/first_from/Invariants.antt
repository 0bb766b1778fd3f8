use Rattle.std.proofs.Common.{◌≡◌, ◌-◌, length}
use Rattle.sctp_handshake.specs.InitValues.{told_from}
use Rattle.sctp_handshake.proofs.init_value.Reported.first_from.Given as goal

abbrev pub invariant-loop-seen : goal.invariant-loop-seen
invariant-loop-seen l = told_from (length l.value - l._seen) l.value l.at ≡ told_from (length l.value) l.value l.fn.from
