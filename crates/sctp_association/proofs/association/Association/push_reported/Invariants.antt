use Rattle.std.proofs.Common.{◌≡◌, ◌-◌, ◌++◌, length, map}
use Rattle.sctp_association.proofs.association.Association.push_reported.Given as goal
use Rattle.sctp_association.specs.Reports.{unrecognized}
use Rattle.sctp_params.specs.ParamKind.{parameter_of}

-- what is told stands behind what was there, and with those that are left it is what all make
abbrev pub invariant-loop-seen : goal.invariant-loop-seen
invariant-loop-seen l = map parameter_of l.params.items ++ unrecognized (length l.raw - l._seen) l.left l.raw l.at
    ≡ map parameter_of l.initial.params.items ++ unrecognized (length l.raw) l.initial.left l.raw 0
