use Rattle.std.proofs.Common.{length}
use Rattle.sctp_util.specs.Walk.{Walks}
use Rattle.sctp_params.specs.ParamFraming.{after_param}
use Rattle.sctp_dissect.specs.Params.{ShowsParam}
use Rattle.sctp_dissect.proofs.params.dissect_params.Given as goal

abbrev pub invariant-walk : goal.invariant-walk
invariant-walk l = Walks ShowsParam after_param l.fn.raw l.items.items l.rest

abbrev pub decreases-walk : goal.decreases-walk
decreases-walk l = length l.rest
