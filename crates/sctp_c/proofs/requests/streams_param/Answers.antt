use Rattle.std.proofs.Common.{arith}
use Rattle.std.proofs.lemmas.Grind.{common_steps}
use Rattle.sctp_c.proofs.OwnParams.{streams_framed}
use Rattle.sctp_c.proofs.requests.streams_param.Goals as goal

pub returns-clause-ok : goal.returns-clause-ok
returns-clause-ok c = streams_framed c.args.typ c.args.front.now c.args.streams.now c.in_ok-freeze.field-0 (grind (arith, common_steps))
