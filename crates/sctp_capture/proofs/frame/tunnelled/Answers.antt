use Rattle.std.proofs.Common.{sym}
use Rattle.sctp_capture.proofs.Tunnels.{only_payload}
use Rattle.sctp_capture.proofs.frame.tunnelled.Goals as goal

pub returns-in-Err-clause-none : goal.returns-in-Err-clause-none
returns-in-Err-clause-none c inner cut it = c.in-Err.ensures.refused 47 it.gre cut it.is

pub returns-then-upper-ne-GRE-clause-none : goal.returns-then-upper-ne-GRE-clause-none
returns-then-upper-ne-GRE-clause-none c inner cut it =
    let same = only_payload c.args.packet.now c.args.lost 47 it.gre cut _ _ _ it.is c.in-Ok.ensures.found in c.if-upper-ne-GRE.true (sym same.0)

pub returns-in-None-clause-none : goal.returns-in-None-clause-none
returns-in-None-clause-none c inner cut it =
    let same = only_payload c.args.packet.now c.args.lost 47 it.gre cut _ _ _ it.is c.in-Ok.ensures.found in
    c.in-None.ensures.none inner (rw same.1 at it.inside)
