use Rattle.std.proofs.Common.{arith}
use Rattle.sctp_capture.proofs.Tunnels.{no_gre_place, no_gre_room, gre_here}
use Rattle.sctp_capture.proofs.frame.inside_gre.Goals as goal

pub returns-in-Err-clause-none : goal.returns-in-Err-clause-none
returns-in-Err-clause-none c packet it =
    no_gre_place c.args.gre.now packet _ _ c.gre_header-header.ensures c.read_u16.ensures c.in-Err.ensures.refused it

pub returns-then-saturating_sub-lt-IP_HEADER-clause-none : goal.returns-then-saturating_sub-lt-IP_HEADER-clause-none
returns-then-saturating_sub-lt-IP_HEADER-clause-none c packet it =
    no_gre_room c.args.gre.now packet c.gre_header-header.result _ c.in-Ok.at c.gre_header-header.ensures c.read_u16.ensures c.in-Ok.ensures.found
    (omega (arith, c.saturating_sub.ensures, c.if-saturating_sub-lt-IP_HEADER.true)) it

pub returns-clause-some : goal.returns-clause-some
returns-clause-some c =
    gre_here c.args.gre.now c.gre_header-header.result _ c.in-Ok.at (omega arith) (c.is_version_0.ensures.0 c.if-not-is_version_0.false)
    c.gre_header-header.ensures (omega (arith, c.if-gre-header.false)) c.read_u16.ensures c.in-Ok.ensures.found
    (omega (arith, c.saturating_sub.ensures, c.if-saturating_sub-lt-IP_HEADER.false))
