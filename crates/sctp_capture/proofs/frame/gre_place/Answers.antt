use Rattle.std.proofs.lemmas.Result.{IfErr-weaker}
use Rattle.sctp_capture.proofs.Tunnels.{only_bridged, only_routed}
use Rattle.sctp_capture.proofs.frame.gre_place.Goals as goal

pub returns-then-typ-eq25944-clause-refused : goal.returns-then-typ-eq25944-clause-refused
returns-then-typ-eq25944-clause-refused c = IfErr-weaker c.ethernet_place.result _ _
    (λ e short at it. short at (only_bridged c.args.typ c.args.rest.now at c.if-typ-eq25944.true it)) c.ethernet_place.ensures.refused

pub returns-clause-refused : goal.returns-clause-refused
returns-clause-refused c = IfErr-weaker c.network_place.result _ _
    (λ e short at it. short at (only_routed c.args.typ c.args.rest.now at c.if-typ-eq25944.false it)) c.network_place.ensures.refused
