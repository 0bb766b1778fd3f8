use Rattle.std.proofs.Common.{arith, refl}
use Rattle.sctp_channels.proofs.Coming.{always_ok, comes_by, comes_followed, comes_less}
use Rattle.sctp_channels.proofs.Following.{of_read, of_same, of_then}
use Rattle.sctp_channels.specs.Steps.{reads}
use Rattle.sctp_channels.proofs.channels.Channels.follow_next.Goals as goal

pub returns-clause-control : goal.returns-clause-control
returns-clause-control c =
    let start = c.args.association.now in
    let read = of_read c.args.now c.args.stream start start c.hold.new.association (of_same c.args.now c.args.stream start start refl) c.requires.next
    c.in_ok-hold.ensures.read in
    of_then c.args.now c.args.stream start c.hold.new.association c.follow_held.new.association read c.follow_held.ensures.inbound

pub returns-clause-ok : goal.returns-clause-ok
returns-clause-ok c =
    always_ok _ (
    comes_followed c.args.now 1 c.follow_held.result _ _ _ (comes_by c.args.now (reads c.args.stream) _ _ c.in_ok-hold.ensures.held)
    c.follow_held.ensures.ok c.follow_held.ensures.err
    )

pub returns-clause-comes : goal.returns-clause-comes
returns-clause-comes c =
    comes_followed c.args.now 0 c.follow_held.result _ _ _
    (comes_less c.args.now 0 1 _ _ (omega arith) (comes_by c.args.now (reads c.args.stream) _ _ c.in_ok-hold.ensures.held))
    c.follow_held.ensures.ok c.follow_held.ensures.err
