use Rattle.std.proofs.Common.{◌≡◌, ◌+◌, refl, rules, subst}
use Rattle.sctp_association.proofs.Pairs.{none-came, one-came, where-refused}
use Rattle.sctp_association.proofs.SetupPairs.{none_offered, one_offered}
use Rattle.sctp_association.specs.HostCalls.{host_of}
use Rattle.sctp_association.specs.Pairs.{Comes, ComesSetUp}
use Rattle.sctp_association.proofs.pair.hand_over.Goals as goal

pub loop-time-init : goal.loop-time-init
loop-time-init c = (none-came c.args.datagram.now c.args.other.now, none_offered c.args.datagram.now c.args.other.now)

pub loop-time-preserved : goal.loop-time-preserved
loop-time-preserved c =
    let law = c.each_call_is_what_a_host_does.ensures.handled in
    let datagram = c.args.datagram.now in
    let old = c.loop-time.other in
    let new = c.handle_datagram.new.self in
    let so = c.two_associations_begin_once.ensures.handled in (
      one-came datagram c.loop-time._time c.args.other.now old new c.loop-time.invariant.0
          (λ l peer own. (host_of new l, ((law datagram old new l peer own c.handle_datagram.ensures.came).0, refl))),
      one_offered so datagram c.loop-time._time c.args.other.now old new c.loop-time.invariant.1 c.handle_datagram.ensures.offered,
    )

pub returns-in_err-handle_datagram-clause-err : goal.returns-in_err-handle_datagram-clause-err
returns-in_err-handle_datagram-clause-err c =
    let law = c.each_call_is_what_a_host_does.ensures.handled in
    let datagram = c.args.datagram.now in
    let old = c.loop-time.other in
    let new = c.handle_datagram.new.self in
    where-refused c.from_residual.result (
      c.loop-time._time + 1,
      one-came datagram c.loop-time._time c.args.other.now old new c.loop-time.invariant.0
          (λ l peer own. (host_of new l, ((law datagram old new l peer own c.handle_datagram.ensures.came).0, refl))),
    )

pub returns-clause-ok : goal.returns-clause-ok
returns-clause-ok c =
    let all : c.loop-time._time ≡ c.args.times = search rules in
    subst (λ n. Comes c.args.datagram.now n c.args.other.now c.loop-time.other) all c.loop-time.invariant.0

pub returns-clause-set_up : goal.returns-clause-set_up
returns-clause-set_up c =
    let all : c.loop-time._time ≡ c.args.times = search rules in
    subst (λ n. ComesSetUp c.args.datagram.now n c.args.other.now c.loop-time.other) all c.loop-time.invariant.1
