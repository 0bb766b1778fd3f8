use Rattle.std.proofs.Common.{refl, subst}
use Rattle.sctp_association.proofs.Pairs.{is-answered}
use Rattle.sctp_association.proofs.SetupPairs.{beside_keeps, quiet_stays, read_quiet}
use Rattle.sctp_association.specs.HostCalls.{Leads, acts_of_read}
use Rattle.sctp_association.specs.Reads.{message_in}
use Rattle.sctp_receiver.specs.ReceiverRuns.{with_message}
use Rattle.sctp_association.proofs.pair.take.Goals as goal

pub returns-in-Ok-clause-acts : goal.returns-in-Ok-clause-acts
returns-in-Ok-clause-acts c = λ l.
    let old = c.args.one.now in
    subst (λ m. Leads old l (acts_of_read c.args.stream old.inbound) c.read.new.self (record l { read = with_message c.args.stream m l.read }))
    (is-answered c.in-Ok.message (message_in c.args.stream old.inbound) c.in-Ok.ensures.message)
    (c.each_call_is_what_a_host_does.ensures.read c.args.now c.args.stream old c.read.new.self l c.read.ensures.taken c.read.ensures.rest)

pub returns-in-Ok-clause-set_up : goal.returns-in-Ok-clause-set_up
returns-in-Ok-clause-set_up c = λ l.
    let old = c.args.one.now in
    let new = c.read.new.self in
    let leads = subst (λ m. Leads old l (acts_of_read c.args.stream old.inbound) new (record l { read = with_message c.args.stream m l.read }))
    (is-answered c.in-Ok.message (message_in c.args.stream old.inbound) c.in-Ok.ensures.message)
    (c.each_call_is_what_a_host_does.ensures.read c.args.now c.args.stream old new l c.read.ensures.taken c.read.ensures.rest) in
    quiet_stays c.two_associations_begin_once.ensures.quiet (acts_of_read c.args.stream old.inbound) old new l _ (read_quiet c.args.stream old.inbound)
    (beside_keeps old new c.read.ensures.rest) refl leads
