use Rattle.std.proofs.Common.{ap, refl}
use Rattle.std.proofs.lemmas.Result.{on_ok_weaker}
use Rattle.sctp_association.proofs.SetupPairs.{asks_quiet, quiet_stays, rest_keeps}
use Rattle.sctp_association.specs.Asked.{calls_on}
use Rattle.sctp_association.specs.declared.association.Association.{Association}
use Rattle.sctp_association.specs.Halves.{receiver_of}
use Rattle.sctp_delivery.specs.SenderCalls.{writes}
use Rattle.sctp_association.proofs.pair.send.Goals as goal

pub returns-clause-acts : goal.returns-clause-acts
returns-clause-acts c =
    let same = ap (λ (a : Association). receiver_of a.inbound) c.write.ensures.rest in
    on_ok_weaker c.write.result (λ asked l.
    c.each_call_is_what_a_host_does.ensures.asked c.args.stream (writes c.args.stream c.args.ppi c.args.bytes.now) c.args.one.now c.write.new.self l refl
    asked same) c.write.ensures.asks

pub returns-clause-set_up : goal.returns-clause-set_up
returns-clause-set_up c =
    let old = c.args.one.now in
    let new = c.write.new.self in
    let call = writes c.args.stream c.args.ppi c.args.bytes.now in
    let rest = c.write.ensures.rest in
    let same = ap (λ (a : Association). receiver_of a.inbound) rest in
    on_ok_weaker c.write.result (λ asked l.
    quiet_stays c.two_associations_begin_once.ensures.quiet _ old new l _ (asks_quiet (calls_on c.args.stream call old.outbound.sender))
    (rest_keeps old new new.outbound new.events rest c.write.ensures.sender) refl
    (c.each_call_is_what_a_host_does.ensures.asked c.args.stream call old new l refl asked same)) c.write.ensures.asks
