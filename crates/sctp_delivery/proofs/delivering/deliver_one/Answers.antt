use Rattle.sctp_delivery.proofs.Names.{◌≡◌, Some, option_map, subst, arith, SenderMakes, message_on, writes, reads}
use Rattle.std.proofs.Common.{rules, ◌*◌, ◌+◌}
use Rattle.sctp_reassembly.specs.reassembly_queue.ReassemblyQueue.{at_start}
use Rattle.sctp_delivery.specs.Delivering.{Delivers, Exchanges}
use Rattle.sctp_delivery.specs.ReceiverCalls.{ReceiverMakes}
use Rattle.sctp_delivery.proofs.PassedOn.{delivered, if-read, none-passed, passed-again, where-answered}
use Rattle.sctp_delivery.proofs.delivering.deliver_one.Goals as goal

pub loop-round-init : goal.loop-round-init
loop-round-init c = λ stream st at few. none-passed stream c.write.new.sender c.args.receiver.now st at

pub loop-round-preserved : goal.loop-round-preserved
loop-round-preserved c = λ stream st at few.
    let n = c.loop-round._round in
    let e = c.loop-round.invariant stream st at (omega (arith, few)) in
    let some : c.pass_one.result ≡ Some c.in_ok-pass_one.field-0 = search rules in
    let h = where-answered _ c.pass_one.result c.in_ok-pass_one.field-0 some c.pass_one.ensures stream in
    let twice : 2 * n + 2 ≡ 2 * (n + 1) = omega arith in
    subst (λ k. Exchanges stream k st c.pass_one.new.sender c.pass_one.new.receiver) twice
    (passed-again stream (2 * n) c.loop-round.sender c.pass_one.new.sender c.loop-round.receiver c.pass_one.new.receiver st e h
    (omega (arith, few)))

pub returns : goal.returns
returns c =
    let stream = c.args.stream in
    let n = c.loop-round._round in
    let r = c.loop-round.receiver in
    let is : n ≡ c.args.rounds = search rules in
    let wrote : SenderMakes (writes stream c.args.ppi c.args.bytes.now) c.args.sender.now c.write.new.sender = search rules in
    let read : ReceiverMakes (reads stream) r c.read.new.receiver = search rules in
    let message : c.in_ok-ok-2.field-0 ≡ option_map at_start (message_on stream r) = search rules in
    if-read c.in_ok-ok-2.field-0 (message_on stream r) message (λ set there st at ready some few.
    subst (λ k. Delivers stream (2 * k + 1) c.args.ppi c.args.bytes.now set.chunks st c.loop-round.sender c.read.new.receiver) is
    (delivered stream c.args.ppi c.args.bytes.now (2 * n) c.args.sender.now c.write.new.sender c.loop-round.sender c.args.receiver.now r
    c.read.new.receiver set wrote (c.loop-round.invariant stream) read there st at ready some (omega (arith, is, few))))
