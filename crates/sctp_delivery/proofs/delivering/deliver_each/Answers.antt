use Rattle.sctp_delivery.proofs.Names.{◌≡◌, Some, [], ◌∷◌, ◌++◌, subst, sym}
use Rattle.std.proofs.Common.{rules, ◌*◌, ◌+◌}
use Rattle.sctp_delivery.proofs.PassedOn.{DeliverEach, none-delivered, one-delivered, where-answered}
use Rattle.sctp_delivery.proofs.delivering.deliver_each.Goals as goal

pub loop-bytes-init : goal.loop-bytes-init
loop-bytes-init c =
    let none : c.new-read.result.items ≡ [] = search rules in
    let t = c.args.sender.now in
    let r = c.args.receiver.now in
    subst (DeliverEach c.args.stream (2 * c.args.rounds + 1) 0 c.args.messages.now t r t r) (sym none)
    (none-delivered c.args.stream (2 * c.args.rounds + 1) c.args.messages.now t r)

pub loop-bytes-preserved : goal.loop-bytes-preserved
loop-bytes-preserved c =
    let i = c.loop-bytes.bytes-index in
    let messages = c.args.messages.now in
    let t = c.deliver_one.new.sender in
    let r = c.deliver_one.new.receiver in
    let each = 2 * c.args.rounds + 1 in
    let more : c.push.new.self.items ≡ c.loop-bytes.read.items ++ c.in_ok-message.message ∷ [] = search rules in
    let some : c.deliver_one.result ≡ Some c.in_ok-message.message = search rules in
    subst (DeliverEach c.args.stream each (i + 1) messages c.args.sender.now c.args.receiver.now t r) (sym more)
    (one-delivered c.args.stream each messages c.args.sender.now c.args.receiver.now i c.args.ppi c.loop-bytes.sender t c.loop-bytes.receiver r
    c.loop-bytes.read.items c.in_ok-message.message c.bytes-item.result (search rules) c.bytes-item.is c.loop-bytes.invariant
    (where-answered _ c.deliver_one.result c.in_ok-message.message some c.deliver_one.ensures))
