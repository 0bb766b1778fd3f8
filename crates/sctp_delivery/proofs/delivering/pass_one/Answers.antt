use Rattle.sctp_delivery.proofs.Names.{◌≡◌, Some, None, SenderMakes, next_chunk, sends, takes_sack, sack_of, window}
use Rattle.std.proofs.Common.{rules}
use Rattle.sctp_receiver.specs.Receiver.{sack_within}
use Rattle.sctp_delivery.specs.ReceiverCalls.{ReceiverMakes, reports_within, takes}
use Rattle.sctp_delivery.proofs.PassedOn.{idle, passed}
use Rattle.sctp_delivery.proofs.delivering.pass_one.Goals as goal

pub returns-in_ok-ok-2 : goal.returns-in_ok-ok-2
returns-in_ok-ok-2 c = λ stream st at few.
    let t = c.args.sender.now in
    let u = c.send_next.new.sender in
    let q = c.args.receiver.now in
    let r = c.data.new.receiver in
    let x = c.send_sack.new.receiver in
    let k = sack_of c.in_ok-sack.sack in
    let gone = c.in_ok-ok-2.field-0.released.items in
    let sent : SenderMakes (sends c.args.now) t u = search rules in
    let next : Some c.in-Some.chunk ≡ next_chunk c.args.now t = search rules in
    let took : ReceiverMakes (takes c.in-Some.chunk c.in_ok-ok.field-0) q r = search rules in
    let made : ReceiverMakes (reports_within (window r) 1200) r x = search rules in
    let is : k ≡ sack_within (window r) 1200 r = search rules in
    let acked : u.kept ≡ None → SenderMakes (takes_sack k gone) u c.acked.new.sender = search rules in
    passed stream c.args.now 1200 c.in-Some.chunk c.in_ok-ok.field-0 k gone t u c.acked.new.sender q r x sent next took made is acked st at few

pub returns-in_default : goal.returns-in_default
returns-in_default c = λ stream st at few.
    let sent : SenderMakes (sends c.args.now) c.args.sender.now c.send_next.new.sender = search rules in
    idle stream c.args.now c.args.sender.now c.send_next.new.sender c.args.receiver.now sent st at few
