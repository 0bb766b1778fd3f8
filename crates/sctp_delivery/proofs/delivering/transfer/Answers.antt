use Rattle.sctp_delivery.proofs.Names.{◌≡◌, ◌+◌, ◌≤◌, Some, length, arith}
use Rattle.std.proofs.Common.{rules, ◌*◌}
use Rattle.std.proofs.lemmas.Nat.{mul-le}
use Rattle.sctp_sender.proofs.TakenSacks.{if-each}
use Rattle.sctp_delivery.proofs.PassedOn.{where-answered}
use Rattle.sctp_delivery.proofs.delivering.transfer.Goals as goal

pub returns : goal.returns
returns c =
    let is : c.begin.result ≡ Some (c.in_ok-sender.sender, c.in_ok-sender.receiver) = search rules in
    let begun = where-answered _ c.begin.result (c.in_ok-sender.sender, c.in_ok-sender.receiver) is c.begin.ensures in
    let one = begun.3 in
    let few = c.requires.few in
    let n = length c.args.messages.now in
    let all : (2 * c.args.rounds + 1) * n ≤ 131071 * 16383 = mul-le (2 * c.args.rounds + 1) n 131071 16383 (search rules) (omega (arith, few)) in
    if-each c.deliver_each.result (λ read same. same begun.0 begun.1 begun.2 c.requires.some (omega (arith, one, all))) c.deliver_each.ensures
