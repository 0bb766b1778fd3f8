use Rattle.std.proofs.Common.{◌≡◌, ◌∷◌, ◌+◌, ◌++◌, [], ap, arith, length, rules, subst, sym}
use Rattle.sctp_association.proofs.Pairs.{DeliversFirst, none-first, one-first, transferred}
use Rattle.sctp_association.specs.HostCalls.{Log}
use Rattle.sctp_association.specs.Pairs.{DeliversOne}
use Rattle.sctp_association.proofs.pair.transfer.Goals as goal

pub loop-bytes-init : goal.loop-bytes-init
loop-bytes-init c =
    let messages = c.args.messages.now in
    let one = c.args.one.now in
    let other = c.args.other.now in
    let none : c.new-read.result.items ≡ [] = search rules in
    record {
      count = ap length none;
      all = subst (λ read. DeliversFirst c.args.stream c.args.ppi messages one other 0 read one other) (sym none)
          (none-first c.args.stream c.args.ppi messages one other);
    }

pub loop-bytes-preserved : goal.loop-bytes-preserved
loop-bytes-preserved c =
    let i = c.loop-bytes.bytes-index in
    let messages = c.args.messages.now in
    let u = c.loop-bytes.one in
    let v = c.loop-bytes.other in
    let x = c.deliver.new.one in
    let y = c.deliver.new.other in
    let more : c.push.new.self.items ≡ c.loop-bytes.read.items ++ c.in-Some.message ∷ [] = search rules in
    let one = subst (λ o. (l m : Log) → DeliversOne c.args.stream c.args.ppi c.bytes-item.result o u v x y l m) c.in-Some.is c.in_ok-message.ensures.ok in
    record {
      count = search rules;
      all = subst (λ read. DeliversFirst c.args.stream c.args.ppi messages c.args.one.now c.args.other.now (i + 1) read x y) (sym more)
          (one-first c.args.stream c.args.ppi messages c.args.one.now c.args.other.now i c.bytes-item.result c.in-Some.message c.loop-bytes.read.items u v x y
          (search rules) c.bytes-item.is c.loop-bytes.invariant.all one);
    }

pub returns : goal.returns
returns c =
    let messages = c.args.messages.now in
    let all : c.loop-bytes.bytes-index ≡ length messages = search rules in
    let count = c.loop-bytes.invariant.count in
    transferred c.args.stream c.args.ppi messages c.args.one.now c.args.other.now c.loop-bytes.read.items c.loop-bytes.one c.loop-bytes.other c.requires
    (omega (arith, all, count))
    (subst (λ n. DeliversFirst c.args.stream c.args.ppi messages c.args.one.now c.args.other.now n c.loop-bytes.read.items c.loop-bytes.one c.loop-bytes.other)
    all c.loop-bytes.invariant.all)
