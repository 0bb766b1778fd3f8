use Rattle.sctp_association.proofs.Pairs.{by-moves, exchanged-back, exchanged-then, none-exchanged}
use Rattle.sctp_association.specs.Pairs.{passes}
use Rattle.sctp_association.proofs.pair.exchange.Goals as goal

pub loop-round-init : goal.loop-round-init
loop-round-init c = none-exchanged c.args.one.now c.args.other.now

pub returns-in_err-pass : goal.returns-in_err-pass
returns-in_err-pass c =
    exchanged-then c.args.one.now c.args.other.now c.loop-round.one c.loop-round.other c.pass.new.one c.pass.new.other c.loop-round.invariant
    c.in_err-pass.ensures.err

pub returns-in_err-pass-2 : goal.returns-in_err-pass-2
returns-in_err-pass-2 c =
    let a = c.args.one.now in
    let b = c.args.other.now in
    let p = c.pass.new.one in
    let q = c.pass.new.other in
    let u = c.pass-in-loop-round.new.other in
    let v = c.pass-in-loop-round.new.one in
    let sent = c.in_ok-pass.field-0 in
    let first = exchanged-then a b c.loop-round.one c.loop-round.other p q c.loop-round.invariant
    (λ l m. by-moves c.loop-round.one p c.loop-round.other sent q (passes sent 1 p.draft.bytes) l m (c.in_ok-pass.ensures.moves l m)) in
    exchanged-then a b p q u v first (exchanged-back q p v u c.in_err-pass-2.ensures.err)

pub loop-round-preserved : goal.loop-round-preserved
loop-round-preserved c =
    let a = c.args.one.now in
    let b = c.args.other.now in
    let p = c.pass.new.one in
    let q = c.pass.new.other in
    let u = c.pass-in-loop-round.new.other in
    let v = c.pass-in-loop-round.new.one in
    let sent = c.in_ok-pass.field-0 in
    let back = c.in_ok-pass-2.field-0 in
    let first = exchanged-then a b c.loop-round.one c.loop-round.other p q c.loop-round.invariant
    (λ l m. by-moves c.loop-round.one p c.loop-round.other sent q (passes sent 1 p.draft.bytes) l m (c.in_ok-pass.ensures.moves l m)) in
    exchanged-then a b p q u v first
    (exchanged-back q p v u (λ l m. by-moves q v p back u (passes back 1 v.draft.bytes) l m (c.in_ok-pass-2.ensures.moves l m)))
