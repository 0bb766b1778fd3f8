use Rattle.std.proofs.Common.{inl, inr, subst, sym}
use Rattle.sctp_association.proofs.Pairs.{delivered, delivered-none, delivered-nothing, where-refused}
use Rattle.sctp_association.specs.declared.association.Association.{Association}
use Rattle.sctp_association.specs.HostCalls.{acts_of_read}
use Rattle.sctp_association.specs.Pairs.{Delivers}
use Rattle.sctp_association.proofs.pair.deliver.Goals as goal

pub returns-in_err-send-clause-err : goal.returns-in_err-send-clause-err
returns-in_err-send-clause-err c =
    let one = c.args.one.now in
    let other = c.args.other.now in
    where-refused c.from_residual.result (λ l m.
    inl (
    subst (λ (a : Association). Delivers l.written m.read one other a other l m) (sym c.in_err-send.ensures.err) (delivered-nothing one other l m)
    ))

pub returns-in_err-exchange-clause-err : goal.returns-in_err-exchange-clause-err
returns-in_err-exchange-clause-err c =
    where-refused c.from_residual-in_err-exchange.result (λ l m.
    inr (
    delivered-none c.args.stream c.args.ppi c.args.bytes.now c.args.one.now c.send.new.one c.exchange.new.one c.args.other.now c.exchange.new.other
    c.in_ok-send.ensures.acts c.exchange.ensures l m
    ))

pub returns-clause-ok : goal.returns-clause-ok
returns-clause-ok c =
    delivered c.args.stream c.args.ppi c.args.bytes.now c.take.result (acts_of_read c.args.stream c.exchange.new.other.inbound) c.args.one.now c.send.new.one
    c.exchange.new.one c.args.other.now c.exchange.new.other c.take.new.one c.in_ok-send.ensures.acts c.exchange.ensures c.take.ensures.acts
