use Rattle.std.proofs.Common.{◌≡◌, rules, ap, ◌∙◌}
use Rattle.sctp_c.proofs.Writes.{writes-named}
use Rattle.sctp_c.proofs.sender.typed.TypedSender.write.Goals as goal

pub returns-clause-ok : goal.returns-clause-ok
returns-clause-ok c =
    writes-named c.args.stream c.args.payload_type c.args.bytes.now c.from-ppi.result c.args.self.now c.write.new.self c.write.result (search rules)
    (λ e. c.if-number-eq58.false (c.number.ensures ∙ e))
    c.write.ensures.accepted c.write.ensures.ok c.write.ensures.number c.write.ensures.count
