use Rattle.std.proofs.Common.{arith}
use Rattle.linkscript.proofs.Fields.{field_again}
use Rattle.linkscript.proofs.field.field_text.Goals as goal

pub returns-in-Ok-clause-reads_back : goal.returns-in-Ok-clause-reads_back
returns-in-Ok-clause-reads_back c = rw c.in-Ok.ensures (field_again c.args.bytes.now (λ i. omega (arith, c.type_inv.bytes i)))
