use Rattle.std.proofs.Common.{◌≡◌, ◌∙◌, ap, true, false}
use Rattle.std.specs.Prelude.{nat_eq}
use lib.Pointwise.{pointwise}
use Rattle.linkscript.specs.Field.{dash}
use Rattle.linkscript.proofs.Fields.{refused}
use Rattle.linkscript.proofs.field.field_bytes.Goals as goal

not_dash : false ≡ true → ⊥
not_dash e = cc

pub returns-in-Err-clause-refused : goal.returns-in-Err-clause-refused
returns-in-Err-clause-refused c = refused c.args.text.now c.in-Err.e c.fault_of.result c.fault_of.ensures c.in-Err.ensures.err
    (λ e. not_dash (c.if-eq.ensures ∙ ap (λ t. pointwise nat_eq t dash) e))
